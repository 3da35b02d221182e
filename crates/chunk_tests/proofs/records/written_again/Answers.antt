use Rattle.session_book.proofs.Sizes.{IsWithinLimits-from_IsRecord}
use Rattle.chunk_tests.proofs.records.written_again.Goals as goal

pub encode_record-requires : goal.encode_record-requires
encode_record-requires c =
    let found = c.in-Ok-Whole in
    IsWithinLimits-from_IsRecord found.entry ((found.ensures.whole found.entry found.field-0-1).0 found.field-0-is).lawful
