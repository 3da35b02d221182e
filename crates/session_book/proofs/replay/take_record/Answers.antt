use Rattle.session_book.proofs.Replaying.{begins_within, next_from}
use Rattle.session_book.proofs.replay.take_record.Goals as goal

pub bytes_after-requires : goal.bytes_after-requires
bytes_after-requires c = begins_within c.args.bytes.now c.in-Whole.entry c.in-Whole.size ((c.in_ok-entry.ensures.whole c.in-Whole.entry c.in-Whole.size).0 c.in-Whole.is)

pub returns-in_ok-add-in-Whole : goal.returns-in_ok-add-in-Whole
returns-in_ok-add-in-Whole c =
    next_from c.args.book.now c.add.new.self c.args.bytes.now c.bytes_after.result.now c.in-Whole.entry c.in-Whole.size
    ((c.in_ok-entry.ensures.whole c.in-Whole.entry c.in-Whole.size).0 c.in-Whole.is)
    (c.may_add.ensures.0 c.if-not-may_add.false)
    c.bytes_after.ensures
    c.in_ok-add-in-Whole.ensures.added
