use Rattle.std.proofs.Common.{arith, rules}
use Rattle.std.proofs.lemmas.Grind.{common_steps}
use Rattle.sd_base.specs.Records.{ingest_body}
use Rattle.session_book.proofs.record_writer.append_body.Goals as goal

pub returns : goal.returns
unfolding ingest_body
returns c = grind (arith, common_steps)

pub returns-in_err-push : goal.returns-in_err-push
unfolding ingest_body
returns-in_err-push c = search rules

pub returns-in_err-append_chunks : goal.returns-in_err-append_chunks
unfolding ingest_body
returns-in_err-append_chunks c = search rules

pub returns-in_err-extend_from_slice : goal.returns-in_err-extend_from_slice
unfolding ingest_body
returns-in_err-extend_from_slice c = search rules

pub returns-in_err-extend_from_slice-2 : goal.returns-in_err-extend_from_slice-2
unfolding ingest_body
returns-in_err-extend_from_slice-2 c = search rules
