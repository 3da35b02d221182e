use Rattle.std.proofs.Common.{arith}
use Rattle.sd_base.specs.declared.record.Record.TheVariants.{Ingest}
use Rattle.session_book.proofs.Bodies.{body_is_short}
use Rattle.session_book.proofs.Steps.{length_spelling}
use Rattle.session_book.proofs.record_writer.ingest_len.Goals as goal

pub overflow_add-result : goal.overflow_add-result
overflow_add-result c = omega (arith, body_is_short (Ingest c.args.entry.now) c.body_len.ensures.lawful, c.body_len.ensures.size)

pub returns-clause-spelled : goal.returns-clause-spelled
returns-clause-spelled c = omega (arith, length_spelling (Ingest c.args.entry.now), c.body_len.ensures.size)

pub returns-clause-small : goal.returns-clause-small
returns-clause-small c = omega (arith, body_is_short (Ingest c.args.entry.now) c.body_len.ensures.lawful, c.body_len.ensures.size)
