use Rattle.std.proofs.Common.{arith}
use Rattle.session_book.proofs.Replaying.{read_more, read_stops, read_within}
use Rattle.session_book.proofs.replay.read_book.Goals as goal

pub overflow_cast-result : goal.overflow_cast-result
overflow_cast-result c = omega (arith, read_within c.args.max c.args.bytes.now c.loop-k.rest.now c.loop-k.k c.loop-k.book c.loop-k.invariant)

pub returns-in-Ok-None : goal.returns-in-Ok-None
returns-in-Ok-None c =
    read_stops c.args.max c.args.bytes.now c.loop-k.rest.now c.loop-k.k c.args.records c.loop-k.book c.loop-k.invariant
    (rw c.in-Ok-None.field-0-is at c.in-Ok-None.ensures) c.loop-k-test.true

pub loop-k-preserved : goal.loop-k-preserved
loop-k-preserved c =
    read_more c.args.max c.args.bytes.now c.loop-k.rest.now c.in-Ok-Some.after.now c.loop-k.k c.loop-k.book c.take_record.new.book c.loop-k.invariant
    (rw c.in-Ok-Some.field-0-is at c.in-Ok-Some.ensures)
