use Rattle.session_book.specs.Replaying.{HasRead}
use Rattle.session_book.proofs.replay.read_book.Given as goal

abbrev pub invariant-loop-k : goal.invariant-loop-k
invariant-loop-k l = HasRead l.max l.bytes l.rest l.k l.book
