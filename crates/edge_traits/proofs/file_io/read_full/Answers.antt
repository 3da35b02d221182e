use Rattle.std.proofs.Common.{rules}
use Rattle.edge_traits.proofs.Streams.{reads_more}
use Rattle.edge_traits.proofs.file_io.read_full.Goals as goal

pub loop-done-preserved : goal.loop-done-preserved
loop-done-preserved g c = (search rules, reads_more _ _ _ _ _ _ _ (cc) c.loop-done.invariant.1 c.in_ok-count.ensures.bytes)
