use Rattle.std.proofs.Common.{rules}
use Rattle.edge_traits.proofs.Streams.{writes_more}
use Rattle.edge_traits.proofs.file_io.write_full.Goals as goal

pub loop-done-preserved : goal.loop-done-preserved
loop-done-preserved g c = (search rules, writes_more _ _ _ _ _ _ c.loop-done.invariant.1 c.in_ok-count.ensures.bytes)
