use Rattle.std.proofs.Common.{arith}
use Rattle.edge_traits.proofs.Streams.{front_given, none_left}
use Rattle.edge_traits.proofs.mem_source.MemSourceSource.read.Goals as goal

pub returns-clause-given : goal.returns-clause-given
returns-clause-given c =
    front_given c.args.self.now.bytes.items c.deref-2.result.now _ c.args.self.now.at _ c.deref-2.ensures.value c.copy_front-count.ensures.given

pub returns-clause-at_end : goal.returns-clause-at_end
returns-clause-at_end c =
    λ none some. none_left c.args.self.now.bytes.items c.deref-2.result.now c.args.self.now.at _ _ c.deref-2.ensures.value c.copy_front-count.ensures.count (c.count_read-room.ensures.not_empty (omega (arith, some))) (cc)
