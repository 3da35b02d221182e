use Rattle.std.proofs.Common.{arith}
use Rattle.edge_traits.proofs.Generated.{part_ends, part_read}
use Rattle.edge_traits.proofs.bulk_source.BulkSource.read_part.Goals as goal

pub returns-then-self-count-lt-STATE_LEN-clause-given : goal.returns-then-self-count-lt-STATE_LEN-clause-given
returns-then-self-count-lt-STATE_LEN-clause-given c =
    part_read _ _ _ _ _ _ _ _ c.state_after-next.ensures c.bytes_of.ensures c.requires (omega arith)
    c.copy_front-count.ensures.given

pub returns-else-self-count-lt-STATE_LEN-clause-given : goal.returns-else-self-count-lt-STATE_LEN-clause-given
returns-else-self-count-lt-STATE_LEN-clause-given c =
    part_ends _ _ _ _ _ _ _ _ _ c.state_after-next.ensures c.bytes_of.ensures c.requires (omega arith)
    c.if-self-count-lt-STATE_LEN.false c.copy_front-count.ensures.count c.copy_front-count.ensures.given
