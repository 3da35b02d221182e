use Rattle.std.proofs.Common.{arith}
use Rattle.edge_traits.proofs.Generated.{all_read}
use Rattle.edge_traits.proofs.bulk_source.BulkSourceSource.read.Goals as goal

pub returns-then-self-eq0-clause-at_end : goal.returns-then-self-eq0-clause-at_end
returns-then-self-eq0-clause-at_end c = λ none some. all_read _ _ _ _ _ _ (omega arith) (omega arith)
