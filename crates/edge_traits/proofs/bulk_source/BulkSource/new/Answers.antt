use Rattle.edge_traits.proofs.Generated.{none_read}
use Rattle.edge_traits.proofs.bulk_source.BulkSource.new.Goals as goal

pub returns : goal.returns
returns c = none_read c.args.seed c.args.blocks 0
