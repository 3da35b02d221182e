use Rattle.edge_traits.proofs.Generated.{block_begins}
use Rattle.edge_traits.proofs.bulk_source.BulkSource.start_block.Goals as goal

pub returns-clause-left : goal.returns-clause-left
returns-clause-left c =
    block_begins _ _ _ _ _ _ _ c.requires.at_end c.args.self.now.in_block c.requires.more c.state_before-self.ensures
