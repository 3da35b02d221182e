use Rattle.edge_traits.proofs.Generated.{states_read}
use Rattle.edge_traits.proofs.bulk_source.BulkSource.read_states.Goals as goal

pub returns-clause-given : goal.returns-clause-given
returns-clause-given c =
    states_read _ _ _ _ _ _ _ c.requires.whole c.fill-self.ensures.state c.requires.there c.fill-self.ensures.bytes
