use Rattle.sd_base.proofs.States.{stored_chunks-followed, records_of-followed}
use Rattle.sd_base.proofs.state_laws.stores_only_grow.Goals as goal

pub returns-clause-chunks : goal.returns-clause-chunks
returns-clause-chunks c = stored_chunks-followed

pub returns-clause-records : goal.returns-clause-records
returns-clause-records c = records_of-followed
