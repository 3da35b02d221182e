use Rattle.sd_base.proofs.Generator.{bulk_input-fits, length-bulk_input}
use Rattle.sd_base.proofs.laws.bulk_inputs_have_their_length.Goals as goal

pub returns-clause-length : goal.returns-clause-length
returns-clause-length c = length-bulk_input

pub returns-clause-fits : goal.returns-clause-fits
returns-clause-fits c = bulk_input-fits
