use Rattle.sd_base.proofs.Passes.{given_back}
use Rattle.sd_base.proofs.state_laws.inputs_are_given_back.Goals as goal

pub returns : goal.returns
returns c = given_back
