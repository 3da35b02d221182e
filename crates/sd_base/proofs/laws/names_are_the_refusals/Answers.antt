use Rattle.sd_base.proofs.Names.{IsName_is_no_refusal}
use Rattle.sd_base.proofs.laws.names_are_the_refusals.Goals as goal

pub returns : goal.returns
returns c = IsName_is_no_refusal
