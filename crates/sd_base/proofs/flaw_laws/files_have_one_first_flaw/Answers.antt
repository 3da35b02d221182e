use Rattle.sd_base.proofs.FoundFlaws.{found-flaw}
use Rattle.sd_base.proofs.OneFlaw.{one-flaw}
use Rattle.sd_base.proofs.flaw_laws.files_have_one_first_flaw.Goals as goal

pub returns-clause-some : goal.returns-clause-some
returns-clause-some c = found-flaw

pub returns-clause-one : goal.returns-clause-one
returns-clause-one c = one-flaw
