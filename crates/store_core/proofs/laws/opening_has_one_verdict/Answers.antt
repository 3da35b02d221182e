use Rattle.store_core.proofs.Verdicts.{have_one_damage, no_store_is_not_opened, no_store_is_undamaged, open_as_one, open_undamaged}
use Rattle.store_core.proofs.laws.opening_has_one_verdict.Goals as goal

pub returns-clause-opened : goal.returns-clause-opened
returns-clause-opened c = open_as_one

pub returns-clause-damaged : goal.returns-clause-damaged
returns-clause-damaged c = have_one_damage

pub returns-clause-undamaged : goal.returns-clause-undamaged
returns-clause-undamaged c = open_undamaged

pub returns-clause-not_opened : goal.returns-clause-not_opened
returns-clause-not_opened c = no_store_is_not_opened

pub returns-clause-no_damage : goal.returns-clause-no_damage
returns-clause-no_damage c = no_store_is_undamaged
