use Rattle.sd_base.specs.FlawLaws.{opened_of}
use Rattle.sd_base.proofs.Flawless.{held-flawless}
use Rattle.sd_base.proofs.FlawlessStates.{flawless-state}
use Rattle.sd_base.proofs.HeldStates.{held_state_opens}
use Rattle.sd_base.proofs.flaw_laws.flawless_files_are_those_of_lawful_states.Goals as goal

pub returns-clause-exactly : goal.returns-clause-exactly
returns-clause-exactly c = λ name_of files names. (
  λ found. let told = flawless-state name_of files found.0 found.1 found.2 in (told.0, told.1, told.2),
  λ held. (
    opened_of name_of held.0,
    held_state_opens name_of names files held.0 held.1 held.2,
    held-flawless name_of files held.0 held.1 held.2,
  ),
)

pub returns-clause-flawless : goal.returns-clause-flawless
returns-clause-flawless c = held-flawless

pub returns-clause-held : goal.returns-clause-held
returns-clause-held c = flawless-state
