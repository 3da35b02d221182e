use Rattle.sd_base.specs.Words.{command_of}
use Rattle.sd_base.proofs.Commands.{names_of_sessions, raw_params}
use Rattle.sd_base.proofs.Passes.{lawful-after, state-stays}
use Rattle.sd_base.proofs.state_laws.runs_keep_states_lawful.Goals as goal

pub returns-clause-lawful : goal.returns-clause-lawful
returns-clause-lawful c = λ words state input lawful.
    lawful-after (command_of words) (names_of_sessions words) (raw_params words) state input lawful

pub returns-clause-refused : goal.returns-clause-refused
returns-clause-refused c = λ words. state-stays (command_of words)
