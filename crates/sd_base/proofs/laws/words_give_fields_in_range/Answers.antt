use Rattle.sd_base.proofs.Commands.{numbers_in_range, names_of_sessions, raw_params}
use Rattle.sd_base.proofs.laws.words_give_fields_in_range.Goals as goal

pub returns-clause-numbers : goal.returns-clause-numbers
returns-clause-numbers c = numbers_in_range

pub returns-clause-names : goal.returns-clause-names
returns-clause-names c = names_of_sessions

pub returns-clause-parameters : goal.returns-clause-parameters
returns-clause-parameters c = raw_params
