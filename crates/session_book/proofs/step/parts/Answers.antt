use Rattle.std.proofs.Common.{rules}
use Rattle.session_book.specs.Reading.{parts_at}
use Rattle.session_book.proofs.step.parts.Goals as goal

pub returns-in-empty : goal.returns-in-empty
unfolding parts_at
returns-in-empty c = search rules

pub returns-in_err-size-in-len1-up : goal.returns-in_err-size-in-len1-up
unfolding parts_at
returns-in_err-size-in-len1-up c = search rules

pub returns-in_err-body-in-len1-up : goal.returns-in_err-body-in-len1-up
unfolding parts_at
returns-in_err-body-in-len1-up c = search rules
