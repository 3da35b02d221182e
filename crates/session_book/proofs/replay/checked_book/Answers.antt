use Rattle.std.proofs.Common.{rules}
use Rattle.session_book.proofs.replay.checked_book.Goals as goal

pub returns-in-Some : goal.returns-in-Some
returns-in-Some c = search rules

pub returns-in-None : goal.returns-in-None
returns-in-None c = search rules

pub returns-in_err-book : goal.returns-in_err-book
returns-in_err-book c = search rules
