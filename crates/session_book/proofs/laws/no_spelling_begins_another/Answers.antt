use Rattle.session_book.proofs.Steps.{spelled_apart}
use Rattle.session_book.proofs.laws.no_spelling_begins_another.Goals as goal

pub returns : goal.returns
returns c = spelled_apart
