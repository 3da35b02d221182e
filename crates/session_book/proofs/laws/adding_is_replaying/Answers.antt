use Rattle.session_book.proofs.Replaying.{adding}
use Rattle.session_book.proofs.laws.adding_is_replaying.Goals as goal

pub returns : goal.returns
returns c = adding
