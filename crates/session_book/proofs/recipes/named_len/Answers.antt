use Rattle.std.proofs.Common.{rules}
use Rattle.session_book.proofs.recipes.named_len.Goals as goal

pub returns : goal.returns
returns c = search rules
