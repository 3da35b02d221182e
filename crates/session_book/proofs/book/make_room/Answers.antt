use Rattle.std.proofs.Common.{rules}
use Rattle.session_book.proofs.book.make_room.Goals as goal

pub returns : goal.returns
returns c = search rules

pub returns-in_err-reserve : goal.returns-in_err-reserve
returns-in_err-reserve c = search rules
