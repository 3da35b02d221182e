use Rattle.std.proofs.Common.{rules}
use Rattle.session_book.proofs.book.append_session.Goals as goal

pub returns : goal.returns
returns c = search rules

pub returns-in_err-extend_from_slice : goal.returns-in_err-extend_from_slice
returns-in_err-extend_from_slice c = search rules
