use Rattle.session_book.proofs.OneReading.{whole_unless, damaged_unless}
use Rattle.session_book.proofs.book.Book.replay.Goals as goal

pub returns-clause-whole : goal.returns-clause-whole
returns-clause-whole c = whole_unless c.args.max c.args.bytes.now c.args.records c.checked_book.result c.checked_book.ensures

pub returns-clause-damaged : goal.returns-clause-damaged
returns-clause-damaged c = damaged_unless c.args.max c.args.bytes.now c.args.records c.checked_book.result c.checked_book.ensures
