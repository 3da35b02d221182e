use Rattle.std.proofs.Common.{◌≡◌, ◌-◌}
use Rattle.session_book.specs.Reading.{list_at}
use Rattle.session_book.proofs.Loop.{with_front}
use Rattle.session_book.proofs.record_reader.read_list.Given as goal

abbrev pub invariant-items : goal.invariant-items
invariant-items g l = with_front l.list.items (list_at g.T.Item.at (l.count - l.counter) l.rest) ≡ list_at g.T.Item.at l.count l.bytes
