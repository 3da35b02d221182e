use Rattle.std.proofs.Common.{◌≡◌, length, take}
use Rattle.sd_base.specs.Books.{chunks_in}
use Rattle.sd_base.specs.References.{live_book_places}
use Rattle.store_core.specs.Counting.{CountPlaces}
use Rattle.store_core.proofs.store.counting.counts_of.Given as goal

abbrev pub invariant-loop-session : goal.invariant-loop-session
invariant-loop-session l = record {
  counted : CountPlaces (live_book_places (take l.session l.book.sessions)) l.counts;
  chunks : length l.counts ≡ length (chunks_in l.book.sessions);
}
