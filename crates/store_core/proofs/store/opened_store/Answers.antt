use Rattle.std.proofs.Common.{rules, ◌≡◌, ◌++◌, []}
use Rattle.sd_base.specs.Books.{chunks_in}
use Rattle.store_core.specs.StoreFields.{ArePlaced}
use Rattle.store_core.proofs.SessionLemmas.{committed-unflushed}
use Rattle.store_core.proofs.store.opened_store.Goals as goal

pub invariant_of-result : goal.invariant_of-result
invariant_of-result g c =
    let chunks = chunks_in c.args.book.sessions in
    let spots = c.in_ok-spots.spots.items in
    let none : c.new.result.items ≡ [] = search rules in
    let placed : ArePlaced (chunks ++ c.new.result.items) c.args.head.generation spots c.resume.result c.new-2.result =
    search rules in (
      c.requires.max,
      placed,
      committed-unflushed chunks c.new.result.items c.args.head.generation spots c.resume.result c.new-2.result placed none,
      c.in_ok-counts.ensures.counted,
    )
