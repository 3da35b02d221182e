use Rattle.std.proofs.Common.{length, sym, ◌≡◌, ap, arith, ◌∙◌}
use Rattle.sd_base.specs.Books.{BookState, places_in}
use Rattle.sd_base.specs.Cutting.{chunks_of, cuts_of}
use Rattle.ingest_core.specs.declared.fault.IngestFault.TheVariants.{Store}
use Rattle.store_core.specs.declared.fault.StoreFault.TheVariants.{TooManyPlaces}
use Rattle.ingest_core.proofs.BookLemmas.{book-places, by-offers, by-refusal}
use Rattle.ingest_core.proofs.Refusals.{count-between}
use Rattle.ingest_core.proofs.TakingLemmas.{no-room_told}
use Rattle.ingest_core.proofs.taking_in.take_in.Goals as goal

pub returns-then-places-cuts-clause-ingests : goal.returns-then-places-cuts-clause-ingests
returns-then-places-cuts-clause-ingests g c =
    let store = c.args.store.now in
    let places : c.places.result ≡ places_in store.opened.book.sessions =
    c.places.ensures ∙ ap (λ (book : BookState). places_in book.sessions) c.book.ensures.book in
    no-room_told g.N.Namer.name_of store (g.F.Shelf.files c.args.shelf.now) c.args.name.now c.args.input.now c.args.cuts.now
    c.requires.open c.requires.cuts c.requires.fits (omega (arith, c.if-places-cuts.true, places))

pub returns-then-places-cuts-clause-by_book : goal.returns-then-places-cuts-clause-by_book
returns-then-places-cuts-clause-by_book g c =
    let store = c.args.store.now in
    let input = c.args.input.now in
    let places : c.places.result ≡ places_in store.opened.book.sessions =
    c.places.ensures ∙ ap (λ (book : BookState). places_in book.sessions) c.book.ensures.book in
    let count : length c.args.cuts.now ≡ length (chunks_of store.opened.head.params input) =
    ap length c.requires.cuts ∙ sym (count-between input 0 (cuts_of store.opened.head.params input)) in
    by-refusal store.opened c.args.name.now input (Store TooManyPlaces)
    (book-places store.opened c.args.name.now input c.requires.open c.requires.fits
    (omega (arith, c.if-places-cuts.true, places, count)))

pub returns-clause-by_book : goal.returns-clause-by_book
returns-clause-by_book g c =
    let store = c.args.store.now in
    let places : c.places.result ≡ places_in store.opened.book.sessions =
    c.places.ensures ∙ ap (λ (book : BookState). places_in book.sessions) c.book.ensures.book in
    by-offers store.opened c.args.name.now c.args.input.now c.args.cuts.now c.store_session.result c.requires.open c.requires.cuts
    c.requires.fits (omega (arith, c.if-places-cuts.false, places)) c.store_session.ensures.refused
    c.store_session.ensures.places c.store_session.ensures.numbers
