use Rattle.std.proofs.Common.{ℕ, List, [], IfSome, refl, sym, subst, ◌∙◌}
use Rattle.store_core.specs.StoreStates.{StandsFor}
use Rattle.store_core.proofs.StoreLemmas.{if_told, same-told, told_map}
use Rattle.ingest_core.specs.Ingests.{Ends, Ingests, IngestsInto, ReadsSource, RefusesWithCause}
use Rattle.ingest_core.specs.ByBook.{IngestsByBook, IsBookClosedTo}
use Rattle.ingest_core.proofs.BookLemmas.{book-open}
use Rattle.ingest_core.proofs.FaultLemmas.{counts-as, counts-on, at-match, passed-is, at-error, err-is, err-of}
use Rattle.ingest_core.proofs.Inputs.{some_input}
use Rattle.ingest_core.proofs.OpeningLemmas.{IsBookRefusal, IsRefusalOf}
use Rattle.ingest_core.specs.Faults.{IsOfOpenTo, IsOfReading}
use Rattle.ingest_core.proofs.Runs.{as-it-was, opening-reads, opened-sound, opened-book, opening-book, taking-reads, reading-causes, taking-causes, one-input, opening-causes, reading-into, reading-reads, refused-so, taking-into, taking-leaves}
use Rattle.ingest_core.proofs.session.ingest.Goals as goal

pub returns-in_err-store-clause-ingests : goal.returns-in_err-store-clause-ingests
returns-in_err-store-clause-ingests g c =
    let name_of = g.N.Namer.name_of in
    let name = c.args.name.now in
    let told = g.F.Shelf.files c.args.shelf.now in
    let now = g.F.Shelf.files c.open_to.new.shelf in
    let left = g.R.Source.left c.args.source.now in
    let fault = c.in_err-store.field-0.0 in
    let some = some_input left in
    subst (λ (q : Ends). Ingests name_of name left q told now)
    (sym (passed-is fault c.from_residual.result c.from_residual.ensures.1)) (
      some.0,
      some.1,
      (λ state. refused-so name_of state name some.0 fault told now (same-told told now c.open_to.ensures.reads.same_files)
          (told_map told (λ files refused lawful held. one-input state name some.0 fault
          (at-error (IsRefusalOf state name) c.open_to.result fault c.in_err-store.was (refused lawful held)))
          (c.open_to.ensures.stands_refused state))),
      λ opened. opening-book told name some.0 fault opened
          (told_map told (λ files refused opens. at-match _ (IsBookRefusal opened name) c.open_to.result fault c.in_err-store.was
          (refused opens)) (c.open_to.ensures.by_book opened)),
    )

pub returns-in_err-store-clause-early : goal.returns-in_err-store-clause-early
returns-in_err-store-clause-early g c = λ state. if_told (g.F.Shelf.files c.args.shelf.now) (λ files lawful held closed. refl)

pub returns-in_err-store-clause-unread : goal.returns-in_err-store-clause-unread
returns-in_err-store-clause-unread g c = if_told (g.F.Shelf.files c.args.shelf.now) (λ files none. refl)

pub returns-in_err-store-clause-unopened : goal.returns-in_err-store-clause-unopened
returns-in_err-store-clause-unopened g c = if_told (g.F.Shelf.files c.args.shelf.now) (λ files none.
    (c.open_to.ensures.reads.same_files, c.open_to.ensures.reads.same_loose))

pub returns-in_err-store-clause-early_by_book : goal.returns-in_err-store-clause-early_by_book
returns-in_err-store-clause-early_by_book g c = λ opened.
    if_told (g.F.Shelf.files c.args.shelf.now) (λ files opens closed. refl)

pub returns-in_err-store-clause-reads : goal.returns-in_err-store-clause-reads
returns-in_err-store-clause-reads g c =
    let fault = c.in_err-store.field-0.0 in
    subst (λ (q : Ends). ReadsSource q g.R.Source.left c.args.source.now c.args.source.now)
    (sym (passed-is fault c.from_residual.result c.from_residual.ensures.1))
    (opening-reads fault g.R.Source.left c.args.source.now
    (at-error IsOfOpenTo c.open_to.result fault c.in_err-store.was c.open_to.ensures.refused))

pub returns-in_err-store-clause-leaves : goal.returns-in_err-store-clause-leaves
returns-in_err-store-clause-leaves g c =
    let reads = c.open_to.ensures.reads in
    as-it-was c.from_residual.result g.F.Shelf.files g.F.Shelf.loose c.args.shelf.now c.open_to.new.shelf
    reads.same_files reads.same_loose

pub returns-in_err-store-clause-shelf_counts : goal.returns-in_err-store-clause-shelf_counts
returns-in_err-store-clause-shelf_counts g c =
    let fault = c.in_err-store.field-0.0 in
    let gave = passed-is fault c.from_residual.result c.from_residual.ensures.1 in
    counts-as (λ is. c.in_err-store.was ∙ err-of _ (err-is (sym gave ∙ is))) c.open_to.ensures.reads.counts

pub returns-in_err-input-clause-leaves : goal.returns-in_err-input-clause-leaves
returns-in_err-input-clause-leaves g c =
    let reads = c.open_to.ensures.reads in
    as-it-was c.from_residual-in_err-input.result g.F.Shelf.files g.F.Shelf.loose c.args.shelf.now c.open_to.new.shelf
    reads.same_files reads.same_loose

pub returns-in_err-input-clause-source_counts : goal.returns-in_err-input-clause-source_counts
returns-in_err-input-clause-source_counts g c =
    let fault = c.in_err-input.field-0.0 in
    let gave = passed-is fault c.from_residual-in_err-input.result c.from_residual-in_err-input.ensures.1 in
    counts-as (λ is. c.in_err-input.was ∙ err-of _ (err-is (sym gave ∙ is))) c.read_cut.ensures.counts

pub returns-in_err-store-clause-causes : goal.returns-in_err-store-clause-causes
returns-in_err-store-clause-causes g c =
    let told = g.F.Shelf.files c.args.shelf.now in
    let fault = c.in_err-store.field-0.0 in
    subst (λ (q : Ends). RefusesWithCause q told) (sym (passed-is fault c.from_residual.result c.from_residual.ensures.1))
    (opening-causes told c.open_to.result fault c.in_err-store.was c.open_to.ensures.refused c.open_to.ensures.opens)

pub returns-in_err-input-clause-causes : goal.returns-in_err-input-clause-causes
returns-in_err-input-clause-causes g c =
    let told = g.F.Shelf.files c.args.shelf.now in
    let fault = c.in_err-input.field-0.0 in
    subst (λ (q : Ends). RefusesWithCause q told)
    (sym (passed-is fault c.from_residual-in_err-input.result c.from_residual-in_err-input.ensures.1))
    (reading-causes told c.in_ok-store.store.opened fault c.in_ok-store.ensures.opened
    (at-error IsOfReading c.read_cut.result fault c.in_err-input.was c.read_cut.ensures.refused))

pub returns-clause-causes : goal.returns-clause-causes
returns-clause-causes g c =
    taking-causes (g.F.Shelf.files c.args.shelf.now) c.in_ok-store.store.opened c.take_in.result c.in_ok-store.ensures.opened
    c.take_in.ensures.refused

pub returns-in_err-input-clause-ingests : goal.returns-in_err-input-clause-ingests
returns-in_err-input-clause-ingests g c =
    let name_of = g.N.Namer.name_of in
    let name = c.args.name.now in
    let told = g.F.Shelf.files c.args.shelf.now in
    let now = g.F.Shelf.files c.open_to.new.shelf in
    let left = g.R.Source.left c.args.source.now in
    let fault = c.in_err-input.field-0.0 in
    subst (λ (q : Ends). Ingests name_of name left q told now)
    (sym (passed-is fault c.from_residual-in_err-input.result c.from_residual-in_err-input.ensures.1))
    (reading-into name_of c.in_ok-store.store name told now left fault c.in_ok-store.ensures.open
    (same-told told now c.open_to.ensures.reads.same_files) (λ state. c.in_ok-store.ensures.stands state)
    (λ opened. c.in_ok-store.ensures.by_book opened)
    (at-error IsOfReading c.read_cut.result fault c.in_err-input.was c.read_cut.ensures.refused)
    (λ is. c.read_cut.ensures.too_long (c.in_err-input.was ∙ err-of _ is)))

pub returns-in_err-input-clause-early : goal.returns-in_err-input-clause-early
returns-in_err-input-clause-early g c = λ state.
    told_map (g.F.Shelf.files c.args.shelf.now) (λ files no lawful held closed. absurd (no lawful held closed))
    (c.in_ok-store.ensures.closed state)

pub returns-clause-ingests : goal.returns-clause-ingests
returns-clause-ingests g c =
    let name_of = g.N.Namer.name_of in
    let name = c.args.name.now in
    let store = c.in_ok-store.store in
    let told = g.F.Shelf.files c.args.shelf.now in
    let now = g.F.Shelf.files c.open_to.new.shelf in
    let after = g.F.Shelf.files c.take_in.new.shelf in
    let input = c.in_ok-input.input.items in
    let same = c.deref.ensures.value in (
      input,
      c.in_ok-input.ensures.input,
      (λ state. taking-into name_of store name input told now after c.take_in.result state
          (same-told told now c.open_to.ensures.reads.same_files) (c.in_ok-store.ensures.stands state)
          (subst (λ (read : List ℕ). IfSome now (λ files. StandsFor name_of store files state [] →
          IngestsInto name_of state name read c.take_in.result files after)) same (c.take_in.ensures.ingests state))),
      λ opened. opened-book told store.opened (λ o. IngestsByBook o name input c.take_in.result) opened
          (c.in_ok-store.ensures.by_book opened)
          (subst (λ (read : List ℕ). IngestsByBook store.opened name read c.take_in.result) same c.take_in.ensures.by_book),
    )

pub returns-clause-early : goal.returns-clause-early
returns-clause-early g c = λ state.
    told_map (g.F.Shelf.files c.args.shelf.now) (λ files no lawful held closed. absurd (no lawful held closed))
    (c.in_ok-store.ensures.closed state)

pub returns-clause-leaves : goal.returns-clause-leaves
returns-clause-leaves g c =
    taking-leaves c.take_in.result g.F.Shelf.files g.F.Shelf.loose c.args.shelf.now c.open_to.new.shelf c.take_in.new.shelf
    c.open_to.ensures.reads.same_files c.open_to.ensures.reads.same_loose c.take_in.ensures.refused c.take_in.ensures.unchanged

pub returns-clause-reads : goal.returns-clause-reads
returns-clause-reads g c =
    taking-reads c.take_in.result g.R.Source.left c.args.source.now c.read_cut.new.source c.take_in.ensures.refused
    c.in_ok-input.ensures.at_end c.in_ok-input.ensures.fits_left c.read_cut.ensures.taken_at_most

pub returns-in_err-input-clause-early_by_book : goal.returns-in_err-input-clause-early_by_book
returns-in_err-input-clause-early_by_book g c = λ opened.
    let name = c.args.name.now in
    let store = c.in_ok-store.store in
    told_map (g.F.Shelf.files c.args.shelf.now) (λ files closed opens is. absurd (closed opens is))
    (opened-book (g.F.Shelf.files c.args.shelf.now) store.opened (λ o. IsBookClosedTo o.book name → ⊥) opened
    (c.in_ok-store.ensures.by_book opened) (book-open store.opened name c.in_ok-store.ensures.open))

pub returns-clause-early_by_book : goal.returns-clause-early_by_book
returns-clause-early_by_book g c = λ opened.
    let name = c.args.name.now in
    let store = c.in_ok-store.store in
    told_map (g.F.Shelf.files c.args.shelf.now) (λ files closed opens is. absurd (closed opens is))
    (opened-book (g.F.Shelf.files c.args.shelf.now) store.opened (λ o. IsBookClosedTo o.book name → ⊥) opened
    (c.in_ok-store.ensures.by_book opened) (book-open store.opened name c.in_ok-store.ensures.open))

pub returns-clause-shelf_counts : goal.returns-clause-shelf_counts
returns-clause-shelf_counts g c =
    counts-on _ _ g.F.Shelf.faults g.F.Shelf.faultless c.args.shelf.now c.open_to.new.shelf c.take_in.new.shelf
    c.open_to.ensures.reads.counts c.take_in.ensures.counts

pub returns-in_err-input-clause-unread : goal.returns-in_err-input-clause-unread
returns-in_err-input-clause-unread g c =
    told_map (g.F.Shelf.files c.args.shelf.now) (λ files sound is. absurd (sound is))
    (opened-sound (g.F.Shelf.files c.args.shelf.now) c.in_ok-store.store.opened c.in_ok-store.ensures.opened)

pub returns-clause-unread : goal.returns-clause-unread
returns-clause-unread g c =
    told_map (g.F.Shelf.files c.args.shelf.now) (λ files sound is. absurd (sound is))
    (opened-sound (g.F.Shelf.files c.args.shelf.now) c.in_ok-store.store.opened c.in_ok-store.ensures.opened)

pub returns-in_err-input-clause-unopened : goal.returns-in_err-input-clause-unopened
returns-in_err-input-clause-unopened g c =
    told_map (g.F.Shelf.files c.args.shelf.now) (λ files sound is. absurd (sound is))
    (opened-sound (g.F.Shelf.files c.args.shelf.now) c.in_ok-store.store.opened c.in_ok-store.ensures.opened)

pub returns-clause-unopened : goal.returns-clause-unopened
returns-clause-unopened g c =
    told_map (g.F.Shelf.files c.args.shelf.now) (λ files sound is. absurd (sound is))
    (opened-sound (g.F.Shelf.files c.args.shelf.now) c.in_ok-store.store.opened c.in_ok-store.ensures.opened)

pub returns-in_err-input-clause-reads : goal.returns-in_err-input-clause-reads
returns-in_err-input-clause-reads g c =
    let left = g.R.Source.left in
    let fault = c.in_err-input.field-0.0 in
    subst (λ (q : Ends). ReadsSource q left c.args.source.now c.read_cut.new.source)
    (sym (passed-is fault c.from_residual-in_err-input.result c.from_residual-in_err-input.ensures.1))
    (reading-reads fault left c.args.source.now c.read_cut.new.source
    (at-error IsOfReading c.read_cut.result fault c.in_err-input.was c.read_cut.ensures.refused)
    c.read_cut.ensures.taken_at_most
    (λ is. c.read_cut.ensures.too_long (c.in_err-input.was ∙ err-of _ is))
    (λ is. c.read_cut.ensures.taken (c.in_err-input.was ∙ err-of _ is)))
