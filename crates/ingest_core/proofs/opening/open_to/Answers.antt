use Rattle.std.proofs.Common.{◌≡◌, ◌∙◌, sym, inr, refl, Err, rules}
use Rattle.store_core.proofs.StoreLemmas.{if_told, same-told, told_map}
use Rattle.ingest_core.specs.Ingests.{IsClosedTo}
use Rattle.ingest_core.specs.declared.fault.IngestFault.TheVariants.{Store}
use Rattle.sd_base.specs.Opening.{OpenAs}
use Rattle.sd_base.specs.States.{IsLawful}
use Rattle.sd_base.specs.Stores.{HoldState}
use Rattle.store_core.specs.declared.fault.StoreFault.TheVariants.{NameTaken, TooManySessions}
use Rattle.ingest_core.proofs.BookLemmas.{book-full, book-taken}
use Rattle.ingest_core.proofs.FaultLemmas.{counts-as, err-is, err-of, passed-is, store-is, passed-match, on-error, passed-holds}
use Rattle.ingest_core.proofs.OpeningLemmas.{IsBookRefusal, by-opened, by-opening, opens-opened, opens-refused, IsRefusalOf, closed-not, full-refused, if_held, opening-refused, reads-only, taken-refused}
use Rattle.ingest_core.proofs.opening.open_to.Goals as goal

pub returns-in_err-store-clause-open : goal.returns-in_err-store-clause-open
returns-in_err-store-clause-open g c =
    rw (passed-is (Store c.in_err-store.field-0.0) c.from_residual.result c.from_residual.ensures.1) tt

pub returns-in_err-store-clause-fresh : goal.returns-in_err-store-clause-fresh
returns-in_err-store-clause-fresh g c =
    rw (passed-is (Store c.in_err-store.field-0.0) c.from_residual.result c.from_residual.ensures.1) tt

pub returns-in_err-store-clause-opened : goal.returns-in_err-store-clause-opened
returns-in_err-store-clause-opened g c =
    rw (passed-is (Store c.in_err-store.field-0.0) c.from_residual.result c.from_residual.ensures.1) tt

pub returns-in_err-store-clause-stands : goal.returns-in_err-store-clause-stands
returns-in_err-store-clause-stands g c = λ state. if_told (g.F.Shelf.files c.args.shelf.now) (λ files lawful held.
    rw (passed-is (Store c.in_err-store.field-0.0) c.from_residual.result c.from_residual.ensures.1) tt)

pub returns-in_err-store-clause-closed : goal.returns-in_err-store-clause-closed
returns-in_err-store-clause-closed g c = λ state. if_told (g.F.Shelf.files c.args.shelf.now) (λ files lawful held closed.
    rw (passed-is (Store c.in_err-store.field-0.0) c.from_residual.result c.from_residual.ensures.1) tt)

pub returns-in_err-store-clause-reads : goal.returns-in_err-store-clause-reads
returns-in_err-store-clause-reads g c =
    let fault = c.in_err-store.field-0.0 in
    let reads = c.open.ensures.reads in
    let gave = passed-is (Store fault) c.from_residual.result c.from_residual.ensures.1 in
    record {
      same_files = reads.same_files;
      same_loose = reads.same_loose;
      counts = counts-as (λ is. c.in_err-store.was ∙ err-of _ (store-is (err-is (sym gave ∙ is)))) reads.counts;
    }

pub returns-in_err-store-clause-stands_refused : goal.returns-in_err-store-clause-stands_refused
returns-in_err-store-clause-stands_refused g c = λ state.
    let namer = g.met.N.Namer g.world.𝓛 g.world.𝓜 g.world.𝓡 ((λ s x. x), (λ x. x), (λ x. x), λ x. x) in
    let name_of = g.N.Namer.name_of in
    let name = c.args.name.now in
    let fault = c.in_err-store.field-0.0 in
    told_map {P = λ files. IsLawful state → HoldState name_of files state → IsRefusalOf state name (Store fault)}
    (g.F.Shelf.files c.args.shelf.now) (λ files refused lawful held.
    passed-holds (IsRefusalOf state name) c.from_residual.result (Store fault) c.from_residual.ensures.1 (refused lawful held))
    (opening-refused name_of namer.whole (g.F.Shelf.files c.args.shelf.now) state name c.open.result fault c.in_err-store.was
    c.open.ensures.refused c.open.ensures.no_store c.open.ensures.damaged)

pub returns-then-is_some-clause-stands_refused : goal.returns-then-is_some-clause-stands_refused
returns-then-is_some-clause-stands_refused g c = λ state.
    let name_of = g.N.Namer.name_of in
    let name = c.args.name.now in
    let store = c.in_ok-store.store in
    let told = g.F.Shelf.files c.args.shelf.now in
    let now = g.F.Shelf.files c.open.new.shelf in
    if_held name_of store name (IsRefusalOf state name (Store NameTaken)) told now state
    (same-told told now c.open.ensures.reads.same_files) (c.in_ok-store.ensures.stands state)
    (taken-refused name_of store name (search rules) state)

pub returns-then-is_some-clause-reads : goal.returns-then-is_some-clause-reads
returns-then-is_some-clause-reads g c = reads-only (λ is. absurd cc) c.open.ensures.reads

pub returns-then-sessions-ge-MAX_SESSIONS-clause-stands_refused : goal.returns-then-sessions-ge-MAX_SESSIONS-clause-stands_refused
returns-then-sessions-ge-MAX_SESSIONS-clause-stands_refused g c = λ state.
    let name_of = g.N.Namer.name_of in
    let name = c.args.name.now in
    let store = c.in_ok-store.store in
    let told = g.F.Shelf.files c.args.shelf.now in
    let now = g.F.Shelf.files c.open.new.shelf in
    if_held name_of store name (IsRefusalOf state name (Store TooManySessions)) told now state
    (same-told told now c.open.ensures.reads.same_files) (c.in_ok-store.ensures.stands state)
    (full-refused name_of store name (search rules) (search rules) state)

pub returns-then-sessions-ge-MAX_SESSIONS-clause-reads : goal.returns-then-sessions-ge-MAX_SESSIONS-clause-reads
returns-then-sessions-ge-MAX_SESSIONS-clause-reads g c = reads-only (λ is. absurd cc) c.open.ensures.reads

pub returns-clause-stands : goal.returns-clause-stands
returns-clause-stands g c = λ state. c.in_ok-store.ensures.stands state

pub returns-clause-closed : goal.returns-clause-closed
returns-clause-closed g c = λ state.
    let name_of = g.N.Namer.name_of in
    let name = c.args.name.now in
    let store = c.in_ok-store.store in
    let told = g.F.Shelf.files c.args.shelf.now in
    let now = g.F.Shelf.files c.open.new.shelf in
    if_held name_of store name (IsClosedTo state name → ⊥) told now state
    (same-told told now c.open.ensures.reads.same_files) (c.in_ok-store.ensures.stands state)
    (closed-not name_of store name (record { free = search rules; few = search rules }) state)

pub returns-clause-reads : goal.returns-clause-reads
returns-clause-reads g c = reads-only (λ is. absurd cc) c.open.ensures.reads

pub returns-in_err-store-clause-opens : goal.returns-in_err-store-clause-opens
returns-in_err-store-clause-opens g c =
    on-error c.from_residual.result
    (opens-refused (g.F.Shelf.files c.args.shelf.now) c.open.result c.in_err-store.field-0.0 c.from_residual.result
    c.in_err-store.was c.from_residual.ensures.1 c.open.ensures.refused c.open.ensures.no_store c.open.ensures.damaged)

pub returns-then-is_some-clause-opens : goal.returns-then-is_some-clause-opens
returns-then-is_some-clause-opens g c =
    opens-opened (g.F.Shelf.files c.args.shelf.now) c.in_ok-store.store.opened (Err (Store NameTaken))
    c.in_ok-store.ensures.opened (λ same. absurd cc) (λ damage same. absurd cc)

pub returns-then-sessions-ge-MAX_SESSIONS-clause-opens : goal.returns-then-sessions-ge-MAX_SESSIONS-clause-opens
returns-then-sessions-ge-MAX_SESSIONS-clause-opens g c =
    opens-opened (g.F.Shelf.files c.args.shelf.now) c.in_ok-store.store.opened (Err (Store TooManySessions))
    c.in_ok-store.ensures.opened (λ same. absurd cc) (λ damage same. absurd cc)

pub returns-in_err-store-clause-by_book : goal.returns-in_err-store-clause-by_book
returns-in_err-store-clause-by_book g c = λ opened.
    let told = g.F.Shelf.files c.args.shelf.now in
    let name = c.args.name.now in
    let fault = c.in_err-store.field-0.0 in
    told_map {P = λ files. OpenAs files opened → IsBookRefusal opened name (Store fault)} told
    (λ files refused opens. passed-match _ (IsBookRefusal opened name) c.from_residual.result (Store fault)
    c.from_residual.ensures.1 (refused opens))
    (by-opening told c.open.result fault c.in_err-store.was c.open.ensures.refused c.open.ensures.no_store
    c.open.ensures.damaged name opened)

pub returns-then-is_some-clause-by_book : goal.returns-then-is_some-clause-by_book
returns-then-is_some-clause-by_book g c =
    let name = c.args.name.now in
    let own = c.in_ok-store.store.opened in
    by-opened (g.F.Shelf.files c.args.shelf.now) own (λ opened. IsBookRefusal opened name (Store NameTaken))
    c.in_ok-store.ensures.opened (inr (λ input. book-taken own name input (search rules)))

pub returns-then-sessions-ge-MAX_SESSIONS-clause-by_book : goal.returns-then-sessions-ge-MAX_SESSIONS-clause-by_book
returns-then-sessions-ge-MAX_SESSIONS-clause-by_book g c =
    let name = c.args.name.now in
    let own = c.in_ok-store.store.opened in
    by-opened (g.F.Shelf.files c.args.shelf.now) own (λ opened. IsBookRefusal opened name (Store TooManySessions))
    c.in_ok-store.ensures.opened (inr (λ input. book-full own name input (search rules) (search rules)))

pub returns-clause-by_book : goal.returns-clause-by_book
returns-clause-by_book g c =
    let own = c.in_ok-store.store.opened in
    by-opened (g.F.Shelf.files c.args.shelf.now) own (λ opened. own ≡ opened) c.in_ok-store.ensures.opened refl
