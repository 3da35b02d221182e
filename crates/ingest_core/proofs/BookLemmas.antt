-- An ingest goes by the committed records.
use Rattle.std.proofs.Common.{Option, false, ◌≡◌, inl, inr, ℕ, ◌+◌, ◌<◌, ◌≤◌, List, Err, IfSome, None, Some, length, refl, ap, sym, subst, ◌∙◌, arith}
use Rattle.std.proofs.lemmas.Bool.{le-leb, le-ltb, lt-leb, lt-ltb}
use Rattle.std.specs.Prelude.{◌⊎◌, IfErr, IfOk, IsErrAnd, Ok, is_some, true}
use Rattle.ingest_core.specs.ByBook.{IngestsByBook, IsBookClosedTo, IsOpenTo, refusal_by_book}
use Rattle.ingest_core.specs.Faults.{Fails, IsOfChunks, IsOfOffers, IsStoreFailure, outcome_of}
use Rattle.ingest_core.specs.Ingests.{Ends}
use Rattle.ingest_core.specs.declared.fault.IngestFault.{IngestFault}
use Rattle.ingest_core.specs.declared.fault.IngestFault.TheVariants.{SourceFault, Store}
use Rattle.sd_base.specs.Books.{live_session, places_in}
use Rattle.sd_base.specs.Cutting.{chunks_of, cuts_of}
use Rattle.sd_base.specs.Opening.{Opened}
use Rattle.sd_base.specs.declared.limits.TheConstants.{MAX_INPUT, MAX_PLACES, MAX_SESSIONS}
use Rattle.sd_base.specs.declared.outcome.Outcome.{Outcome}
use Rattle.sd_base.specs.declared.outcome.Outcome.TheVariants as outcome
use Rattle.store_core.specs.declared.fault.StoreFault.TheVariants as store
use Rattle.ingest_core.proofs.Refusals.{count-between}

module _ (opened : Opened) (name input : List ℕ) where
  abbrev places : ℕ
  places = length (chunks_of opened.head.params input)

  pub book-taken : is_some (live_session opened.book.sessions name) ≡ true →
      refusal_by_book opened name input ≡ Some outcome.NameTaken
  book-taken taken = rw taken refl

  pub book-full : live_session opened.book.sessions name ≡ None → MAX_SESSIONS ≤ length opened.book.sessions →
      refusal_by_book opened name input ≡ Some outcome.TooManySessions
  book-full free full = rw (free, le-leb MAX_SESSIONS (length opened.book.sessions) full) refl

  module _ (is_open : IsOpenTo opened.book name) where
    pub book-long : MAX_INPUT < length input → refusal_by_book opened name input ≡ Some outcome.InputTooLong
    book-long long =
        rw (
          is_open.free,
          lt-leb MAX_SESSIONS (length opened.book.sessions) is_open.few,
          lt-ltb MAX_INPUT (length input) long,
        ) refl

    pub book-places : length input ≤ MAX_INPUT → MAX_PLACES < places_in opened.book.sessions + places →
        refusal_by_book opened name input ≡ Some outcome.TooManyPlaces
    book-places fits many =
        rw (
          is_open.free,
          lt-leb MAX_SESSIONS (length opened.book.sessions) is_open.few,
          le-ltb MAX_INPUT (length input) fits,
          lt-ltb MAX_PLACES (places_in opened.book.sessions + places) many,
        ) refl

    pub book-none : length input ≤ MAX_INPUT → places_in opened.book.sessions + places ≤ MAX_PLACES →
        refusal_by_book opened name input ≡ None
    book-none fits room =
        rw (
          is_open.free,
          lt-leb MAX_SESSIONS (length opened.book.sessions) is_open.few,
          le-ltb MAX_INPUT (length input) fits,
          le-ltb MAX_PLACES (places_in opened.book.sessions + places) room,
        ) refl

  -- a refusal that the book gives
  pub by-refusal : (fault : IngestFault) → refusal_by_book opened name input ≡ Some (outcome_of fault) →
      IngestsByBook opened name input (let r : Ends = Err fault in r)
  by-refusal fault is = record {
    refused = subst (λ r. IfSome r (λ ending. Fails fault ⊎ (outcome_of fault ≡ ending))) (sym is) (inr refl);
    accepted = λ none. absurd (let clash : None ≡ Some (outcome_of fault) = sym none ∙ is in cc);
    numbers = tt;
  }

  -- a failure
  pub by-failure : (fault : IngestFault) → Fails fault → IngestsByBook opened name input (let r : Ends = Err fault in r)
  by-failure fault fails = record {
    refused = any (refusal_by_book opened name input);
    accepted = λ none. fails-offers fault fails;
    numbers = tt;
  } where
    any : (r : Option Outcome) → IfSome r (λ ending. Fails fault ⊎ (outcome_of fault ≡ ending))
    any None = tt
    any (Some ending) = inl fails

    fails-offers : (f : IngestFault) → Fails f → IsOfOffers f
    fails-offers SourceFault is = tt
    fails-offers (Store store.ShelfFault) is = tt
    fails-offers (Store store.OutOfMemory) is = tt
    fails-offers _ is = absurd is

  -- the chunks were offered
  pub by-offers : (cuts : List ℕ) (r : Ends) → IsOpenTo opened.book name → cuts ≡ cuts_of opened.head.params input →
      length input ≤ MAX_INPUT → places_in opened.book.sessions + length cuts ≤ MAX_PLACES → IfErr r IsOfChunks →
      (r ≡ Err (Store store.TooManyPlaces) → ⊥) →
      IfOk r (λ summary. (summary.session ≡ length opened.book.sessions)
      × (summary.bytes ≡ length input) × (summary.places ≡ length cuts)) →
      IngestsByBook opened name input r
  by-offers cuts r is_open are fits room only not_places numbers =
      let count : length cuts ≡ places =
      ap length are ∙ sym (count-between input 0 (cuts_of opened.head.params input)) in
      let none = book-none is_open fits (omega (arith, room, count)) in
      record {
        refused = subst (λ q. IfSome q (λ ending. IsErrAnd r (λ fault. Fails fault ⊎ (outcome_of fault ≡ ending)))) (sym none) tt;
        accepted = λ _. offers r only not_places;
        numbers = counted r count numbers;
      } where
        offers : (q : Ends) → IfErr q IsOfChunks → (q ≡ Err (Store store.TooManyPlaces) → ⊥) → IfErr q IsOfOffers
        offers (Ok summary) of not = tt
        offers (Err (Store (store.Damaged d))) of not = of
        offers (Err (Store store.TooManyPlaces)) of not = absurd (not refl)
        offers (Err (Store store.TooManyChunks)) of not = tt
        offers (Err (Store store.ShelfFault)) of not = tt
        offers (Err (Store store.OutOfMemory)) of not = tt
        offers (Err _) of not = absurd of

        counted : (q : Ends) → length cuts ≡ places → IfOk q (λ summary. (summary.session ≡ length opened.book.sessions)
            × (summary.bytes ≡ length input) × (summary.places ≡ length cuts)) →
            IfOk q (λ summary. (summary.session ≡ length opened.book.sessions)
            × (summary.bytes ≡ length input) × (summary.places ≡ places))
        counted (Ok summary) same all = (all.0, all.1, all.2 ∙ same)
        counted (Err fault) same all = tt

-- a store that is open to a session is not closed to it
pub book-open : (opened : Opened) (name : List ℕ) → IsOpenTo opened.book name → IsBookClosedTo opened.book name → ⊥
book-open opened name is_open (inl taken) =
    let clash : true ≡ false = sym taken ∙ ap is_some is_open.free in absurd cc
book-open opened name is_open (inr full) = let few = is_open.few in omega (arith, few, full)

-- a failure of the store is one of the ingest
pub failure-fails : (fault : IngestFault) → IsStoreFailure fault → Fails fault
failure-fails (Store store.ShelfFault) is = tt
failure-fails (Store store.OutOfMemory) is = tt
failure-fails _ is = absurd is
