-- Files hold at most one lawful state.
use Rattle.std.proofs.Common.{◌≡◌, ℕ, suc, ◌<◌, ◌≤◌, true, List, [], ◌∷◌, ◌++◌, length, map, refl, ap, sym, subst, ◌∙◌, arith, append-nil}
use Rattle.std.specs.List.{All}
use Rattle.std.proofs.lemmas.List.{append_assoc}
use Rattle.std.proofs.lemmas.List.Elements.{All-from_recursion}
use Rattle.sd_base.specs.Books.{AreRecords, book_of, followed_by}
use Rattle.sd_base.specs.Distinct.{is_among}
use Rattle.sd_base.specs.Opening.{Opened}
use Rattle.sd_base.specs.Records.{spelling_of}
use Rattle.sd_base.specs.StateBooks.{book_of_state}
use Rattle.sd_base.specs.StateLaws.{chunk_at}
use Rattle.sd_base.specs.States.{Event, ingested, dropped, IsLawful, State, placed_chunks, stored_chunks}
use Rattle.sd_base.specs.Stores.{GivesNames, HoldState, records_from, records_of}
use Rattle.sd_base.specs.declared.file.File.{File}
use Rattle.sd_base.specs.declared.file.File.TheVariants.{Book, Seal}
use Rattle.sd_base.specs.declared.raw_params.RawParams.{RawParams}
use Rattle.sd_base.specs.declared.record.Record.{Record}
use Rattle.sd_base.specs.declared.record.Record.TheVariants.{Ingest, Drop}
use Rattle.sd_base.specs.declared.record.Session.{Session}
use Rattle.sd_base.proofs.HeldStates.{held_state_opens, state-records, state-records-count, stored-some}
use Rattle.sd_base.proofs.Recipes.{chunks-of_recipe}
use Rattle.sd_base.proofs.States.{among_first, among_second, placed-stored}
use Rattle.session_book.proofs.Steps.{spelled_apart}
use Rattle.store_core.specs.StoreFields.{lengths_of}
use Rattle.store_core.specs.StoreStates.{StoreState, chunk_as_read, chunks_of_store}
use Rattle.store_core.proofs.OfferLemmas.{lengths-named, stands-chunks, stands-count, stands-opened, stands-read}
use Rattle.store_core.proofs.Verdicts.{open_as_one}

-- bytes begin with one list of so many records
records-one : (max : ℕ) (first second : List Record) (before other : List Session) (x y : List ℕ) →
    AreRecords max before first → AreRecords max other second → length first ≡ length second →
    book_of first ++ x ≡ book_of second ++ y → first ≡ second
records-one max [] [] before other x y here there count same = refl
records-one max [] (b ∷ second) before other x y here there count same = absurd omega (arith, count)
records-one max (a ∷ first) [] before other x y here there count same = absurd omega (arith, count)
records-one max (a ∷ first) (b ∷ second) before other x y here there count same =
    let apart = spelled_apart a b (book_of first ++ x) (book_of second ++ y) here.0 there.0
    (sym (append_assoc (spelling_of a) (book_of first) x) ∙ same ∙ append_assoc (spelling_of b) (book_of second) y) in
    let rest = records-one max first second (followed_by before a) (followed_by other b) x y here.1.1 there.1.1
    (omega (arith, count)) apart.1 in
    ap (λ (r : Record). r ∷ first) apart.0 ∙ ap (λ (rs : List Record). b ∷ rs) rest

-- the event of a record, over the stored chunks
event_of : List (List ℕ) → Record → Event
event_of stored (Ingest entry) = ingested entry.name (map (chunk_at stored) entry.recipe)
event_of stored (Drop k) = dropped k

-- the events of the records of events are those
events-back : (name_of : List ℕ → List ℕ) (stored before : List (List ℕ)) (events : List Event) →
    ((c : List ℕ) → is_among (placed_chunks events) c ≡ true → is_among stored c ≡ true) →
    map (event_of stored) (records_from name_of stored before events) ≡ events
unfolding event_of
events-back name_of stored before [] among = refl
events-back name_of stored before (ingested name chunks ∷ events) among =
    let own = chunks-of_recipe stored chunks (λ c here. among c (among_first c chunks (placed_chunks events) here)) in
    let rest = events-back name_of stored (before ++ (chunks ++ [])) events
    (λ c here. among c (among_second c chunks (placed_chunks events) here)) in
    ap (λ (cs : List (List ℕ)). ingested name cs ∷ map (event_of stored) (records_from name_of stored (before ++ (chunks ++ [])) events)) own
    ∙ ap (λ (es : List Event). ingested name chunks ∷ es) rest
events-back name_of stored before (dropped k ∷ events) among =
    ap (λ (es : List Event). dropped k ∷ es) (events-back name_of stored (before ++ []) events among)

-- lists with the same items are the same
items-same : (xs ys : List (List ℕ)) → length xs ≡ length ys →
    ((i : ℕ) → i < length xs → chunk_at xs i ≡ chunk_at ys i) → xs ≡ ys
items-same [] [] count each = refl
items-same [] (y ∷ ys) count each = absurd omega (arith, count)
items-same (x ∷ xs) [] count each = absurd omega (arith, count)
items-same (x ∷ xs) (y ∷ ys) count each =
    let rest = items-same xs ys (omega (arith, count)) (λ i within. each (suc i) (omega (arith, within))) in
    ap (λ (c : List ℕ). c ∷ xs) (each 0 (omega arith)) ∙ ap (λ (cs : List (List ℕ)). y ∷ cs) rest

state_of : RawParams → ℕ → List Event → State
state_of params generation events = record { params = params; generation = generation; events = events }

module _ (name_of : List ℕ → List ℕ) (names : GivesNames name_of) (files : File → List ℕ) where
  -- what files that hold a state open as
  opens : State → Opened
  opens state = record { head = record { params = state.params; generation = state.generation }; book = book_of_state name_of state }

  store_of : Opened → StoreState
  store_of opened = record { opened = opened; offered = []; sound = true }

  -- the stored chunks of a state that the files hold are what is read there
  chunks-read : (state : State) → IsLawful state → HoldState name_of files state → (i : ℕ) → i < length (stored_chunks state) →
      chunk_as_read files (store_of (opens state)) i ≡ chunk_at (stored_chunks state) i
  unfolding opens store_of
  chunks-read state lawful held i within =
      let stored = stored_chunks state in
      let stands = stands-opened name_of files state (opens state) names lawful held (held_state_opens name_of names files state lawful held) in
      let all : stored ++ [] ≡ stored = append-nil stored in
      let some : All (λ n. 1 ≤ n) (lengths_of (chunks_of_store (store_of (opens state)))) =
      subst (All (λ n. 1 ≤ n))
      (sym (ap lengths_of (stands-chunks name_of (store_of (opens state)) files state [] stands) ∙ lengths-named name_of (stored ++ []) ∙ ap (map length) all))
      (All-from_recursion (λ n. 1 ≤ n) (map length stored) (stored-some state lawful)) in
      stands-read name_of (store_of (opens state)) files state [] stands some i (subst (λ (cs : List (List ℕ)). i < length cs) (sym all) within)
      ∙ ap (λ (cs : List (List ℕ)). chunk_at cs i) all

  chunks-count : (state : State) → IsLawful state → HoldState name_of files state →
      length (chunks_of_store (store_of (opens state))) ≡ length (stored_chunks state)
  unfolding opens store_of
  chunks-count state lawful held =
      stands-count name_of (store_of (opens state)) files state []
      (stands-opened name_of files state (opens state) names lawful held (held_state_opens name_of names files state lawful held))
      ∙ ap length (append-nil (stored_chunks state))

  pub one_state : (first second : State) → IsLawful first → IsLawful second → HoldState name_of files first →
      HoldState name_of files second → first ≡ second
  unfolding opens state_of
  one_state first second here there held other =
      let same : opens first ≡ opens second =
      open_as_one files (opens first) (opens second) (held_state_opens name_of names files first here held)
      (held_state_opens name_of names files second there other) in
      let params : first.params ≡ second.params = ap (λ (o : Opened). o.head.params) same in
      let generation : first.generation ≡ second.generation = ap (λ (o : Opened). o.head.generation) same in
      let count : length (stored_chunks first) ≡ length (stored_chunks second) =
      sym (chunks-count first here held) ∙ ap (λ (o : Opened). length (chunks_of_store (store_of o))) same ∙ chunks-count second there other in
      let stored : stored_chunks first ≡ stored_chunks second =
      items-same (stored_chunks first) (stored_chunks second) count (λ i within.
      sym (chunks-read first here held i within)
      ∙ ap (λ (o : Opened). chunk_as_read files (store_of o) i) same
      ∙ chunks-read second there other i (omega (arith, within, count))) in
      let records : records_of name_of first ≡ records_of name_of second =
      records-one second.params.max (records_of name_of first) (records_of name_of second) [] [] held.book.0 other.book.0
      (subst (λ (p : RawParams). AreRecords p.max [] (records_of name_of first)) params (state-records name_of names first here))
      (state-records name_of names second there)
      (state-records-count name_of first ∙ sym held.seal ∙ ap (λ (g : ℕ). length (files (Seal g))) generation ∙ other.seal
      ∙ sym (state-records-count name_of second))
      (sym held.book.1 ∙ ap (λ (g : ℕ). files (Book g)) generation ∙ other.book.1) in
      let events : first.events ≡ second.events =
      sym (events-back name_of (stored_chunks first) [] first.events (placed-stored first))
      ∙ ap (λ (cs : List (List ℕ)). map (event_of cs) (records_of name_of first)) stored
      ∙ ap (λ (rs : List Record). map (event_of (stored_chunks second)) rs) records
      ∙ events-back name_of (stored_chunks second) [] second.events (placed-stored second) in
      ap (λ (p : RawParams). state_of p first.generation first.events) params
      ∙ ap (λ (g : ℕ). state_of second.params g first.events) generation
      ∙ ap (λ (es : List Event). state_of second.params second.generation es) events
