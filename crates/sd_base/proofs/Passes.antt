-- A run leads from a lawful state to a lawful state, and `restore` gives back what was taken in.
use Rattle.std.proofs.Common.{◌≡◌, ◌≢◌, inl, inr, ℕ, zero, suc, ◌+◌, ◌^◌, ◌<◌, ◌≤◌, ltb, Bool, true, false, List, [], ◌∷◌, ◌++◌, length, Option, Some, None, IfSome, Result, Ok, Err, IfOk, refl, ap, sym, subst, ◌∙◌, arith, length-append, append-nil}
use Rattle.std.specs.Prelude.{◌&&◌, is_some, if◌then◌else◌, option_map, unwrap_or}
use Rattle.std.specs.List.{All, AllByRecursion, concat, fold, position, position_or_len, slice_get}
use Rattle.std.specs.Str.{bytes_eq}
use Rattle.std.proofs.lemmas.Bool.{cases_Bool, eq-eqb, lt-ltb, ltb-true, ltb-false, leb-false, and_parts}
use Rattle.std.proofs.lemmas.List.Elements.{All-append, All-from_recursion, recursion_from_All}
use Rattle.std.proofs.lemmas.List.Folds.{position_or_len_push}
use Rattle.std.proofs.lemmas.List.Sums.{fold-append}
use Rattle.std.proofs.lemmas.Slice.Eq.{bytes_eq-Decides}
use Rattle.sd_base.specs.Generator.{bulk_input, bulk_name}
use Rattle.sd_base.specs.Commands.{HasSessionName, HasRawParams}
use Rattle.sd_base.specs.Cutting.{chunks_of}
use Rattle.sd_base.specs.Distinct.{distinct}
use Rattle.sd_base.specs.Names.{IsName}
use Rattle.sd_base.specs.OnePass.{Pass, pass_of, pass_of_command, pass_of_drop, pass_of_init, pass_of_plan, pass_of_restore, refusal, refusal_of_ingest, success, unless_refused}
use Rattle.sd_base.specs.Parameters.{IsValid, bad_parameter}
use Rattle.sd_base.specs.States.{Event, dropped, ingested, IsCutting, IsLawful, MayAllHappen, MayHappen, State, StoredSession, bytes_of_session, followed_by_event, is_live_in, live_session_named, new_state, placed_chunks, sessions_in, stored_chunks, with_drop, with_event, with_session}
use Rattle.sd_base.specs.declared.limits.TheConstants.{MAX_CHUNKS, MAX_INPUT, MAX_PLACES, MAX_SESSIONS}
use Rattle.sd_base.specs.declared.outcome.Outcome.{Outcome}
use Rattle.sd_base.specs.declared.outcome.Outcome.TheVariants.{Done}
use Rattle.sd_base.specs.declared.params.BadParams.{BadParams as BadParameter}
use Rattle.sd_base.specs.declared.raw_params.RawParams.{RawParams}
use Rattle.sd_base.specs.declared.words.BadWords.{BadWords as Refusal}
use Rattle.sd_base.specs.declared.words.Command.{Command}
use Rattle.sd_base.specs.declared.words.Command.TheVariants.{Quiet, Ingest, Bulk}
use Rattle.sd_base.specs.declared.words.Quiet.TheVariants.{Plan, Init, List as ListSessions, Restore, Drop, Refs, Audit}
use Rattle.sd_base.proofs.Covering.{concat-chunks_of}
use Rattle.sd_base.proofs.HeldStates.{length-with_drop}
use Rattle.sd_base.proofs.Ranges.{IsValid-from_none}
use Rattle.sd_base.proofs.States.{placed_chunks-append}

-- ---- one more ingest

-- events that may all happen, and one that may follow them, may all happen
pub may-one_more : (events : List Event) (sessions : List StoredSession) (event : Event) →
    MayAllHappen sessions events → MayHappen (fold with_event sessions events) event →
    MayAllHappen sessions (events ++ event ∷ [])
may-one_more [] sessions event all may = (may, tt)
may-one_more (first ∷ events) sessions event all may =
    (all.0, may-one_more events (with_event sessions first) event all.1 may)

-- what holds of each session and of one more holds of all
pub all-one_more : (P : StoredSession → Type 0) (sessions : List StoredSession) (session : StoredSession) →
    All P sessions → P session → All P (sessions ++ session ∷ [])
all-one_more P sessions session all one =
    All-append P sessions (session ∷ []) all (All-from_recursion P (session ∷ []) (one, tt))

pub sessions-ingested : (state : State) (name : List ℕ) (chunks : List (List ℕ)) →
    sessions_in (followed_by_event state (ingested name chunks))
    ≡ sessions_in state ++ record { name = name; chunks = chunks; live = true } ∷ []
sessions-ingested state name chunks = fold-append with_event [] state.events (ingested name chunks ∷ [])

-- the state with one more ingest is lawful
pub lawful-ingested : (state : State) (name : List ℕ) (chunks : List (List ℕ)) →
    IsLawful state → IsName name → live_session_named (sessions_in state) name ≡ None →
    IsCutting state.params chunks → length (concat chunks) < 2 ^ 32 → length (sessions_in state) < MAX_SESSIONS →
    length (placed_chunks (followed_by_event state (ingested name chunks)).events) ≤ MAX_PLACES →
    length (stored_chunks (followed_by_event state (ingested name chunks))) ≤ MAX_CHUNKS →
    IsLawful (followed_by_event state (ingested name chunks))
lawful-ingested state name chunks lawful is_name free cut few_bytes few_sessions few_places few_chunks =
    let event = ingested name chunks in
    let session : StoredSession = record { name = name; chunks = chunks; live = true } in
    let sessions = sessions-ingested state name chunks in
    let session_count = ap length sessions ∙ length-append (sessions_in state) (session ∷ []) in
    record {
      params = lawful.params;
      generation = lawful.generation;
      events = may-one_more state.events [] event lawful.events (is_name, free);
      cut = subst (All (λ s. IsCutting state.params s.chunks)) (sym sessions)
          (all-one_more (λ s. IsCutting state.params s.chunks) (sessions_in state) session lawful.cut cut);
      bytes = subst (All (λ s. length (bytes_of_session s) < 2 ^ 32)) (sym sessions)
          (all-one_more (λ s. length (bytes_of_session s) < 2 ^ 32) (sessions_in state) session lawful.bytes few_bytes);
      sessions = omega (arith, session_count, few_sessions);
      places = few_places;
      chunks = few_chunks;
    }

-- a new store is lawful
lawful-new : (params : RawParams) → IsValid params → IsLawful (new_state params)
lawful-new params valid = record {
  params = valid;
  generation = omega arith;
  events = tt;
  cut = All-from_recursion (λ (s : StoredSession). IsCutting params s.chunks) [] tt;
  bytes = All-from_recursion (λ (s : StoredSession). length (bytes_of_session s) < 2 ^ 32) [] tt;
  sessions = omega arith;
  places = omega arith;
  chunks = omega arith;
}

-- ---- what an ingest needs

none-from_test : {A : Type 0} (found : Option A) → is_some found ≡ false → found ≡ None
none-from_test None test = refl
none-from_test (Some x) test = absurd cc

-- an input that is not refused may be taken in
record MayTakeIn (state : State) (name input : List ℕ) : Type 0 where
  free : live_session_named (sessions_in state) name ≡ None
  few_sessions : length (sessions_in state) < MAX_SESSIONS
  short : length input ≤ MAX_INPUT
  few_places : length (placed_chunks (with_session state name input).events) ≤ MAX_PLACES
  few_chunks : length (stored_chunks (with_session state name input)) ≤ MAX_CHUNKS

-- if none of these refusals comes, no test holds
tests-fail : (a b c d e : Bool) (u v w x y : Outcome) →
    (if a then Some u else if b then Some v else if c then Some w else if d then Some x else if e then Some y else None) ≡ None →
    (a ≡ false) × (b ≡ false) × (c ≡ false) × (d ≡ false) × (e ≡ false)
tests-fail true b c d e u v w x y none = absurd cc
tests-fail false true c d e u v w x y none = absurd cc
tests-fail false false true d e u v w x y none = absurd cc
tests-fail false false false true e u v w x y none = absurd cc
tests-fail false false false false true u v w x y none = absurd cc
tests-fail false false false false false u v w x y none = (refl, refl, refl, refl, refl)

may_take_in : (state : State) (name input : List ℕ) → refusal_of_ingest state name input ≡ None → MayTakeIn state name input
may_take_in state name input none =
    let failed = tests-fail _ _ _ _ _ _ _ _ _ _ none in
    record {
      free = none-from_test (live_session_named (sessions_in state) name) failed.0;
      few_sessions = leb-false _ _ failed.1;
      short = ltb-false _ _ failed.2;
      few_places = ltb-false _ _ failed.3;
      few_chunks = ltb-false _ _ failed.4;
    }

lawful-with_session : (state : State) (name input : List ℕ) → IsLawful state → IsName name → MayTakeIn state name input →
    IsLawful (with_session state name input)
lawful-with_session state name input lawful is_name may =
    let min = lawful.params.min in
    let joined : concat (chunks_of state.params input) ≡ input =
    concat-chunks_of state.params input (omega (arith, min)) lawful.params.max.0 in
    lawful-ingested state name (chunks_of state.params input) lawful is_name may.free (ap (chunks_of state.params) (sym joined))
    (omega (arith, ap length joined, may.short)) may.few_sessions may.few_places may.few_chunks

-- ---- one more drop

-- what holds of the chunks of each session holds if one of them is dropped
all-dropped : (P : List (List ℕ) → Type 0) (sessions : List StoredSession) (k : ℕ) →
    AllByRecursion (λ (s : StoredSession). P s.chunks) sessions → AllByRecursion (λ (s : StoredSession). P s.chunks) (with_drop sessions k)
all-dropped P [] k all = tt
all-dropped P (session ∷ sessions) zero all = all
all-dropped P (session ∷ sessions) (suc k) all = (all.0, all-dropped P sessions k all.1)

kept-dropped : (P : List (List ℕ) → Type 0) (sessions : List StoredSession) (k : ℕ) →
    All (λ (s : StoredSession). P s.chunks) sessions → All (λ (s : StoredSession). P s.chunks) (with_drop sessions k)
kept-dropped P sessions k all =
    All-from_recursion (λ (s : StoredSession). P s.chunks) (with_drop sessions k)
    (all-dropped P sessions k (recursion_from_All (λ (s : StoredSession). P s.chunks) sessions all))

pub sessions-dropped : (state : State) (k : ℕ) → sessions_in (followed_by_event state (dropped k)) ≡ with_drop (sessions_in state) k
sessions-dropped state k = fold-append with_event [] state.events (dropped k ∷ [])

-- a drop places no chunk
pub placed-dropped : (state : State) (k : ℕ) → placed_chunks (followed_by_event state (dropped k)).events ≡ placed_chunks state.events
placed-dropped state k =
    placed_chunks-append state.events (dropped k ∷ []) ∙ append-nil (placed_chunks state.events)

-- the state with a live session dropped is lawful
pub lawful-dropped : (state : State) (k : ℕ) → IsLawful state → is_live_in (sessions_in state) k ≡ true →
    IsLawful (followed_by_event state (dropped k))
lawful-dropped state k lawful live =
    let sessions = sessions-dropped state k in
    let placed = placed-dropped state k in
    let session_count = ap length sessions ∙ length-with_drop (sessions_in state) k in
    record {
      params = lawful.params;
      generation = lawful.generation;
      events = may-one_more state.events [] (dropped k) lawful.events live;
      cut = subst (All (λ s. IsCutting state.params s.chunks)) (sym sessions)
          (kept-dropped (IsCutting state.params) (sessions_in state) k lawful.cut);
      bytes = subst (All (λ s. length (bytes_of_session s) < 2 ^ 32)) (sym sessions)
          (kept-dropped (λ chunks. length (concat chunks) < 2 ^ 32) (sessions_in state) k lawful.bytes);
      sessions = omega (arith, session_count, lawful.sessions);
      places = subst (λ chunks. length chunks ≤ MAX_PLACES) (sym placed) lawful.places;
      chunks = subst (λ chunks. length (distinct chunks) ≤ MAX_CHUNKS) (sym placed) lawful.chunks;
    }

-- at the first place that passes, if it is not the end, there is a live session
live-at : (sessions : List StoredSession) (name : List ℕ) →
    let p : StoredSession → Bool = λ s. s.live && bytes_eq s.name name in
    position_or_len p sessions < length sessions → is_live_in sessions (position_or_len p sessions) ≡ true
live-at [] name below = absurd (omega (arith, below))
live-at (session ∷ sessions) name below = elim (cases_Bool (session.live && bytes_eq session.name name)) [
  | inl here ↦ rw here (and_parts session.live (bytes_eq session.name name) here).0
  | inr other ↦
      let p : StoredSession → Bool = λ s. s.live && bytes_eq s.name name in
      let next : 1 + position_or_len p sessions ≡ suc (position_or_len p sessions) = omega arith in
      let later = rw other at below in
      rw other (ap (is_live_in (session ∷ sessions)) next ∙ live-at sessions name (omega (arith, later)))
]

-- a session that is found by its name is live
pub found-live : (sessions : List StoredSession) (name : List ℕ) → IfSome (live_session_named sessions name) (λ k. is_live_in sessions k ≡ true)
found-live sessions name =
    let p : StoredSession → Bool = λ s. s.live && bytes_eq s.name name in
    elim (cases_Bool (ltb (position_or_len p sessions) (length sessions))) [
      | inl below ↦ rw below (live-at sessions name (ltb-true _ _ below))
      | inr past ↦ rw past tt
    ]

-- ---- every run

plan-leaves : (flaw : Option BadParameter) (raw : RawParams) (state : Option State) (input : List ℕ) →
    (pass_of_plan flaw raw state input).after ≡ state
plan-leaves (Some kind) raw state input = refl
plan-leaves None raw state input = elim (cases_Bool (ltb MAX_INPUT (length input))) [
  | inl long ↦ rw long refl
  | inr fits ↦ rw fits refl
]

restore-leaves : (found : Option ℕ) (state : State) → (pass_of_restore found state).after ≡ Some state
restore-leaves None state = refl
restore-leaves (Some k) state = refl

lawful-drop : (name : List ℕ) (found : Option ℕ) (state : State) → IsLawful state →
    IfSome found (λ k. is_live_in (sessions_in state) k ≡ true) → IfSome (pass_of_drop name found state).after IsLawful
lawful-drop name None state lawful live = lawful
lawful-drop name (Some k) state lawful live = lawful-dropped state k lawful live

lawful-init : (flaw : Option BadParameter) (raw : RawParams) (state : Option State) →
    (flaw ≡ None → IsValid raw) → IfSome state IsLawful → IfSome (pass_of_init flaw raw state).after IsLawful
lawful-init (Some kind) raw state valid lawful = lawful
lawful-init None raw None valid lawful = lawful-new raw (valid refl)
lawful-init None raw (Some state) valid lawful = lawful

lawful-unless_refused : (outcome : Option Outcome) (state : State) (pass : Pass) →
    IsLawful state → (outcome ≡ None → IfSome pass.after IsLawful) →
    IfSome (unless_refused outcome (Some state) pass).after IsLawful
lawful-unless_refused None state pass before after = after refl
lawful-unless_refused (Some refused) state pass before after = before

pub lawful-after : (command : Result Command Refusal) → IfOk command HasSessionName → IfOk command HasRawParams →
    (state : Option State) (input : List ℕ) → IfSome state IsLawful → IfSome (pass_of command state input).after IsLawful
lawful-after (Err bad) named fits state input lawful = lawful
lawful-after (Ok (Quiet (Plan raw workers segment))) named fits state input lawful =
    subst (λ after. IfSome after IsLawful) (sym (plan-leaves (bad_parameter raw) raw state input)) lawful
lawful-after (Ok (Quiet (Init raw))) named fits state input lawful =
    lawful-init (bad_parameter raw) raw state (IsValid-from_none raw fits.polynomial) lawful
lawful-after (Ok command) named fits None input lawful = tt
lawful-after (Ok (Ingest name how)) named fits (Some state) input lawful =
    lawful-unless_refused (refusal_of_ingest state name input) state _ lawful
    (λ none. lawful-with_session state name input lawful named (may_take_in state name input none))
lawful-after (Ok (Bulk seed blocks how)) named fits (Some state) input lawful =
    let name = bulk_name seed blocks in
    let made = bulk_input seed blocks in
    lawful-unless_refused (refusal_of_ingest state name made) state _ lawful
    (λ none. lawful-with_session state name made lawful named (may_take_in state name made none))
lawful-after (Ok (Quiet ListSessions)) named fits (Some state) input lawful = lawful
lawful-after (Ok (Quiet (Restore name))) named fits (Some state) input lawful =
    let found = live_session_named (sessions_in state) name in
    subst (λ after. IfSome after IsLawful) (sym (restore-leaves found state)) lawful
lawful-after (Ok (Quiet (Drop name))) named fits (Some state) input lawful =
    lawful-drop name (live_session_named (sessions_in state) name) state lawful (found-live (sessions_in state) name)
lawful-after (Ok (Quiet Refs)) named fits (Some state) input lawful = lawful
lawful-after (Ok (Quiet Audit)) named fits (Some state) input lawful = lawful

-- ---- runs that are not done

IsRefusal : Option State → Pass → Type 0
IsRefusal state pass = pass.outcome ≢ Done → pass ≡ refusal state pass.outcome

plan-stays : (flaw : Option BadParameter) (raw : RawParams) (state : Option State) (input : List ℕ) →
    IsRefusal state (pass_of_plan flaw raw state input)
unfolding IsRefusal
plan-stays (Some kind) raw state input undone = refl
plan-stays None raw state input undone = elim (cases_Bool (ltb MAX_INPUT (length input))) [
  | inl long ↦ rw long refl
  | inr fits ↦ absurd (undone (rw fits refl))
]

init-stays : (flaw : Option BadParameter) (raw : RawParams) (state : Option State) →
    IsRefusal state (pass_of_init flaw raw state)
unfolding IsRefusal
init-stays (Some kind) raw state undone = refl
init-stays None raw None undone = absurd (undone refl)
init-stays None raw (Some state) undone = refl

restore-stays : (found : Option ℕ) (state : State) → IsRefusal (Some state) (pass_of_restore found state)
unfolding IsRefusal
restore-stays None state undone = refl
restore-stays (Some k) state undone = absurd (undone refl)

drop-stays : (name : List ℕ) (found : Option ℕ) (state : State) → IsRefusal (Some state) (pass_of_drop name found state)
unfolding IsRefusal
drop-stays name None state undone = refl
drop-stays name (Some k) state undone = absurd (undone refl)

ingest-stays : (outcome : Option Outcome) (state : State) (pass : Pass) → pass.outcome ≡ Done →
    IsRefusal (Some state) (unless_refused outcome (Some state) pass)
unfolding IsRefusal
ingest-stays None state pass done undone = absurd (undone done)
ingest-stays (Some refused) state pass done undone = refl

pub state-stays : (command : Result Command Refusal) (state : Option State) (input : List ℕ) →
    (pass_of command state input).outcome ≢ Done → pass_of command state input ≡ refusal state (pass_of command state input).outcome
unfolding IsRefusal
state-stays (Err bad) state input undone = refl
state-stays (Ok (Quiet (Plan raw workers segment))) state input undone = plan-stays (bad_parameter raw) raw state input undone
state-stays (Ok (Quiet (Init raw))) state input undone = init-stays (bad_parameter raw) raw state undone
state-stays (Ok (Ingest name how)) None input undone = refl
state-stays (Ok (Ingest name how)) (Some state) input undone = ingest-stays (refusal_of_ingest state name input) state _ refl undone
state-stays (Ok (Bulk seed blocks how)) None input undone = refl
state-stays (Ok (Bulk seed blocks how)) (Some state) input undone =
    ingest-stays (refusal_of_ingest state (bulk_name seed blocks) (bulk_input seed blocks)) state _ refl undone
state-stays (Ok (Quiet ListSessions)) None input undone = refl
state-stays (Ok (Quiet ListSessions)) (Some state) input undone = absurd (undone refl)
state-stays (Ok (Quiet (Restore name))) None input undone = refl
state-stays (Ok (Quiet (Restore name))) (Some state) input undone =
    restore-stays (live_session_named (sessions_in state) name) state undone
state-stays (Ok (Quiet (Drop name))) None input undone = refl
state-stays (Ok (Quiet (Drop name))) (Some state) input undone =
    drop-stays name (live_session_named (sessions_in state) name) state undone
state-stays (Ok (Quiet Refs)) None input undone = refl
state-stays (Ok (Quiet Refs)) (Some state) input undone = absurd (undone refl)
state-stays (Ok (Quiet Audit)) None input undone = refl
state-stays (Ok (Quiet Audit)) (Some state) input undone = absurd (undone refl)

-- ---- what was taken in

-- if the first place that passes is the end, and one more passes, it is the first
place-last : (p : StoredSession → Bool) (sessions : List StoredSession) (session : StoredSession) → p session ≡ true →
    position_or_len p sessions ≡ length sessions → position_or_len p (sessions ++ session ∷ []) ≡ length sessions
place-last p sessions session passes none =
    let last : position_or_len p (sessions ++ session ∷ []) ≡ length sessions + 0 =
    position_or_len_push p sessions session ∙ rw (none, eq-eqb (length sessions) (length sessions) refl, passes) refl in
    omega (arith, last)

place-le : (p : StoredSession → Bool) (sessions : List StoredSession) → position_or_len p sessions ≤ length sessions
place-le p [] = omega arith
place-le p (first ∷ sessions) = elim (cases_Bool (p first)) [
  | inl here ↦ rw here (omega arith)
  | inr other ↦ rw other (omega (arith, place-le p sessions))
]

-- if none passes, the first place that passes is the end
no_place : (p : StoredSession → Bool) (sessions : List StoredSession) → position p sessions ≡ None →
    position_or_len p sessions ≡ length sessions
no_place p sessions none = elim (cases_Bool (ltb (position_or_len p sessions) (length sessions))) [
  | inl below ↦ absurd (let no = rw below at none in cc)
  | inr past ↦ omega (arith, ltb-false _ _ past, place-le p sessions)
]

-- if no session before the last is live under its name, the last is found
found-last : (sessions : List StoredSession) (name : List ℕ) (chunks : List (List ℕ)) →
    live_session_named sessions name ≡ None →
    live_session_named (sessions ++ record { name = name; chunks = chunks; live = true } ∷ []) name ≡ Some (length sessions)
found-last sessions name chunks free =
    let session : StoredSession = record { name = name; chunks = chunks; live = true } in
    let p : StoredSession → Bool = λ s. s.live && bytes_eq s.name name in
    let own : p session ≡ true = (bytes_eq-Decides name name).1 refl in
    let place = place-last p sessions session own (no_place p sessions free) in
    let more = length-append sessions (session ∷ []) in
    rw (place, lt-ltb (length sessions) (length (sessions ++ session ∷ [])) (omega (arith, more))) refl

get-last : (sessions : List StoredSession) (session : StoredSession) →
    slice_get (sessions ++ session ∷ []) (length sessions) ≡ Some session
get-last [] session = refl
get-last (first ∷ sessions) session = get-last sessions session

pub given_back : (state : State) (name input more : List ℕ) → IsLawful state → refusal_of_ingest state name input ≡ None →
    let after = with_session state name input in
    pass_of_command (Quiet (Restore name)) (Some after) more ≡ success (Some after) input
given_back state name input more lawful none =
    let min = lawful.params.min in
    let after = with_session state name input in
    let chunks = chunks_of state.params input in
    let may = may_take_in state name input none in
    let sessions = sessions-ingested state name chunks in
    let session : StoredSession = record { name = name; chunks = chunks; live = true } in
    let k = length (sessions_in state) in
    let found : live_session_named (sessions_in after) name ≡ Some k =
    ap (λ all. live_session_named all name) sessions ∙ found-last (sessions_in state) name chunks may.free in
    let got : slice_get (sessions_in after) k ≡ Some session =
    ap (λ all. slice_get all k) sessions ∙ get-last (sessions_in state) session in
    let joined : concat chunks ≡ input =
    concat-chunks_of state.params input (omega (arith, min)) lawful.params.max.0 in
    ap (λ number. pass_of_restore number after) found
    ∙ ap (λ one. success (Some after) (unwrap_or (option_map bytes_of_session one) [])) got
    ∙ ap (success (Some after)) joined
