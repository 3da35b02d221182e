-- Files that hold a lawful state have no flaw.
use Rattle.std.proofs.Common.{◌≡◌, ◌≢◌, ℕ, zero, suc, ◌+◌, ◌<◌, true, false, None, List, [], ◌∷◌, ◌++◌, length, map, take, drop, slice_index_or, refl, sym, ap, subst, ◌∙◌, append_assoc, arith}
use Rattle.std.proofs.Math.ListN as lists
use Rattle.std.proofs.lemmas.List.{append-nil, get_or-map, length-map}
use Rattle.std.proofs.lemmas.List.Elements.{All-get_or}
use Rattle.std.specs.List.{count_by}
use Rattle.sd_base.specs.Packing.{packing}
use Rattle.std.specs.Prelude.{Bool, cond, if◌then◌else◌}
use Rattle.std.proofs.lemmas.List.Sums.{sum_by-cons}
use Rattle.sd_base.specs.Audits.{counts_of_book, counts_of_state}
use Rattle.sd_base.specs.Opening.{needed_sizes}
use Rattle.sd_base.specs.Books.{BookState, chunks_in}
use Rattle.sd_base.specs.Distinct.{AreDifferent, distinct, first_index, is_among}
use Rattle.sd_base.specs.Firsts.{HoldsBelow}
use Rattle.sd_base.specs.FlawLaws.{opened_of}
use Rattle.sd_base.specs.Flaws.{AreNamed, HaveChunks, IsFlawOf, IsNew, chunks_before, chunks_of_session, recipe_in_book}
use Rattle.sd_base.specs.StateBooks.{book_of_state, book_session, book_sessions}
use Rattle.sd_base.specs.StateLaws.{chunk_at}
use Rattle.sd_base.specs.States.{IsCutting, IsLawful, State, StoredSession, live_numbers, live_sessions, placed_chunks, recipe_of, sessions_in, stored_chunks}
use Rattle.sd_base.specs.Stores.{HoldState, named}
use Rattle.sd_base.specs.declared.file.File.{File}
use Rattle.sd_base.specs.declared.record.NewChunk.{NewChunk}
use Rattle.sd_base.specs.declared.record.Session.{Session}
use Rattle.sd_base.proofs.Distinct.{distinct-different}
use Rattle.sd_base.proofs.HeldStates.{chunks-placed, lengths-named, sessions-book, sizes-book}
use Rattle.sd_base.proofs.Counted.{IsCounted, counted-walk}
use Rattle.sd_base.proofs.InOrder.{among-at, walk-numbers}
use Rattle.sd_base.proofs.Recipes.{recipes_name_their_chunks}
use Rattle.sd_base.proofs.StateBooks.{chunks-book, length-book, session_chunks}

-- the chunks of session k, or none if there is no such session
abbrev pub own_chunks : List StoredSession → ℕ → List (List ℕ)
own_chunks sessions k = slice_index_or (map (λ (s : StoredSession). s.chunks) sessions) k []

-- the chunks of all sessions are those before session k, its own, and those after it
session_chunks-split : (sessions : List StoredSession) (k : ℕ) → k < length sessions →
    session_chunks sessions ≡ session_chunks (take k sessions) ++ (own_chunks sessions k ++ session_chunks (drop (suc k) sessions))
session_chunks-split [] k within = absurd (omega arith)
session_chunks-split (s ∷ sessions) zero within = refl
session_chunks-split (s ∷ sessions) (suc k) within =
    ap (λ rest. s.chunks ++ rest) (session_chunks-split sessions k (omega arith))
    ∙ sym (append_assoc s.chunks (session_chunks (take k sessions)) (own_chunks sessions k ++ session_chunks (drop (suc k) sessions)))

session_chunks-more : (sessions : List StoredSession) (k : ℕ) → k < length sessions →
    session_chunks (take k sessions) ++ own_chunks sessions k ≡ session_chunks (take (suc k) sessions)
session_chunks-more [] k within = absurd (omega arith)
session_chunks-more (s ∷ sessions) zero within = sym (append-nil s.chunks)
session_chunks-more (s ∷ sessions) (suc k) within =
    append_assoc s.chunks (session_chunks (take k sessions)) (own_chunks sessions k)
    ∙ ap (λ rest. s.chunks ++ rest) (session_chunks-more sessions k (omega arith))

apart-from : (c : List ℕ) (chunks : List (List ℕ)) → is_among chunks c ≡ false → (k : ℕ) → k < length chunks → c ≢ slice_index_or chunks k []
apart-from c chunks none k within same =
    let clash : true ≡ false = sym (ap (λ (d : List ℕ). is_among chunks d) same ∙ among-at chunks k within) ∙ none in
    absurd cc

-- different chunks, by their indices
pub new-different : (chunks : List (List ℕ)) → AreDifferent chunks → HoldsBelow (length chunks) (IsNew chunks)
new-different [] different k within = absurd (omega arith)
new-different (c ∷ chunks) different zero within = λ j below. absurd (omega arith)
new-different (c ∷ chunks) different (suc k) within = λ j. elim j as (λ n. n < suc k → slice_index_or (c ∷ chunks) n [] ≢ slice_index_or chunks k []) [
  | zero ↦ λ below. apart-from c chunks different.0 k (omega arith)
  | suc n ↦ λ below. new-different chunks different.1 k (omega arith) n (omega arith)
]

module _ (name_of : List ℕ → List ℕ) (stored : List (List ℕ)) where
  recipes-book : (before : List (List ℕ)) (sessions : List StoredSession) →
      map (λ (s : Session). s.entry.recipe) (book_sessions name_of stored before sessions)
      ≡ map (map (first_index stored)) (map (λ (s : StoredSession). s.chunks) sessions)
  recipes-book before [] = refl
  recipes-book before (s ∷ sessions) = ap (λ rest. map (first_index stored) s.chunks ∷ rest) (recipes-book (before ++ s.chunks) sessions)

  take-book : (before : List (List ℕ)) (sessions : List StoredSession) (k : ℕ) →
      take k (book_sessions name_of stored before sessions) ≡ book_sessions name_of stored before (take k sessions)
  take-book before sessions zero = refl
  take-book before [] (suc k) = refl
  take-book before (s ∷ sessions) (suc k) = ap (λ rest. book_session name_of stored before s ∷ rest) (take-book (before ++ s.chunks) sessions k)

  module _ (book : BookState) (sessions : List StoredSession) (same : book.sessions ≡ book_sessions name_of stored [] sessions) where
    pub recipe-book : (k : ℕ) → recipe_in_book book k ≡ map (first_index stored) (own_chunks sessions k)
    recipe-book k =
        ap (λ (l : List Session). slice_index_or (map (λ (s : Session). s.entry.recipe) l) k []) same
        ∙ ap (λ (l : List (List ℕ)). slice_index_or l k []) (recipes-book [] sessions)
        ∙ lists.get_or-map (map (first_index stored)) (map (λ (s : StoredSession). s.chunks) sessions) k []

    before-book : (k : ℕ) → chunks_before book k ≡ length (distinct (session_chunks (take k sessions)))
    before-book k =
        ap (λ (l : List Session). length (chunks_in (take k l))) same
        ∙ ap (λ (l : List Session). length (chunks_in l)) (take-book [] sessions k)
        ∙ ap (λ (l : List NewChunk). length l) (chunks-book name_of stored [] (take k sessions))
        ∙ length-map (distinct (session_chunks (take k sessions))) (named name_of)

    -- the recipe of a session is in order
    ordered-book : stored ≡ distinct (session_chunks sessions) → (k : ℕ) → k < length sessions →
        IsCounted (chunks_before book k) (recipe_in_book book k) (chunks_before book (suc k))
    ordered-book all k within =
        let before = session_chunks (take k sessions) in
        let own = own_chunks sessions k in
        let after = session_chunks (drop (suc k) sessions) in
        let walk = walk-numbers stored before own after (all ∙ ap distinct (session_chunks-split sessions k within)) in
        let total : length (distinct (before ++ own)) ≡ chunks_before book (suc k) =
        ap (λ (l : List (List ℕ)). length (distinct l)) (session_chunks-more sessions k within) ∙ sym (before-book (suc k)) in
        subst (λ (n : ℕ). IsCounted n (recipe_in_book book k) (chunks_before book (suc k))) (sym (before-book k))
        (subst (λ (r : List ℕ). IsCounted (length (distinct before)) r (chunks_before book (suc k))) (sym (recipe-book k))
        (subst (λ (n : ℕ). IsCounted (length (distinct before)) (map (first_index stored) own) n) total
        (counted-walk (length (distinct before)) (map (first_index stored) own) (length (distinct (before ++ own))) walk)))

module _ (name_of : List ℕ → List ℕ) (files : File → List ℕ) (state : State) where
  -- the chunks of the book of a state
  kept-chunks : chunks_in (book_of_state name_of state).sessions ≡ map (named name_of) (stored_chunks state)
  kept-chunks =
      ap chunks_in (sessions-book name_of state)
      ∙ chunks-book name_of (stored_chunks state) [] (sessions_in state)
      ∙ ap (λ (l : List (List ℕ)). map (named name_of) (distinct l)) (chunks-placed state)

  have-stored : HoldState name_of files state → HaveChunks files (opened_of name_of state) (stored_chunks state)
  have-stored holds = record {
    lengths = sym (ap (map (λ (c : NewChunk). c.length)) kept-chunks ∙ lengths-named name_of (stored_chunks state));
    containers = holds.containers;
  }

  named-stored : AreNamed name_of (book_of_state name_of state) (stored_chunks state)
  named-stored i within =
      let none : NewChunk = record { length = 0; name = [] } in
      sym (ap (λ (l : List NewChunk). (slice_index_or l i none).name) kept-chunks
      ∙ ap (λ (c : NewChunk). c.name) (get_or-map (named name_of) (stored_chunks state) i [] none within))

  pub session-at : (k : ℕ) → k < length (sessions_in state) → chunks_of_session (book_of_state name_of state) (stored_chunks state) k ≡ own_chunks (sessions_in state) k
  session-at k within =
      let stored = stored_chunks state in
      let sessions = sessions_in state in
      let nothing : StoredSession = record { name = []; chunks = []; live = false } in
      let session = slice_index_or sessions k nothing in
      let own : own_chunks sessions k ≡ session.chunks = get_or-map (λ (s : StoredSession). s.chunks) sessions k nothing [] within in
      ap (map (λ n. slice_index_or stored n [])) (recipe-book name_of stored (book_of_state name_of state) sessions (sessions-book name_of state) k ∙ ap (map (first_index stored)) own)
      ∙ All-get_or (λ (s : StoredSession). map (chunk_at stored) (recipe_of state s) ≡ s.chunks) sessions k nothing within (recipes_name_their_chunks state)
      ∙ sym own

  cut-session : IsLawful state → (k : ℕ) → k < length (sessions_in state) → IsCutting state.params (own_chunks (sessions_in state) k)
  cut-session lawful k within =
      let sessions = sessions_in state in
      let nothing : StoredSession = record { name = []; chunks = []; live = false } in
      let own : own_chunks sessions k ≡ (slice_index_or sessions k nothing).chunks = get_or-map (λ (s : StoredSession). s.chunks) sessions k nothing [] within in
      subst (IsCutting state.params) (sym own) (All-get_or (λ (s : StoredSession). IsCutting state.params s.chunks) sessions k nothing within lawful.cut)

  pub sessions-many : length (book_of_state name_of state).sessions ≡ length (sessions_in state)
  sessions-many = ap length (sessions-book name_of state) ∙ length-book name_of (stored_chunks state) [] (sessions_in state)

  pub held-flawless : IsLawful state → HoldState name_of files state → IsFlawOf name_of files (opened_of name_of state) None
  held-flawless lawful holds =
      let stored = stored_chunks state in
      let sessions = sessions_in state in (
        stored,
        have-stored holds,
        record {
          named = named-stored;
          different = new-different stored (distinct-different (placed_chunks state.events));
          in_order = λ k within.
              ordered-book name_of stored (book_of_state name_of state) sessions (sessions-book name_of state)
              (ap distinct (sym (chunks-placed state))) k (omega (arith, within, sessions-many));
          cut = λ k within place inside.
              let there : k < length sessions = omega (arith, within, sessions-many) in
              let cut : IsCutting state.params (chunks_of_session (book_of_state name_of state) stored k) =
              subst (IsCutting state.params) (sym (session-at k there)) (cut-session lawful k there) in
              ap (λ (cs : List (List ℕ)). slice_index_or cs place []) cut;
        },
      )

one-if : (live : Bool) (k : ℕ) (numbers : List ℕ) → cond live 1 0 + length numbers ≡ length (if live then k ∷ numbers else numbers)
one-if true k numbers = omega arith
one-if false k numbers = omega arith

-- as many sessions of the book are live as of the state
live-book : (name_of : List ℕ → List ℕ) (stored before : List (List ℕ)) (k : ℕ) (sessions : List StoredSession) →
    count_by (λ (s : Session). s.live) (book_sessions name_of stored before sessions) ≡ length (live_numbers k sessions)
live-book name_of stored before k [] = refl
live-book name_of stored before k (s ∷ sessions) =
    let rest = book_sessions name_of stored (before ++ s.chunks) sessions in
    let later = live-book name_of stored (before ++ s.chunks) (k + 1) sessions in
    sum_by-cons (λ (t : Session). cond t.live 1 0) (book_session name_of stored before s) rest
    ∙ ap (λ (n : ℕ). cond s.live 1 0 + n) later
    ∙ one-if s.live k (live_numbers (k + 1) sessions)

pub counts-book : (name_of : List ℕ → List ℕ) (state : State) → counts_of_book (book_of_state name_of state) ≡ counts_of_state state
counts-book name_of state =
    let stored = stored_chunks state in
    let live : count_by (λ (s : Session). s.live) (book_of_state name_of state).sessions ≡ length (live_sessions state) =
    ap (count_by (λ (s : Session). s.live)) (sessions-book name_of state) ∙ live-book name_of stored [] 0 (sessions_in state) in
    let chunks : length (chunks_in (book_of_state name_of state).sessions) ≡ length stored =
    ap (λ (l : List NewChunk). length l) (kept-chunks name_of (λ file. []) state) ∙ length-map stored (named name_of) in
    let containers : length (needed_sizes (book_of_state name_of state)) ≡ length (packing stored) =
    ap (λ (l : List ℕ). length l) (sizes-book name_of state) ∙ length-map (packing stored) length in
    let many = sessions-many name_of (λ file. []) state in
    cc
