-- The stored chunks that a recipe names are the chunks of its session.
use Rattle.std.proofs.Common.{◌≡◌, inl, inr, ℕ, zero, suc, ◌+◌, true, List, [], ◌∷◌, ◌++◌, map, refl, ap, sym, subst, ◌∙◌, arith}
use Rattle.std.specs.Str.{bytes_eq}
use Rattle.std.proofs.lemmas.Bool.{cases_Bool}
use Rattle.std.proofs.lemmas.Slice.Eq.{bytes_eq-Decides}
use Rattle.std.specs.List.{All, AllByRecursion, fold}
use Rattle.std.proofs.lemmas.List.{append_assoc}
use Rattle.std.proofs.lemmas.List.Elements.{All-from_recursion}
use Rattle.sd_base.specs.Distinct.{is_among, first_index}
use Rattle.sd_base.specs.States.{Event, ingested, dropped, State, StoredSession, with_drop, with_event, sessions_in, placed_chunks, stored_chunks, recipe_of}
use Rattle.sd_base.specs.StateLaws.{chunk_at}
use Rattle.sd_base.proofs.States.{among_own, among_later, among_first, among_second, placed-stored}

-- one chunk further in a longer list
chunk_at-next : (first : List ℕ) (stored : List (List ℕ)) (n : ℕ) → chunk_at (first ∷ stored) (1 + n) ≡ chunk_at stored n
chunk_at-next first stored n = let e : 1 + n ≡ suc n = omega arith in ap (chunk_at (first ∷ stored)) e

-- the chunk at the first index of a chunk is that chunk
pub chunk_at-first_index : (stored : List (List ℕ)) (chunk : List ℕ) → is_among stored chunk ≡ true → chunk_at stored (first_index stored chunk) ≡ chunk
chunk_at-first_index [] chunk among = absurd cc
chunk_at-first_index (first ∷ stored) chunk among =
    elim (cases_Bool (bytes_eq chunk first)) [
      | inl same ↦ rw same (sym ((bytes_eq-Decides chunk first).0 same))
      | inr other ↦ rw other (chunk_at-next first stored (first_index stored chunk) ∙ chunk_at-first_index stored chunk (rw other at among))
    ]

pub chunks-of_recipe : (stored chunks : List (List ℕ)) → ((chunk : List ℕ) → is_among chunks chunk ≡ true → is_among stored chunk ≡ true) →
    map (chunk_at stored) (map (first_index stored) chunks) ≡ chunks
chunks-of_recipe stored [] among = refl
chunks-of_recipe stored (chunk ∷ chunks) among =
    rw (chunk_at-first_index stored chunk (among chunk (among_own chunk chunks)))
    (ap (λ rest. chunk ∷ rest) (chunks-of_recipe stored chunks (λ c later. among c (among_later c chunk chunks later))))

-- each chunk of each of these sessions is among placed chunks
abbrev pub ArePlaced : List (List ℕ) → List StoredSession → Type 0
ArePlaced placed [] = Unit {0}
ArePlaced placed (session ∷ sessions) =
    ((chunk : List ℕ) → is_among session.chunks chunk ≡ true → is_among placed chunk ≡ true) × ArePlaced placed sessions

placed-more : (placed more : List (List ℕ)) (sessions : List StoredSession) → ArePlaced placed sessions → ArePlaced (placed ++ more) sessions
placed-more placed more [] all = tt
placed-more placed more (session ∷ sessions) all =
    (λ chunk here. among_first chunk placed more (all.0 chunk here), placed-more placed more sessions all.1)

placed-one_more : (placed : List (List ℕ)) (sessions : List StoredSession) (name : List ℕ) (chunks : List (List ℕ)) → ArePlaced placed sessions →
    ArePlaced (placed ++ chunks) (sessions ++ record { name = name; chunks = chunks; live = true } ∷ [])
placed-one_more placed [] name chunks all = (λ chunk here. among_second chunk placed chunks here, tt)
placed-one_more placed (session ∷ sessions) name chunks all =
    (λ chunk here. among_first chunk placed chunks (all.0 chunk here), placed-one_more placed sessions name chunks all.1)

placed-with_drop : (placed : List (List ℕ)) (sessions : List StoredSession) (k : ℕ) → ArePlaced placed sessions → ArePlaced placed (with_drop sessions k)
placed-with_drop placed [] k all = tt
placed-with_drop placed (session ∷ sessions) zero all = all
placed-with_drop placed (session ∷ sessions) (suc k) all = (all.0, placed-with_drop placed sessions k all.1)

placed-fold : (events : List Event) (placed : List (List ℕ)) (sessions : List StoredSession) → ArePlaced placed sessions →
    ArePlaced (placed ++ placed_chunks events) (fold with_event sessions events)
placed-fold [] placed sessions all = placed-more placed [] sessions all
placed-fold (ingested name chunks ∷ events) placed sessions all =
    subst (λ all_placed. ArePlaced all_placed (fold with_event (with_event sessions (ingested name chunks)) events))
    (append_assoc placed chunks (placed_chunks events))
    (placed-fold events (placed ++ chunks) (with_event sessions (ingested name chunks)) (placed-one_more placed sessions name chunks all))
placed-fold (dropped k ∷ events) placed sessions all =
    placed-fold events placed (with_event sessions (dropped k)) (placed-with_drop placed sessions k all)

-- the chunks of the sessions of a state are placed in it
pub sessions_are_placed : (state : State) → ArePlaced (placed_chunks state.events) (sessions_in state)
sessions_are_placed state = placed-fold state.events [] [] tt

recipes-of_placed : (state : State) (sessions : List StoredSession) → ArePlaced (placed_chunks state.events) sessions →
    AllByRecursion (λ (session : StoredSession). map (chunk_at (stored_chunks state)) (recipe_of state session) ≡ session.chunks) sessions
recipes-of_placed state [] all = tt
recipes-of_placed state (session ∷ sessions) all = (
  chunks-of_recipe (stored_chunks state) session.chunks (λ chunk here. placed-stored state chunk (all.0 chunk here)),
  recipes-of_placed state sessions all.1,
)

pub recipes_name_their_chunks : (state : State) →
    All (λ session. map (chunk_at (stored_chunks state)) (recipe_of state session) ≡ session.chunks) (sessions_in state)
recipes_name_their_chunks state =
    All-from_recursion (λ (session : StoredSession). map (chunk_at (stored_chunks state)) (recipe_of state session) ≡ session.chunks)
    (sessions_in state) (recipes-of_placed state (sessions_in state) (sessions_are_placed state))
