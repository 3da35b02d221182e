-- A book with one more record: what its chunks, its places and its live sessions become.
use Rattle.std.proofs.Common.{◌≡◌, ℕ, zero, suc, ◌+◌, ◌<◌, Bool, true, false, cond, List, [], ◌∷◌, ◌++◌, length, IsTrue, refl, sym, ap, ◌∙◌, arith, length-append}
use Rattle.std.specs.List.{count_by}
use Rattle.std.proofs.Math.ListN.{set}
use Rattle.std.specs.Prelude.{slice_index_or}
use Rattle.std.proofs.lemmas.Grind.{flat_map-append}
use Rattle.std.proofs.lemmas.List.{append-nil}
use Rattle.std.proofs.lemmas.List.Sums.{sum_by-cons, sum_by-append}
use Rattle.std.proofs.lemmas.List.Concat.{flat_map-cons}
use Rattle.sd_base.specs.Books.{without, chunks_in, places_in, is_live}
use Rattle.sd_base.specs.declared.record.NewChunk.{NewChunk}
use Rattle.sd_base.specs.declared.record.Session.{Session}

-- how many sessions are live
abbrev pub live_count : List Session → ℕ
live_count sessions = count_by (λ session. session.live) sessions

pub live_within : (sessions : List Session) (k : ℕ) → IsTrue (is_live sessions k) → k < length sessions
live_within [] k live = absurd cc
live_within (session ∷ sessions) zero live = omega arith
live_within (session ∷ sessions) (suc k) live = omega (arith, live_within sessions k live)

-- dropping a session writes one element
pub without_is_set : (sessions : List Session) (k : ℕ) (d : Session) → k < length sessions → set sessions k (record { entry = (slice_index_or sessions k d).entry; live = false }) ≡ without k sessions
without_is_set [] k d lt = absurd (omega arith)
without_is_set (session ∷ sessions) zero d lt = refl
without_is_set (session ∷ sessions) (suc k) d lt = ap (λ (rest : List Session). session ∷ rest) (without_is_set sessions k d (omega arith))

one_less : (b : Bool) (n : ℕ) → IsTrue b → (0 + n) + 1 ≡ cond b 1 0 + n
one_less true n live = omega arith
one_less false n live = absurd cc

-- what a drop leaves as it was
pub record IsDropped (k : ℕ) (sessions : List Session) : Type 0 where
  pub chunks : chunks_in (without k sessions) ≡ chunks_in sessions
  pub places : places_in (without k sessions) ≡ places_in sessions
  pub count : length (without k sessions) ≡ length sessions
  pub live : live_count (without k sessions) + 1 ≡ live_count sessions

pub drop_leaves : (sessions : List Session) (k : ℕ) → IsTrue (is_live sessions k) → IsDropped k sessions
drop_leaves [] k live = absurd cc
drop_leaves (session ∷ sessions) zero live = record {
  chunks = refl;
  places = refl;
  count = refl;
  live = ap (λ n. n + 1) (sum_by-cons (λ (session : Session). cond session.live 1 0) (record { entry = session.entry; live = false }) sessions) ∙ one_less session.live (live_count sessions) live ∙ sym (sum_by-cons (λ (session : Session). cond session.live 1 0) session sessions);
}
drop_leaves (session ∷ sessions) (suc k) live =
    let rest = drop_leaves sessions k live in
    record {
      chunks = flat_map-cons (λ (session : Session). session.entry.fresh) session (without k sessions) ∙ ap (λ xs. session.entry.fresh ++ xs) rest.chunks ∙ sym (flat_map-cons (λ (session : Session). session.entry.fresh) session sessions);
      places = sum_by-cons (λ (session : Session). length session.entry.recipe) session (without k sessions) ∙ ap (λ n. length session.entry.recipe + n) rest.places ∙ sym (sum_by-cons (λ (session : Session). length session.entry.recipe) session sessions);
      count = omega (arith, rest.count);
      live = omega (arith, rest.live, sum_by-cons (λ (session : Session). cond session.live 1 0) session (without k sessions), sum_by-cons (λ (session : Session). cond session.live 1 0) session sessions);
    }

-- what one more session adds
pub record IsAdded (sessions : List Session) (session : Session) : Type 0 where
  pub chunks : chunks_in (sessions ++ session ∷ []) ≡ chunks_in sessions ++ session.entry.fresh
  pub places : places_in (sessions ++ session ∷ []) ≡ places_in sessions + length session.entry.recipe
  pub count : length (sessions ++ session ∷ []) ≡ length sessions + 1
  pub live : live_count (sessions ++ session ∷ []) ≡ live_count sessions + cond session.live 1 0

pub push_adds : (sessions : List Session) (session : Session) → IsAdded sessions session
push_adds sessions session = record {
  chunks = flat_map-append (λ (session : Session). session.entry.fresh) sessions (session ∷ []) ∙ ap (λ (t : List NewChunk). chunks_in sessions ++ t) (append-nil session.entry.fresh);
  places = omega (arith, sum_by-append (λ (session : Session). length session.entry.recipe) sessions (session ∷ []));
  count = length-append sessions (session ∷ []);
  live = omega (arith, sum_by-append (λ (session : Session). cond session.live 1 0) sessions (session ∷ []));
}
