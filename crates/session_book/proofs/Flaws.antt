-- The recipes of sessions, one after another.
use Rattle.std.proofs.Common.{◌≡◌, ℕ, suc, ◌+◌, ◌<◌, ◌≤◌, List, [], ◌∷◌, ◌++◌, length, take, drop, get_or, Option, Some, None, sym, ap, ◌∙◌, arith, length-append, add-one, drop-cons}
use Rattle.std.proofs.lemmas.Grind.{flat_map-append}
use Rattle.std.proofs.lemmas.List.{append-nil, take_more, take_at, take-append-drop, length-take-le}
use Rattle.sd_base.specs.Books.{chunks_in, recipe_flaw, flaw_at, recipe_damage}
use Rattle.sd_base.specs.declared.damage.Damage.{Damage}
use Rattle.sd_base.specs.declared.damage.Damage.TheVariants.{Recipe}
use Rattle.sd_base.specs.declared.record.NewChunk.{NewChunk}
use Rattle.sd_base.specs.declared.record.Session.{Session}

-- the session at a place, and the chunks counted so far
pub record IsAt (sessions : List Session) (chunks fresh : List NewChunk) (count k : ℕ) (session : Session) : Type 0 where
  pub within : k < length sessions
  pub equals : session ≡ get_or sessions k session
  pub all : chunks ≡ chunks_in sessions
  pub fresh_is : fresh ≡ session.entry.fresh
  pub counted : count ≡ length (chunks_in (take k sessions))

chunks_more : (sessions : List Session) (k : ℕ) (session : Session) → k < length sessions → session ≡ get_or sessions k session → chunks_in (take (k + 1) sessions) ≡ chunks_in (take k sessions) ++ session.entry.fresh
chunks_more sessions k session lt is =
    ap chunks_in (take_more sessions k session lt ∙ ap (λ (s : Session). take k sessions ++ s ∷ []) (sym is))
    ∙ flat_map-append (λ (session : Session). session.entry.fresh) (take k sessions) (session ∷ [])
    ∙ ap (λ (t : List NewChunk). chunks_in (take k sessions) ++ t) (append-nil session.entry.fresh)

chunks_split : (sessions : List Session) (k : ℕ) → chunks_in sessions ≡ chunks_in (take k sessions) ++ chunks_in (drop k sessions)
chunks_split sessions k = ap chunks_in (sym (take-append-drop k sessions)) ∙ flat_map-append (λ (session : Session). session.entry.fresh) (take k sessions) (drop k sessions)

pub count_more : (sessions : List Session) (chunks fresh : List NewChunk) (count k : ℕ) (session : Session) → IsAt sessions chunks fresh count k session → count + length fresh ≡ length (chunks_in (take (k + 1) sessions))
count_more sessions chunks fresh count k session at =
    omega (arith, at.counted, ap length at.fresh_is, ap length (chunks_more sessions k session at.within at.equals), length-append (chunks_in (take k sessions)) session.entry.fresh)

pub count_within : (sessions : List Session) (chunks fresh : List NewChunk) (count k : ℕ) (session : Session) → IsAt sessions chunks fresh count k session → count + length fresh ≤ length chunks
count_within sessions chunks fresh count k session at =
    omega (arith, count_more sessions chunks fresh count k session at, ap length at.all, ap length (chunks_split sessions (k + 1)), length-append (chunks_in (take (k + 1) sessions)) (chunks_in (drop (k + 1) sessions)))

front_is : (sessions : List Session) (chunks fresh : List NewChunk) (count k : ℕ) (session : Session) → IsAt sessions chunks fresh count k session → take (count + length fresh) chunks ≡ chunks_in (take (k + 1) sessions)
front_is sessions chunks fresh count k session at =
    let n = count + length fresh in
    ap (take n) (at.all ∙ chunks_split sessions (k + 1))
    ∙ take_at (chunks_in (take (k + 1) sessions)) (chunks_in (drop (k + 1) sessions)) n (sym (count_more sessions chunks fresh count k session at))

pub front_len : (sessions : List Session) (chunks fresh : List NewChunk) (count k : ℕ) (session : Session) → IsAt sessions chunks fresh count k session → count + length fresh ≡ length (take (count + length fresh) chunks)
front_len sessions chunks fresh count k session at = sym (length-take-le (count + length fresh) chunks (count_within sessions chunks fresh count k session at))

next_of : (sessions : List Session) (k : ℕ) (session : Session) → k < length sessions → session ≡ get_or sessions k session → drop k sessions ≡ session ∷ drop (k + 1) sessions
next_of sessions k session lt is = rw add-one (drop-cons sessions k session lt ∙ ap (λ (s : Session). s ∷ drop (suc k) sessions) (sym is))

damage_more : (sessions : List Session) (chunks fresh : List NewChunk) (count k : ℕ) (session : Session) (flaw : Option ℕ) → IsAt sessions chunks fresh count k session → flaw ≡ recipe_flaw (take (count + length fresh) chunks) session.entry
    → recipe_damage (chunks_in (take k sessions)) k (drop k sessions) ≡ flaw_at k flaw (recipe_damage (chunks_in (take (k + 1) sessions)) (k + 1) (drop (k + 1) sessions))
damage_more sessions chunks fresh count k session flaw at is =
    let after = drop (k + 1) sessions in
    let front : take (count + length fresh) chunks ≡ chunks_in (take (k + 1) sessions) = front_is sessions chunks fresh count k session at in
    ap (recipe_damage (chunks_in (take k sessions)) k) (next_of sessions k session at.within at.equals)
    ∙ ap (λ (xs : List NewChunk). flaw_at k (recipe_flaw xs session.entry) (recipe_damage xs (k + 1) after)) (sym (chunks_more sessions k session at.within at.equals))
    ∙ ap (λ (f : Option ℕ). flaw_at k f (recipe_damage (chunks_in (take (k + 1) sessions)) (k + 1) after)) (ap (λ (xs : List NewChunk). recipe_flaw xs session.entry) (sym front) ∙ sym is)

pub flaw_found : (sessions : List Session) (chunks fresh : List NewChunk) (count k : ℕ) (session : Session) (place : ℕ) (all : Option Damage) → IsAt sessions chunks fresh count k session → Some place ≡ recipe_flaw (take (count + length fresh) chunks) session.entry
    → recipe_damage (chunks_in (take k sessions)) k (drop k sessions) ≡ all → Some (Recipe k place) ≡ all
flaw_found sessions chunks fresh count k session place all at is so_far = sym (damage_more sessions chunks fresh count k session (Some place) at is) ∙ so_far

pub flaw_none : (sessions : List Session) (chunks fresh : List NewChunk) (count k : ℕ) (session : Session) (all : Option Damage) → IsAt sessions chunks fresh count k session → None ≡ recipe_flaw (take (count + length fresh) chunks) session.entry
    → recipe_damage (chunks_in (take k sessions)) k (drop k sessions) ≡ all → recipe_damage (chunks_in (take (k + 1) sessions)) (k + 1) (drop (k + 1) sessions) ≡ all
flaw_none sessions chunks fresh count k session all at is so_far = sym (damage_more sessions chunks fresh count k session None at is) ∙ so_far
