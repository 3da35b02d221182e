-- The live sessions among the first ones of a book.
use Rattle.std.proofs.Common.{◌≡◌, ℕ, zero, suc, ◌+◌, ◌<◌, true, false, List, [], ◌∷◌, length, take, slice_index_or, refl, sym, ◌∙◌, arith}
use Rattle.std.specs.List.{count_by}
use Rattle.std.proofs.lemmas.List.Sums.{count_by_more_no, count_by_more_yes}
use Rattle.sd_base.specs.Books.{is_live}
use Rattle.sd_base.specs.declared.record.Session.{Session}

no_session : Session
no_session = record { entry = record { name = []; length = 0; fresh = []; recipe = [] }; live = false }

live-at : (sessions : List Session) (k : ℕ) → k < length sessions → is_live sessions k ≡ (slice_index_or sessions k no_session).live
live-at [] k within = absurd (omega (arith, within))
live-at (s ∷ sessions) zero within = refl
live-at (s ∷ sessions) (suc k) within = live-at sessions k (omega (arith, within))

-- how many of the first k sessions are live
abbrev pub live_to : List Session → ℕ → ℕ
live_to sessions k = count_by (λ session. session.live) (take k sessions)

-- one session more
pub live-more : (sessions : List Session) (k : ℕ) → k < length sessions → is_live sessions k ≡ true →
    live_to sessions (k + 1) ≡ live_to sessions k + 1
live-more sessions k within is =
    count_by_more_yes (λ (session : Session). session.live) sessions k no_session within (sym (live-at sessions k within) ∙ is)

pub live-same : (sessions : List Session) (k : ℕ) → k < length sessions → is_live sessions k ≡ false →
    live_to sessions (k + 1) ≡ live_to sessions k
live-same sessions k within is =
    count_by_more_no (λ (session : Session). session.live) sessions k no_session within (sym (live-at sessions k within) ∙ is)
