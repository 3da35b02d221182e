-- A window, as contracts see it: the region of LBFS (SOSP 2001, section 3.1), with the polynomial
-- that it is divided by.
use Rattle.std.specs.Prelude.{◌≡◌, ℕ, ◌^◌, ◌<◌, List, ◌++◌, take, drop}
use Rattle.sd_base.specs.Polynomial.{degree, fingerprint}
use Rattle.sd_base.specs.declared.limits.TheConstants.{WINDOW}

-- the polynomial, and the bytes of the window, the oldest first
pub record WindowView : Type 0 where
  pub polynomial : ℕ
  pub bytes : List ℕ

-- the bytes of a ring whose oldest byte is at this place
unfoldable pub oldest_first : ℕ → List ℕ → List ℕ
oldest_first place ring = drop place ring ++ take place ring

-- the value that is kept is the fingerprint of the ring's bytes
pub record IsWindow (p value oldest : ℕ) (ring : List ℕ) : Type 0 where
  pub in_ring : oldest < WINDOW
  pub fingerprinted : value ≡ fingerprint p (oldest_first oldest ring)
  pub reduced : value < 2 ^ degree p
