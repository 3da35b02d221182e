-- The numbers that steer cutting. That low-order bits of a fingerprint are compared, and that there
-- is a minimum and a maximum, is from LBFS (SOSP 2001, section 3.1). The ranges are this project's
-- own.
use Rattle.std.specs.Prelude.{◌≡◌, ℕ, ◌%◌, ◌^◌, ◌<◌, ◌≤◌, ◌==◌, ◌||◌, nat_lt, nat_le, if◌then◌else◌, Option, Some, None}
use Rattle.sd_base.specs.declared.limits.TheConstants.{MIN_POLYNOMIAL, MAX_BITS, MIN_CHUNK_LEN, MAX_CHUNK_LEN}
use Rattle.sd_base.specs.declared.raw_params.RawParams.{RawParams}
use Rattle.sd_base.specs.declared.params.BadParams.{BadParams}
use Rattle.sd_base.specs.declared.params.BadParams.TheVariants.{Polynomial, Bits, Target, Min, Max}

-- the coefficients of a polynomial of degree 16 to 63 with the constant term 1
abbrev pub IsPolynomial : ℕ → Type 0
IsPolynomial p = (MIN_POLYNOMIAL ≤ p) × (p < 2 ^ 64) × (p % 2 ≡ 1)

-- the numbers are in their ranges
pub record IsValid (raw : RawParams) : Type 0 where
  pub polynomial : IsPolynomial raw.polynomial
  pub bits : (1 ≤ raw.bits) × (raw.bits ≤ MAX_BITS)
  pub target : raw.target < 2 ^ raw.bits
  pub min : MIN_CHUNK_LEN ≤ raw.min
  pub max : (raw.min ≤ raw.max) × (raw.max ≤ MAX_CHUNK_LEN)

-- the first number that is out of its range
abbrev pub bad_parameter : RawParams → Option BadParams
bad_parameter raw =
    if nat_lt raw.polynomial MIN_POLYNOMIAL || raw.polynomial % 2 == 0 then Some Polynomial
    else if raw.bits == 0 || nat_lt MAX_BITS raw.bits then Some Bits
    else if nat_le (2 ^ raw.bits) raw.target then Some Target
    else if nat_lt raw.min MIN_CHUNK_LEN then Some Min
    else if nat_lt raw.max raw.min || nat_lt MAX_CHUNK_LEN raw.max then Some Max
    else None
