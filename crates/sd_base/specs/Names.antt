-- The names of sessions: 1 to 64 ASCII letters, digits, `.`, `_` and `-`. The first is a letter or
-- a digit. So no name has a slash or a `=`, or begins with a dot, a dash or a `_`.
use Rattle.std.specs.Prelude.{ℕ, ◌≤◌, ◌==◌, ◌&&◌, ◌||◌, nat_le, Bool, not, if◌then◌else◌, IsTrue, List, length, slice_index, Option, Some, None}
use Rattle.std.specs.Char.{is_ascii_alphanumeric}
use Rattle.std.specs.List.{All, list_all}
use Rattle.sd_base.specs.declared.limits.TheConstants.{MAX_NAME}
use Rattle.sd_base.specs.declared.name.BadName.{BadName}
use Rattle.sd_base.specs.declared.name.BadName.TheVariants.{Length, Letter}

-- whether a byte is allowed in a name: a letter, a digit, `.`, `_` or `-`
abbrev pub name_byte : ℕ → Bool
name_byte c = is_ascii_alphanumeric c || c == 46 || c == 95 || c == 45

-- the bytes are a name of a session
pub record IsName (bytes : List ℕ) : Type 0 where
  pub not_empty : 1 ≤ length bytes
  pub within_limit : length bytes ≤ MAX_NAME
  pub first : IsTrue (is_ascii_alphanumeric (slice_index bytes 0))
  pub letters : All (λ c. IsTrue (name_byte c)) bytes

-- what is wrong with bytes that are no name of a session
abbrev pub bad_name : List ℕ → Option BadName
bad_name bytes =
    if not (nat_le 1 (length bytes) && nat_le (length bytes) MAX_NAME) then Some Length
    else if not (is_ascii_alphanumeric (slice_index bytes 0) && list_all name_byte bytes) then Some Letter
    else None
