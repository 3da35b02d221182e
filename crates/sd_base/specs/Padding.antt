-- What a `Name` keeps in memory: its bytes, and zeros after them. Its `Model` is defined by these
-- definitions; no `requires` and no `ensures` cites them.
use Rattle.std.specs.Prelude.{◌≡◌, ℕ, ◌-◌, ◌≤◌, ◌++◌, List, length, take, drop, replicate}
use Rattle.std.proofs.Common.{refl, arith}
use Rattle.std.proofs.lemmas.List.{length-take-le, take-append-drop}
use Rattle.sd_base.specs.Names.{IsName}
use Rattle.sd_base.specs.declared.limits.TheConstants.{MAX_NAME}
use Rattle.sd_base.specs.declared.name.Name.TheInside.{Inside}

-- the first bytes are a name, and those after it are zeros
pub record IsPadded (name : Inside) : Type 0 where
  pub lawful : IsName (take name.len name.padded)
  pub within : name.len ≤ MAX_NAME
  pub whole : length name.padded ≡ MAX_NAME
  pub zeros : drop name.len name.padded ≡ replicate (MAX_NAME - name.len) 0

-- the bytes of the name
abbrev pub name_bytes : Inside → List ℕ
name_bytes name = take name.len name.padded

-- what a `Name` with these bytes keeps
abbrev pub padded_of : List ℕ → Inside
padded_of bytes = record { padded = bytes ++ replicate (MAX_NAME - length bytes) 0; len = length bytes }

pub padded_of-name_bytes : (name : Inside) → IsPadded name → padded_of (name_bytes name) ≡ name
padded_of-name_bytes name holds =
    let within : name.len ≤ length name.padded = omega (arith, holds.within, holds.whole) in
    rw (length-take-le name.len name.padded within, ← holds.zeros, take-append-drop name.len name.padded) refl
