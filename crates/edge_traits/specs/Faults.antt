-- Counts of faults.
use Rattle.std.specs.Prelude.{◌≡◌, ◌⊎◌, ℕ, ◌+◌, ◌-◌, ◌^◌, ◌<◌, ◌≤◌, min, Result, OnOk, IsErrOf}
use Rattle.edge_traits.specs.declared.fault.EdgeFault.{EdgeFault}
use Rattle.edge_traits.specs.declared.fault.EdgeFault.TheVariants.{Failed, OutOfMemory}

-- The count rose in a call: it is greater at the exit than at the entry. A count that stands at
-- 2^64 - 1 counts as risen too, since it can grow no further.
abbrev pub Rose : ℕ → ℕ → Type 0
Rose before after = (before < after) ⊎ (after ≡ 2 ^ 64 - 1)

-- the next number, or 2^64 - 1 again
abbrev pub counted_once_more : ℕ → ℕ
counted_once_more n = min (n + 1) (2 ^ 64 - 1)

-- One more fault is counted. For a number of 64 bits, `rose` and `never_falls` follow from `count`.
pub record CountsFault (before after : ℕ) : Type 0 where
  pub count : after ≡ counted_once_more before
  pub rose : Rose before after
  pub never_falls : before ≤ after

-- One more fault is counted exactly if the call returned `Failed`. The count never reaches 2^64 -
-- 1, so here `Rose` means that it is greater.
pub record CountsFailed {T : Type 0} (result : Result T EdgeFault) (before after : ℕ) : Type 0 where
  pub failed : IsErrOf result Failed → after ≡ before + 1
  pub out_of_memory : IsErrOf result OutOfMemory → after ≡ before
  pub ok : OnOk result (after ≡ before)
  pub small : after < 2 ^ 64 - 1

-- One more fault is counted if the call failed, and none otherwise. The count stays at 2^64 - 1.
pub record CountsIfFailed {T : Type 0} (result : Result T EdgeFault) (before after : ℕ) : Type 0 where
  pub failed : IsErrOf result Failed → CountsFault before after
  pub out_of_memory : IsErrOf result OutOfMemory → after ≡ before
  pub ok : OnOk result (after ≡ before)
