-- What calls of the store do to a device, whatever it holds. A device is a shelf or a sink. Each
-- fact takes the ghost functions of the device, and the device itself before and after the call.
use Rattle.std.specs.Prelude.{◌≡◌, ℕ, ◌≤◌, List, Bool, Option}
use Rattle.edge_traits.specs.Faults.{Rose}
use Rattle.edge_traits.specs.Shelf.{SameFiles, SameLoose}
use Rattle.sd_base.specs.declared.file.File.{File}

-- The call failed only if the device's count of faults rose. The count never falls. Over a device
-- that will never fail again the call does not fail, the count does not rise, and the device will
-- still never fail.
pub record CountsFaults {F : Type 0} (fails : Type 0) (faults : F → ℕ) (faultless : F → Type 0)
    (before after : F) : Type 0 where
  pub failed : fails → Rose (faults before) (faults after)
  pub never_falls : faults before ≤ faults after
  pub faultless_serves : faultless before → fails → ⊥
  pub faultless_counts_none : faultless before → faults after ≡ faults before
  pub stays_faultless : faultless before → faultless after

-- no file has changed, the same files are loose, and faults are counted
pub record OnlyReads {F : Type 0} (fails : Type 0) (files : F → Option (File → List ℕ))
    (loose : F → File → Bool) (faults : F → ℕ) (faultless : F → Type 0) (before after : F) : Type 0 where
  pub same_files : SameFiles (files before) (files after)
  pub same_loose : SameLoose (loose before) (loose after)
  pub counts : CountsFaults fails faults faultless before after
