-- What opening finds of the containers.
use Rattle.std.specs.Prelude.{◌≡◌, ◌⊎◌, ◌<◌, ◌≤◌, ℕ, List, length, slice_index_or, Result, Err}
use Rattle.sd_base.specs.declared.damage.Damage.{Damage}
use Rattle.sd_base.specs.declared.damage.Damage.TheVariants.{Container as ShortContainer}
use Rattle.sd_base.specs.declared.file.File.{File}
use Rattle.sd_base.specs.declared.file.File.TheVariants.{Container}
use Rattle.store_core.specs.declared.fault.StoreFault.{StoreFault}
use Rattle.store_core.specs.declared.fault.StoreFault.TheVariants.{Damaged, ShelfFault, OutOfMemory}

-- the damage is the first of the containers that needs more bytes than its file has
pub record IsFirstShort (files : File → List ℕ) (generation : ℕ) (sizes : List ℕ)
    (damage : Damage) : Type 0 where
  pub number : ℕ
  pub within : number < length sizes
  pub before : (k : ℕ) → k < number → slice_index_or sizes k 0 ≤ length (files (Container generation k))
  pub short : length (files (Container generation number)) < slice_index_or sizes number 0
  pub equals : damage ≡ ShortContainer number (slice_index_or sizes number 0)
      (length (files (Container generation number)))

-- how a call that only reads may be refused
abbrev pub OnlyFinds : {T : Type 0} → Result T StoreFault → Type 0
OnlyFinds result =
    ((damage : Damage) × (result ≡ Err (Damaged damage))) ⊎ (result ≡ Err ShelfFault) ⊎ (result ≡ Err OutOfMemory)
