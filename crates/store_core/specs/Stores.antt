-- What making a store does to the files of its shelf.
use Rattle.std.specs.Prelude.{◌≡◌, ◌⊎◌, ℕ, List, Option, IfSome, Result, Err}
use Rattle.sd_base.specs.States.{new_state}
use Rattle.sd_base.specs.Stores.{HoldNoStore, HoldState}
use Rattle.sd_base.specs.declared.file.File.{File}
use Rattle.sd_base.specs.declared.raw_params.RawParams.{RawParams}
use Rattle.store_core.specs.declared.fault.StoreFault.{StoreFault}
use Rattle.store_core.specs.declared.fault.StoreFault.TheVariants.{StoreThere, ShelfFault, OutOfMemory}

-- how making a store may be refused
abbrev pub OnlyMakes : {T : Type 0} → Result T StoreFault → Type 0
OnlyMakes result = (result ≡ Err StoreThere) ⊎ (result ≡ Err ShelfFault) ⊎ (result ≡ Err OutOfMemory)

-- the files hold a store that was made with these parameters, however chunks are named
abbrev pub HoldNew : RawParams → (File → List ℕ) → Type 0
HoldNew params files = (name_of : List ℕ → List ℕ) → HoldState name_of files (new_state params)

-- if the files held no store before a call, they hold none after it
abbrev pub LeavesNone : Option (File → List ℕ) → Option (File → List ℕ) → Type 0
LeavesNone old new = IfSome old (λ before. HoldNoStore before → IfSome new HoldNoStore)

-- if they held no store before, they hold none after it, or the one that was made with these
-- parameters
abbrev pub LeavesNoneOrNew : RawParams → Option (File → List ℕ) → Option (File → List ℕ) → Type 0
LeavesNoneOrNew params old new =
    IfSome old (λ before. HoldNoStore before → IfSome new (λ after. HoldNoStore after ⊎ HoldNew params after))
