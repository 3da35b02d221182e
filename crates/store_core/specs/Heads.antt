-- What opening reads from the head of a store.
use Rattle.std.specs.Prelude.{◌≡◌, ◌⊎◌, ℕ, List, Result, Err}
use Rattle.sd_base.specs.Opening.{HeadState}
use Rattle.sd_base.specs.Parameters.{IsValid}
use Rattle.sd_base.specs.Params.{numbers_of}
use Rattle.sd_base.specs.Settings.{settings_of}
use Rattle.sd_base.specs.declared.damage.Damage.{Damage}
use Rattle.sd_base.specs.declared.raw_params.RawParams.{RawParams}
use Rattle.store_core.specs.declared.fault.StoreFault.{StoreFault}
use Rattle.store_core.specs.declared.fault.StoreFault.TheVariants.{NoStore, Damaged, ShelfFault, OutOfMemory}
use Rattle.store_core.specs.declared.head_file.StoreHead.{StoreHead}

-- a head, as the definitions have it
abbrev pub head_state : StoreHead → HeadState
head_state head = record { params = numbers_of head.params; generation = head.generation }

-- the bytes are the settings of no valid parameters
abbrev pub AreNoSettings : List ℕ → Type 0
AreNoSettings bytes = (raw : RawParams) → IsValid raw → bytes ≡ settings_of raw → ⊥

-- how opening may be refused
abbrev pub OnlyOpens : {T : Type 0} → Result T StoreFault → Type 0
OnlyOpens result =
    (result ≡ Err NoStore) ⊎ ((damage : Damage) × (result ≡ Err (Damaged damage))) ⊎ (result ≡ Err ShelfFault)
    ⊎ (result ≡ Err OutOfMemory)
