-- Opening has at most one verdict: files hold no store, or they have one first damage, or they open
-- as one store. Which lawful state they hold, if one, is then fixed too.
use Rattle.std.specs.Prelude.{◌≡◌, ℕ, List}
use Rattle.sd_base.specs.Opening.{IsOpeningDamage, OpenAs, Opened}
use Rattle.sd_base.specs.States.{IsLawful, State}
use Rattle.sd_base.specs.Stores.{GivesNames, HoldNoStore, HoldState}
use Rattle.sd_base.specs.declared.damage.Damage.{Damage}
use Rattle.sd_base.specs.declared.file.File.{File}

-- files open as one store
abbrev pub OpenAsOne : Type 0
OpenAsOne =
    (files : File → List ℕ) (first second : Opened) → OpenAs files first → OpenAs files second → first ≡ second

-- files have one first damage
abbrev pub HaveOneDamage : Type 0
HaveOneDamage =
    (files : File → List ℕ) (first second : Damage) →
    IsOpeningDamage files first → IsOpeningDamage files second → first ≡ second

-- files that open have no damage
abbrev pub OpenUndamaged : Type 0
OpenUndamaged =
    (files : File → List ℕ) (opened : Opened) (damage : Damage) →
    OpenAs files opened → IsOpeningDamage files damage → ⊥

-- files that hold no store do not open
abbrev pub NoStoreIsNotOpened : Type 0
NoStoreIsNotOpened = (files : File → List ℕ) (opened : Opened) → HoldNoStore files → OpenAs files opened → ⊥

-- files that hold no store have no damage
abbrev pub NoStoreIsUndamaged : Type 0
NoStoreIsUndamaged =
    (files : File → List ℕ) (damage : Damage) → HoldNoStore files → IsOpeningDamage files damage → ⊥

-- files that hold a lawful state have no damage
abbrev pub HeldStatesAreUndamaged : Type 0
HeldStatesAreUndamaged =
    (name_of : List ℕ → List ℕ) (files : File → List ℕ) (state : State) (damage : Damage) →
    GivesNames name_of → IsLawful state → HoldState name_of files state → IsOpeningDamage files damage → ⊥

-- files hold at most one lawful state
abbrev pub HoldOneState : Type 0
HoldOneState =
    (name_of : List ℕ → List ℕ) (files : File → List ℕ) (first second : State) →
    GivesNames name_of → IsLawful first → IsLawful second →
    HoldState name_of files first → HoldState name_of files second → first ≡ second
