-- What an audit of a store returns, by the files alone: counts of the lawful state that they hold, or
-- what is first wrong with them.
use Rattle.std.specs.Prelude.{◌≡◌, ◌⊎◌, List, ℕ, Option, Some, None, Result, Err, IfErr, IfOk, IsErrAnd}
use Rattle.ingest_core.specs.declared.auditing.Audited.{Audited}
use Rattle.sd_base.specs.Audits.{StoreCounts, counts_of_book, counts_of_state}
use Rattle.sd_base.specs.Flaws.{IsFlawOf}
use Rattle.sd_base.specs.Opening.{IsOpeningDamage, OpenAs, Opened}
use Rattle.sd_base.specs.States.{IsLawful, State}
use Rattle.sd_base.specs.Stores.{HoldNoStore, HoldState}
use Rattle.sd_base.specs.declared.damage.Damage.{Damage}
use Rattle.sd_base.specs.declared.file.File.{File}
use Rattle.store_core.specs.declared.fault.StoreFault.{StoreFault}
use Rattle.store_core.specs.declared.fault.StoreFault.TheVariants.{Damaged, NoStore, OutOfMemory, ShelfFault}

-- the counts that an audit shows
abbrev pub counts_of : Audited → StoreCounts
counts_of audited = record {
  live = audited.live;
  ingested = audited.ingested;
  chunks = audited.chunks;
  containers = audited.containers;
}

-- the shelf failed, or memory ran out
abbrev pub Breaks : StoreFault → Type 0
Breaks fault = (fault ≡ ShelfFault) ⊎ (fault ≡ OutOfMemory)

-- with what an audit may be refused
abbrev pub IsOfAudit : StoreFault → Type 0
IsOfAudit fault = Breaks fault ⊎ (fault ≡ NoStore) ⊎ ((damage : Damage) × (fault ≡ Damaged damage))

-- the files hold a lawful state of these counts
abbrev pub HoldStateOf : (List ℕ → List ℕ) → (File → List ℕ) → StoreCounts → Type 0
HoldStateOf name_of files counts =
    (state : State) × IsLawful state × HoldState name_of files state × (counts ≡ counts_of_state state)

-- the damage is the first of the files: that of opening them or, if they open, their first flaw
abbrev pub IsFirstDamage : (List ℕ → List ℕ) → (File → List ℕ) → Damage → Type 0
IsFirstDamage name_of files damage =
    IsOpeningDamage files damage ⊎ ((opened : Opened) × OpenAs files opened × IsFlawOf name_of files opened (Some damage))

-- The audit is refused so, unless the shelf failed or memory ran out.
abbrev pub IsRefusedAs : Result Audited StoreFault → StoreFault → Type 0
IsRefusedAs result cause = IsErrAnd result (λ fault. Breaks fault ⊎ (fault ≡ cause))

-- The audit is done with the counts of these records and, unless the shelf failed or memory ran out,
-- it is done.
pub record IsDoneAs (counts : StoreCounts) (result : Result Audited StoreFault) : Type 0 where
  pub counted : IfOk result (λ audited. counts_of audited ≡ counts)
  pub refused : IfErr result Breaks

-- What an audit returns over files that open and have this first flaw, or none.
abbrev pub ReturnsFlaw : Opened → Option Damage → Result Audited StoreFault → Type 0
ReturnsFlaw opened None result = IsDoneAs (counts_of_book opened.book) result
ReturnsFlaw opened (Some damage) result = IsRefusedAs result (Damaged damage)

-- An audit over these files, whatever they are.
pub record AuditsFiles (name_of : List ℕ → List ℕ) (files : File → List ℕ) (result : Result Audited StoreFault) : Type 0 where
  -- It is done only if the files hold a lawful state, and shows the counts of that state. Over files
  -- that hold one it is done, unless the shelf failed or memory ran out.
  pub lawful : IfOk result (λ audited. HoldStateOf name_of files (counts_of audited))
  pub held : (state : State) → IsLawful state → HoldState name_of files state → IsDoneAs (counts_of_state state) result
  -- A damage is returned only if the files hold no lawful state, and it is their first.
  pub unlawful : (damage : Damage) → result ≡ Err (Damaged damage)
      → (state : State) → IsLawful state → HoldState name_of files state → ⊥
  pub damaged : (damage : Damage) → result ≡ Err (Damaged damage) → IsFirstDamage name_of files damage
  -- If there is no store, the audit is refused so, and only then.
  pub no_store : result ≡ Err NoStore → HoldNoStore files
  pub absent : HoldNoStore files → IsRefusedAs result NoStore
  -- The first damage of opening is returned, and if the files open, their first flaw.
  pub opening : (damage : Damage) → IsOpeningDamage files damage → IsRefusedAs result (Damaged damage)
  pub first_flaw : (opened : Opened) → OpenAs files opened
      → (flaw : Option Damage) → IsFlawOf name_of files opened flaw → ReturnsFlaw opened flaw result
