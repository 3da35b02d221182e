-- A run on an input in memory, over a shelf in memory. All rules here are this project's own.
use Rattle.std.specs.Prelude.{◌≡◌, ◌⊎◌, ℕ, List, take}
use Rattle.sha2.specs.Sha256.{sha256}
use Rattle.sd_base.specs.OnePass.{Pass}
use Rattle.sd_base.specs.Stores.{Hold}
use Rattle.sd_base.specs.declared.file.File.{File}
use Rattle.sd_base.specs.declared.outcome.Outcome.{Outcome}
use Rattle.sd_base.specs.declared.outcome.Outcome.TheVariants.{OutOfMemory, ShelfFault}

-- The run is the pass: its outcome, its text, and the state that the files hold after it.
pub record IsPass (pass : Pass) (outcome : Outcome) (written : List ℕ) (files : File → List ℕ) : Type 0 where
  pub outcome_is : outcome ≡ pass.outcome
  pub text_is : written ≡ pass.text
  pub held : Hold sha256 files pass.after

-- The run is the pass, or memory ran out, or the shelf failed. It fails only if it is not known that
-- it never will.
abbrev pub EndsInMemory : Pass → Outcome → List ℕ → (File → List ℕ) → Type 0 → Type 0
EndsInMemory pass outcome written files faultless =
    IsPass pass outcome written files ⊎ (outcome ≡ OutOfMemory) ⊎ ((outcome ≡ ShelfFault) × (faultless → ⊥))

-- nothing but a prefix of the text was written
abbrev pub WritesPrefix : Pass → List ℕ → Type 0
WritesPrefix pass written = (k : ℕ) × (written ≡ take k pass.text)
