-- What contracts know of a shelf in memory.
use Rattle.std.specs.Prelude.{◌≡◌, ℕ, List, Bool, Option, Result, IsErrOf, OnOk, IsSome, IsNone}
use Rattle.edge_traits.specs.declared.fault.EdgeFault.{EdgeFault}
use Rattle.edge_traits.specs.declared.fault.EdgeFault.TheVariants.{Failed}
use Rattle.edge_traits.specs.declared.mem_shelf.MemShelf.{MemShelf}
use Rattle.sd_base.specs.declared.file.File.{File}
use Rattle.edge_traits.specs.declared.shelf_plan.ShelfFail.{ShelfFail}
use Rattle.edge_traits.specs.Entries.{bytes_of_file, is_loose_file}
use Rattle.edge_traits.specs.Faults.{counted_once_more, CountsFailed}
use Rattle.edge_traits.specs.ShelfPlan.{fail_at, ArePast}

-- the bytes of each file; one that does not exist counts as empty
abbrev pub files_of_shelf : MemShelf → File → List ℕ
files_of_shelf shelf = bytes_of_file shelf.entries.items

-- whether a file was appended to or cut since it was last flushed or put
abbrev pub loose_of_shelf : MemShelf → File → Bool
loose_of_shelf shelf = is_loose_file shelf.entries.items

-- the calls that fail
abbrev pub failing_calls : MemShelf → List ShelfFail
failing_calls shelf = shelf.plan.failing.items

-- how many calls there have been, at most 2^64 - 1
abbrev pub shelf_calls : MemShelf → ℕ
shelf_calls shelf = shelf.plan.tally.calls

-- how many of them have failed
abbrev pub shelf_faults : MemShelf → ℕ
shelf_faults shelf = shelf.plan.tally.faults

-- what the next call keeps, if it is to fail
abbrev pub kept_next : MemShelf → Option ℕ
kept_next shelf = fail_at (failing_calls shelf) (shelf_calls shelf)

-- It will never fail again: each call that is to fail has been made.
abbrev pub IsFaultlessShelf : MemShelf → Type 0
IsFaultlessShelf shelf = ArePast (failing_calls shelf) (shelf_calls shelf)

-- The call was counted. It failed only if it was to fail, and if it was to fail it was refused.
pub record IsCounted {T : Type 0} (result : Result T EdgeFault) (before after : MemShelf) : Type 0 where
  pub fails : IsErrOf result Failed → IsSome (kept_next before)
  pub ok : OnOk result (IsNone (kept_next before))
  pub faults : CountsFailed result (shelf_faults before) (shelf_faults after)
  pub calls : shelf_calls after ≡ counted_once_more (shelf_calls before)
  pub failing : failing_calls after ≡ failing_calls before
  pub faultless_serves : IsFaultlessShelf before → IsErrOf result Failed → ⊥
  pub faultless_counts_none : IsFaultlessShelf before → shelf_faults after ≡ shelf_faults before
  pub stays_faultless : IsFaultlessShelf before → IsFaultlessShelf after

-- no file has changed
pub record IsUntouched (before after : MemShelf) : Type 0 where
  pub files : (f : File) → files_of_shelf after f ≡ files_of_shelf before f
  pub loose : (f : File) → loose_of_shelf after f ≡ loose_of_shelf before f
