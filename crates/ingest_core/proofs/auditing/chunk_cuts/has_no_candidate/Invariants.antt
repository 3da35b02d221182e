use Rattle.std.proofs.Common.{◌≡◌, ◌-◌, ◌^◌, ◌<◌, ◌≤◌, ℕ}
use Rattle.std.specs.Prelude.{slice_range}
use Rattle.sd_base.specs.Cutting.{IsCandidate}
use Rattle.sd_base.specs.Params.{numbers_of}
use Rattle.sd_base.specs.Polynomial.{degree, fingerprint}
use Rattle.sd_base.specs.declared.limits.TheConstants.{WINDOW}
use Rattle.ingest_core.proofs.auditing.chunk_cuts.has_no_candidate.Given as goal

-- the fingerprint is that of the window before the position, and no position before it at which the
-- chunk might end is a candidate
abbrev pub invariant-loop-p : goal.invariant-loop-p
invariant-loop-p l = record {
  value : l.value ≡ fingerprint l.tables.polynomial (slice_range l.chunk (l.p - WINDOW) l.p);
  reduced : l.value < 2 ^ degree l.tables.polynomial;
  none : (q : ℕ) → l.params.min ≤ q → q < l.p → IsCandidate (numbers_of l.params) l.chunk q → ⊥;
}
