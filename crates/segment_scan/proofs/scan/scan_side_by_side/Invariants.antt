use Rattle.std.proofs.Common.{◌≡◌, ◌+◌, ◌-◌, ◌^◌, ◌<◌}
use Rattle.std.specs.Prelude.{slice_range}
use Rattle.sd_base.specs.Params.{numbers_of}
use Rattle.sd_base.specs.Polynomial.{degree, fingerprint}
use Rattle.sd_base.specs.declared.limits.TheConstants.{WINDOW}
use Rattle.segment_scan.proofs.Halves.{AddsBoth}
use Rattle.segment_scan.proofs.scan.scan_side_by_side.Given as goal

-- each fingerprint is that of the window before its position, and the candidates up to that
-- position in its half are marked
abbrev pub invariant-loop-p : goal.invariant-loop-p
invariant-loop-p l = record {
  left : l.left ≡ fingerprint l.tables.polynomial (slice_range l.text (l.p - WINDOW) l.p);
  left_reduced : l.left < 2 ^ degree l.tables.polynomial;
  right : l.right ≡ fingerprint l.tables.polynomial (slice_range l.text (l.p + (l.middle - l.first) - WINDOW) (l.p + (l.middle - l.first)));
  right_reduced : l.right < 2 ^ degree l.tables.polynomial;
  added : AddsBoth (numbers_of l.params) l.text (l.first - 1) l.p (l.middle - 1) (l.p + (l.middle - l.first)) l.fn.map l.map;
}
