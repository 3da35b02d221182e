use Rattle.std.proofs.Common.{ℕ, ◌≤◌}
use Rattle.sd_base.specs.Cutting.{MayEndAt}
use Rattle.sd_base.specs.Params.{numbers_of}
use Rattle.backup_top.proofs.reference_cutting.next_cut_from.Given as goal

-- no position that was passed may end the chunk
abbrev pub invariant-loop-position : goal.invariant-loop-position
invariant-loop-position l = (q : ℕ) → MayEndAt (numbers_of l.params) l.input l.start q → l.position ≤ q
