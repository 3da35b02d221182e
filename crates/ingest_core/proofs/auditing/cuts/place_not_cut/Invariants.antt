use Rattle.sd_base.specs.Firsts.{HoldsBelow}
use Rattle.ingest_core.specs.AuditCuts.{PassesAt}
use Rattle.ingest_core.proofs.auditing.cuts.place_not_cut.Given as goal

-- the places before this one pass
abbrev pub invariant-loop-place : goal.invariant-loop-place
invariant-loop-place l = record { so_far : HoldsBelow l.place (PassesAt l.cuts l.recipe) }
