use Rattle.sd_base.specs.Firsts.{HoldsAtPlaces}
use Rattle.sd_base.specs.Flaws.{places_of_session}
use Rattle.ingest_core.specs.AuditCuts.{PassesIn}
use Rattle.ingest_core.proofs.auditing.cuts.first_not_passed.Given as goal

-- each place of the sessions before this one passes
abbrev pub invariant-loop-session : goal.invariant-loop-session
invariant-loop-session l = record { so_far : HoldsAtPlaces l.session (places_of_session l.book) (PassesIn l.cuts l.book) }
