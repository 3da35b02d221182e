use Rattle.sd_base.specs.Params.{numbers_of}
use Rattle.segment_scan.proofs.Shares.{HoldsTurns}
use Rattle.segment_scan.proofs.workers.scan_share.Given as goal

-- the segments of the worker's turns so far were scanned
abbrev pub invariant-loop-turn : goal.invariant-loop-turn
invariant-loop-turn g l = HoldsTurns (numbers_of l.work.params.now) l.work.text.now l.work.segment l.work.workers l.worker l.turn l.map
