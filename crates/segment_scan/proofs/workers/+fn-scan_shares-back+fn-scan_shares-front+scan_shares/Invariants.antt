use Rattle.std.proofs.Common.{◌-◌}
use Rattle.segment_scan.proofs.workers.+fn-scan_shares-back+fn-scan_shares-front+scan_shares.Given as goal

abbrev pub decreases-front : goal.decreases-front
decreases-front g l = l.middle - l.low

abbrev pub decreases-back : goal.decreases-back
decreases-back g l = l.high - l.middle

abbrev pub decreases-scan_shares : goal.decreases-scan_shares
decreases-scan_shares g l = l.high - l.low
