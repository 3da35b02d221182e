use Rattle.std.proofs.Common.{arith}
use Rattle.std.proofs.lemmas.Result.{IfOk-weaker}
use Rattle.sd_base.specs.Params.{numbers_of}
use Rattle.segment_scan.proofs.Shares.{holds_all}
use Rattle.segment_scan.proofs.workers.scan_all.Goals as goal

pub returns-clause-candidates : goal.returns-clause-candidates
returns-clause-candidates g c =
    IfOk-weaker c.scan_shares.result _ _
    (λ map shares rest. holds_all (numbers_of c.args.params.now) c.args.text.now rest c.args.segment c.min.result map (omega arith) shares)
    c.scan_shares.ensures
