use Rattle.std.proofs.Common.{◌+◌, ◌-◌, ◌/◌, sym, ◌∙◌}
use Rattle.std.proofs.lemmas.Result.{IfOk-at_ok}
use Rattle.sd_base.specs.Params.{numbers_of}
use Rattle.segment_scan.specs.Scan.{HoldsShares}
use Rattle.segment_scan.proofs.workers.+fn-scan_shares-back+fn-scan_shares-front+scan_shares.Goals as goal

pub or_map-requires : goal.or_map-requires
or_map-requires g t c =
    let work = c.args.work.now in
    let middle = c.args.low + (c.args.high - c.args.low) / 2 in
    let first = IfOk-at_ok (HoldsShares (numbers_of work.params.now) work.text.now work.segment work.workers c.args.low middle) c.in_ok-map.was c.join-first.ensures.first in
    let second = IfOk-at_ok (HoldsShares (numbers_of work.params.now) work.text.now work.segment work.workers middle c.args.high) c.in_ok-second.was c.join-first.ensures.second in
    record { same_bits = second.bits ∙ sym first.bits }
