use Rattle.std.proofs.Common.{false, replicate, subst}
use Rattle.sd_base.specs.Params.{numbers_of}
use Rattle.segment_scan.specs.Scan.{AddsCandidates}
use Rattle.segment_scan.proofs.Maps.{holds_candidates}
use Rattle.segment_scan.proofs.scan.scan_range.Goals as goal

pub returns-clause-from_empty : goal.returns-clause-from_empty
returns-clause-from_empty c bits rest empty first =
    let params = numbers_of c.args.params.now in
    let text = c.args.text.now in
    let from_none = subst (λ before. AddsCandidates params text c.args.from c.args.to before c.scan_text.new.map) empty c.scan_text.ensures in
    let from_zero = subst (λ from. AddsCandidates params text from c.args.to (replicate bits false) c.scan_text.new.map) first from_none in
    holds_candidates params text rest bits c.args.to c.scan_text.new.map c.requires.inside from_zero
