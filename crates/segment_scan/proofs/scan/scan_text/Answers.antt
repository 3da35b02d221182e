use Rattle.std.proofs.Common.{◌-◌, ◌≤◌, ◌<◌, ◌⊎◌, inl, inr, arith}
use Rattle.std.proofs.lemmas.Bool.{cases_lt}
use Rattle.sd_base.specs.Params.{numbers_of}
use Rattle.sd_base.specs.declared.limits.TheConstants.{WINDOW}
use Rattle.segment_scan.proofs.Adding.{adds_none}
use Rattle.segment_scan.proofs.Halves.{adds_joined}
use Rattle.segment_scan.proofs.scan.scan_text.Goals as goal

pub returns-then-from-to : goal.returns-then-from-to
returns-then-from-to c =
    let no_room : (c.args.to ≤ c.args.from) ⊎ (c.args.to < WINDOW) = elim c.then-from-to.either [ inl empty ↦ inl empty | inr early ↦ inr early.1 ] in
    adds_none (numbers_of c.args.params.now) c.args.text.now c.args.from c.args.to c.args.map.now no_room

pub returns : goal.returns
returns c =
    let params = numbers_of c.args.params.now in
    let text = c.args.text.now in
    let from = c.args.from in
    let first = c.max-first.result in
    let start = c.args.map.now in
    let no_room : (first - 1 ≤ from) ⊎ (first - 1 < WINDOW) = elim (cases_lt from WINDOW) [ inl low ↦ inr (omega arith) | inr high ↦ inl (omega arith) ] in
    adds_joined params text from (first - 1) (first - 1) c.args.to start start c.scan_side_by_side.new.map (omega arith) (omega arith) (omega arith)
    (adds_none params text from (first - 1) start no_room) c.scan_side_by_side.ensures
