use Rattle.std.proofs.Common.{◌≡◌, ◌∙◌, ℕ, List, IfOk, ap, string_bytes, subst}
use Rattle.sd_base.specs.Cutting.{chunks_of}
use Rattle.sd_base.specs.Params.{numbers_of}
use Rattle.backup_top.specs.Lines.{printed_lines}
use Rattle.backup_top.proofs.Plans.{print_lines}
use Rattle.backup_top.proofs.plan.text_of_input.Goals as goal

pub returns : goal.returns
returns g c =
    let chunks = chunks_of (numbers_of c.args.params.now) c.args.input.now in
    subst (λ (printed : List ℕ). IfOk c.text_of_plan.result (λ text. string_bytes text ≡ printed))
    (ap printed_lines (c.deref.ensures.value ∙ c.in_ok-lines.ensures.lines) ∙ print_lines 0 chunks) c.text_of_plan.ensures
