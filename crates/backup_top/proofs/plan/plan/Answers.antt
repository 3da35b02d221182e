use Rattle.std.proofs.Common.{Option, subst}
use Rattle.std.specs.Prelude.{Err}
use Rattle.sd_base.specs.OnePass.{pass_of_plan}
use Rattle.sd_base.specs.declared.outcome.Outcome.TheVariants.{BadParams}
use Rattle.sd_base.specs.declared.params.BadParams.{BadParams as BadParameter}
use Rattle.backup_top.specs.Steps.{MakesPlan}
use Rattle.backup_top.proofs.Plans.{pass_for_numbers, refuses_parameter}
use Rattle.backup_top.proofs.plan.plan.Goals as goal

pub returns-in-Ok : goal.returns-in-Ok
returns-in-Ok g c =
    pass_for_numbers
    (λ flaw pass. MakesPlan flaw pass c.plan_valid.result
    g.R.Source.left g.R.Source.faults g.R.Source.faultless c.args.source.now c.plan_valid.new.source)
    _ _ c.in-Ok.ensures.refused c.in-Ok.ensures.made c.plan_valid.ensures

pub returns-in-Err : goal.returns-in-Err
returns-in-Err g c =
    subst
    (λ (kind : Option BadParameter). MakesPlan kind (pass_of_plan kind c.args.raw.now) (Err (BadParams c.in-Err.kind))
    g.R.Source.left g.R.Source.faults g.R.Source.faultless c.args.source.now c.args.source.now)
    c.in-Err.ensures.refused
    (refuses_parameter _ c.args.raw.now _ _ _ _)
