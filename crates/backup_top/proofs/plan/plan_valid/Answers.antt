-- What was read and made, or why it was not.
use Rattle.std.proofs.Common.{Err, ap, ◌∙◌}
use Rattle.sd_base.specs.Params.{numbers_of}
use Rattle.backup_top.proofs.Plans.{plan_made, plan_no_memory, plan_too_long, plan_unread}
use Rattle.backup_top.proofs.plan.plan_valid.Goals as goal

pub returns-in-Ok : goal.returns-in-Ok
returns-in-Ok g c =
    let made = c.read_plan_text.ensures in
    let ok = c.in-Ok.ensures in
    plan_made (numbers_of c.args.params.now) g.R.Source.left g.R.Source.faults g.R.Source.faultless c.args.source.now
    c.read_plan_text.new.source _ made.counts made.taken_at_most c.in-Ok.text ok.pass ok.at_end ok.fits

pub returns-in-Err-SourceFault : goal.returns-in-Err-SourceFault
returns-in-Err-SourceFault g c =
    let made = c.read_plan_text.ensures in
    plan_unread (numbers_of c.args.params.now) g.R.Source.left g.R.Source.faults g.R.Source.faultless c.args.source.now
    c.read_plan_text.new.source _ made.counts made.taken_at_most
    (c.in-Err-SourceFault.is ∙ ap Err c.in-Err-SourceFault.field-0-is)

pub returns-in-Err-InputTooLong : goal.returns-in-Err-InputTooLong
returns-in-Err-InputTooLong g c =
    let made = c.read_plan_text.ensures in
    let long = c.in-Err-InputTooLong.is ∙ ap Err c.in-Err-InputTooLong.field-0-is in
    plan_too_long (numbers_of c.args.params.now) g.R.Source.left g.R.Source.faults g.R.Source.faultless c.args.source.now
    c.read_plan_text.new.source _ made.counts made.taken_at_most (made.too_long long) (made.taken long)

pub returns-in-Err-OutOfMemory : goal.returns-in-Err-OutOfMemory
returns-in-Err-OutOfMemory g c =
    let made = c.read_plan_text.ensures in
    plan_no_memory (numbers_of c.args.params.now) g.R.Source.left g.R.Source.faults g.R.Source.faultless c.args.source.now
    c.read_plan_text.new.source _ made.counts made.taken_at_most
