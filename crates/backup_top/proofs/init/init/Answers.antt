use Rattle.std.proofs.Common.{Option, subst}
use Rattle.std.specs.Prelude.{Ok}
use Rattle.sd_base.specs.OnePass.{pass_of_init, pass_of_valid_init}
use Rattle.sd_base.specs.declared.params.BadParams.{BadParams as BadParameter}
use Rattle.sd_base.specs.declared.raw_params.RawParams.{RawParams}
use Rattle.sd_base.specs.declared.words.Command.TheVariants.{Quiet as quiet}
use Rattle.sd_base.specs.declared.words.Quiet.TheVariants.{Init}
use Rattle.backup_top.specs.Steps.{MakesText}
use Rattle.backup_top.proofs.Inits.{init_bad}
use Rattle.backup_top.proofs.init.init.Goals as goal

pub returns-in-Ok : goal.returns-in-Ok
returns-in-Ok g c =
    let at_raw = subst
    (λ (raw : RawParams). MakesText (pass_of_valid_init raw) (Ok (quiet (Init raw))) c.init_valid.result
    g.F.Shelf.files g.F.Shelf.loose g.F.Shelf.faults g.F.Shelf.faultless c.args.shelf.now c.init_valid.new.shelf)
    c.in-Ok.ensures.made c.init_valid.ensures in
    subst
    (λ (flaw : Option BadParameter). MakesText (pass_of_init flaw c.args.raw.now) (Ok (quiet (Init c.args.raw.now)))
    c.init_valid.result
    g.F.Shelf.files g.F.Shelf.loose g.F.Shelf.faults g.F.Shelf.faultless c.args.shelf.now c.init_valid.new.shelf)
    c.in-Ok.ensures.refused at_raw

pub returns-in-Err : goal.returns-in-Err
returns-in-Err g c = init_bad c.args.raw.now c.in-Err.kind c.in-Err.ensures.refused _ _ _ _ _
