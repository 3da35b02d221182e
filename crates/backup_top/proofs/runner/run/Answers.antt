-- The run of the command that the words name, or of words that name none.
use Rattle.std.proofs.Common.{IfOk, Result, rules, subst, sym}
use Rattle.sd_base.proofs.Commands.{numbers_in_range}
use Rattle.sd_base.specs.Commands.{HasNumbersInRange}
use Rattle.sd_base.specs.OnePass.{pass_of}
use Rattle.sd_base.specs.declared.outcome.Outcome.TheVariants.{BadWords}
use Rattle.sd_base.specs.declared.words.BadWords.{BadWords as Refusal}
use Rattle.sd_base.specs.declared.words.Command.{Command}
use Rattle.backup_top.specs.Run.{IsRun}
use Rattle.backup_top.specs.Words.{texts_of}
use Rattle.backup_top.proofs.Runs.{bad_words}
use Rattle.backup_top.proofs.runner.run.Goals as goal

pub returns-in-Err : goal.returns-in-Err
returns-in-Err g c = record {
  run = subst
      (λ (command : Result Command Refusal). IsRun (pass_of command) command (BadWords c.in-Err.bad)
      g.R.Source.left g.R.Source.faults g.R.Source.faultless c.args.source.now c.args.source.now
      g.K.Sink.written g.K.Sink.faults g.K.Sink.faultless c.args.sink.now c.args.sink.now
      g.F.Shelf.files g.F.Shelf.loose g.F.Shelf.faults g.F.Shelf.faultless c.args.shelf.now c.args.shelf.now)
      c.in-Err.ensures
      (bad_words _ _ _ _ _ _ _ _ _ _ _ _ _ _);
}

pub run_command-requires : goal.run_command-requires
run_command-requires g c =
    let in_range : HasNumbersInRange c.in-Ok.command =
    subst (λ (command : Result Command Refusal). IfOk command HasNumbersInRange) (sym c.in-Ok.ensures)
    (numbers_in_range (texts_of c.args.words.now)) in
    search rules

pub returns-in-Ok : goal.returns-in-Ok
returns-in-Ok g c = record {
  run = subst
      (λ (command : Result Command Refusal). IsRun (pass_of command) command c.run_command.result
      g.R.Source.left g.R.Source.faults g.R.Source.faultless c.args.source.now c.run_command.new.source
      g.K.Sink.written g.K.Sink.faults g.K.Sink.faultless c.args.sink.now c.run_command.new.sink
      g.F.Shelf.files g.F.Shelf.loose g.F.Shelf.faults g.F.Shelf.faultless c.args.shelf.now c.run_command.new.shelf)
      c.in-Ok.ensures c.run_command.ensures.run;
}
