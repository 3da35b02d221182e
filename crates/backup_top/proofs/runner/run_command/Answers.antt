-- A quiet command, an ingest, or `bulk`.
use Rattle.std.proofs.Common.{Ok, rules, subst, sym}
use Rattle.sd_base.specs.Commands.{HasNumbersInRange}
use Rattle.sd_base.specs.OnePass.{pass_of_command}
use Rattle.sd_base.specs.declared.words.Command.{Command}
use Rattle.sd_base.specs.declared.words.Command.TheVariants.{Quiet as quiet}
use Rattle.backup_top.specs.Run.{IsRun}
use Rattle.backup_top.proofs.Bulks.{bulk_runs}
use Rattle.backup_top.proofs.Ingests.{ingest_runs}
use Rattle.backup_top.proofs.runner.run_command.Goals as goal

pub run_quiet-requires : goal.run_quiet-requires
run_quiet-requires g c =
    let in_range : HasNumbersInRange (quiet c.in-Quiet.command) = subst HasNumbersInRange c.in-Quiet.is c.requires in
    search rules

pub returns-in-Quiet : goal.returns-in-Quiet
returns-in-Quiet g c = record {
  run = subst
      (λ (command : Command). IsRun (pass_of_command command) (Ok command) c.run_quiet.result
      g.R.Source.left g.R.Source.faults g.R.Source.faultless c.args.source.now c.run_quiet.new.source
      g.K.Sink.written g.K.Sink.faults g.K.Sink.faultless c.args.sink.now c.run_quiet.new.sink
      g.F.Shelf.files g.F.Shelf.loose g.F.Shelf.faults g.F.Shelf.faultless c.args.shelf.now c.run_quiet.new.shelf)
      (sym c.in-Quiet.is) c.run_quiet.ensures.run;
}

pub returns-in-Ingest : goal.returns-in-Ingest
returns-in-Ingest g c = record {
  run = subst
      (λ (command : Command). IsRun (pass_of_command command) (Ok command) c.write_made.result
      g.R.Source.left g.R.Source.faults g.R.Source.faultless c.args.source.now c.ingest.new.source
      g.K.Sink.written g.K.Sink.faults g.K.Sink.faultless c.args.sink.now c.write_made.new.sink
      g.F.Shelf.files g.F.Shelf.loose g.F.Shelf.faults g.F.Shelf.faultless c.args.shelf.now c.ingest.new.shelf)
      (sym c.in-Ingest.is)
      (ingest_runs _ _ c.ingest.result c.write_made.result _ _ _ _ _ _ _ _ _ _ _ _ _ _ _ _
      c.ingest.ensures.text c.ingest.ensures.reads c.write_made.ensures);
}

pub returns-in-Bulk : goal.returns-in-Bulk
returns-in-Bulk g c = record {
  run = subst
      (λ (command : Command). IsRun (pass_of_command command) (Ok command) c.write_made-in-Bulk.result
      g.R.Source.left g.R.Source.faults g.R.Source.faultless c.args.source.now c.args.source.now
      g.K.Sink.written g.K.Sink.faults g.K.Sink.faultless c.args.sink.now c.write_made-in-Bulk.new.sink
      g.F.Shelf.files g.F.Shelf.loose g.F.Shelf.faults g.F.Shelf.faultless c.args.shelf.now c.bulk.new.shelf)
      (sym c.in-Bulk.is)
      (bulk_runs _ _ _ c.bulk.result c.write_made-in-Bulk.result _ _ _ _ _ _ _ _ _ _ _ _ _ _ _
      c.bulk.ensures.text c.bulk.ensures.by_book c.write_made-in-Bulk.ensures);
}
