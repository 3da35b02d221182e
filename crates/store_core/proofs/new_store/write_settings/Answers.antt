use Rattle.std.proofs.Common.{rules, ◌∙◌}
use Rattle.container_pack.proofs.PackerLemmas.{on_err}
use Rattle.sd_base.specs.declared.file.File.TheVariants.{Head}
use Rattle.store_core.proofs.NewStoreLemmas.{leaves-none}
use Rattle.store_core.proofs.new_store.write_settings.Goals as goal

pub returns-in_err-cut : goal.returns-in_err-cut
returns-in_err-cut g c = record {
  seal = search rules;
  head = search rules;
  refused = on_err c.from_residual.result
      (leaves-none (g.F.Shelf.files c.args.shelf.now) (g.F.Shelf.files c.cut.new.self)
      (c.cut.ensures.other_files Head (λ is. absurd cc)));
  other_files = search rules;
  other_loose = search rules;
  flushed = search rules;
  counts = search rules;
}

pub returns-in_err-flush : goal.returns-in_err-flush
returns-in_err-flush g c = record {
  seal = search rules;
  head = search rules;
  refused = on_err c.from_residual-in_err-flush.result
      (leaves-none (g.F.Shelf.files c.args.shelf.now) (g.F.Shelf.files c.flush.new.self)
      (c.flush.ensures.same_files Head ∙ c.cut.ensures.other_files Head (λ is. absurd cc)));
  other_files = search rules;
  other_loose = search rules;
  flushed = search rules;
  counts = search rules;
}

pub returns : goal.returns
returns g c = search rules

pub returns-in_err-cut-2 : goal.returns-in_err-cut-2
returns-in_err-cut-2 g c = search rules

pub returns-in_err-append : goal.returns-in_err-append
returns-in_err-append g c = search rules
