use Rattle.std.proofs.Common.{rules, ap, ◌∙◌}
use Rattle.std.specs.Prelude.{Err}
use Rattle.container_pack.proofs.PackerLemmas.{on_err}
use Rattle.container_pack.proofs.ShelfLemmas.{AppendedAt-cut, KeepsFront-refused_append, KeepsFront-refused_cut}
use Rattle.sd_base.specs.declared.file.File.TheVariants.{Book}
use Rattle.store_core.proofs.Passing.{counts-as, counts-of, counts-then, edge-passed}
use Rattle.store_core.proofs.commit_files.write_record.Goals as goal

pub returns-in_err-cut : goal.returns-in_err-cut
returns-in_err-cut g c = record {
  written = search rules;
  other_files = search rules;
  flushed = search rules;
  refused = on_err c.from_residual.result (record {
    book = KeepsFront-refused_cut (Book c.args.generation) c.args.used (g.F.Shelf.files c.args.shelf.now)
        (g.F.Shelf.files c.cut.new.self) (Err c.in_err-cut.field-0.0) c.in_err-cut.ensures.cut_or_same
        c.in_err-cut.ensures.out_of_memory;
    others = c.cut.ensures.other_files;
  });
  generation = search rules;
  behind = search rules;
  none_left = search rules;
  counts = search rules;
}

pub returns-in_err-append : goal.returns-in_err-append
returns-in_err-append g c = record {
  written = search rules;
  other_files = search rules;
  flushed = search rules;
  refused = on_err c.from_residual-in_err-append.result (record {
    book = KeepsFront-refused_append (Book c.args.generation) c.args.used (g.F.Shelf.files c.args.shelf.now)
        (g.F.Shelf.files c.append.new.self) (g.F.Shelf.files c.cut.new.self) c.args.bytes.now c.in_ok-cut.ensures.cut
        c.in_err-append.field-0.0 (λ failed. c.in_err-append.ensures.prefix (ap Err failed))
        (λ none. c.in_err-append.ensures.out_of_memory (ap Err none));
    others = λ f apart. c.append.ensures.other_files f apart ∙ c.cut.ensures.other_files f apart;
  });
  generation = search rules;
  behind = search rules;
  none_left = search rules;
  counts = search rules;
}

pub returns-in_err-flush-clause-refused : goal.returns-in_err-flush-clause-refused
returns-in_err-flush-clause-refused g c = on_err c.from_residual-in_err-flush.result (record {
  book = (
    c.args.bytes.now,
    c.flush.ensures.same_files (Book c.args.generation) ∙ AppendedAt-cut (Book c.args.generation) c.args.used (g.F.Shelf.files c.args.shelf.now)
        (g.F.Shelf.files c.append.new.self) (g.F.Shelf.files c.cut.new.self) c.args.bytes.now c.in_ok-cut.ensures.cut
        c.in_ok-append.ensures.appended,
  );
  others = λ f apart. c.flush.ensures.same_files f ∙ c.append.ensures.other_files f apart
      ∙ c.cut.ensures.other_files f apart;
})

pub returns-clause-refused : goal.returns-clause-refused
returns-clause-refused g c = on_err c.flush-2.result (record {
  book = (
    c.args.bytes.now,
    c.flush-2.ensures.same_files (Book c.args.generation)
        ∙ c.flush.ensures.same_files (Book c.args.generation) ∙ AppendedAt-cut (Book c.args.generation) c.args.used (g.F.Shelf.files c.args.shelf.now)
        (g.F.Shelf.files c.append.new.self) (g.F.Shelf.files c.cut.new.self) c.args.bytes.now c.in_ok-cut.ensures.cut
        c.in_ok-append.ensures.appended,
  );
  others = λ f apart. c.flush-2.ensures.same_files f ∙ c.flush.ensures.same_files f
      ∙ c.append.ensures.other_files f apart ∙ c.cut.ensures.other_files f apart;
})

pub returns-in_err-flush-clause-counts : goal.returns-in_err-flush-clause-counts
returns-in_err-flush-clause-counts g c =
    let cut = counts-of g.F.Shelf.faults g.F.Shelf.faultless c.args.shelf.now c.cut.new.self
    c.cut.ensures.failed c.cut.ensures.never_falls c.cut.ensures.faultless_serves c.cut.ensures.faultless_counts_none c.cut.ensures.stays_faultless in
    let append = counts-of g.F.Shelf.faults g.F.Shelf.faultless c.cut.new.self c.append.new.self
    c.append.ensures.failed c.append.ensures.never_falls c.append.ensures.faultless_serves c.append.ensures.faultless_counts_none c.append.ensures.stays_faultless in
    let flush = counts-of g.F.Shelf.faults g.F.Shelf.faultless c.append.new.self c.flush.new.shelf
    c.in_err-flush.ensures.failed c.in_err-flush.ensures.never_falls c.in_err-flush.ensures.faultless_serves c.in_err-flush.ensures.faultless_counts_none c.in_err-flush.ensures.stays_faultless in
    counts-then (counts-then cut append) (counts-as
    (edge-passed c.in_err-flush.field-0.0 c.from_residual-in_err-flush.result c.from_residual-in_err-flush.ensures.1) flush)

pub returns-clause-counts : goal.returns-clause-counts
returns-clause-counts g c =
    let cut = counts-of g.F.Shelf.faults g.F.Shelf.faultless c.args.shelf.now c.cut.new.self
    c.cut.ensures.failed c.cut.ensures.never_falls c.cut.ensures.faultless_serves c.cut.ensures.faultless_counts_none c.cut.ensures.stays_faultless in
    let append = counts-of g.F.Shelf.faults g.F.Shelf.faultless c.cut.new.self c.append.new.self
    c.append.ensures.failed c.append.ensures.never_falls c.append.ensures.faultless_serves c.append.ensures.faultless_counts_none c.append.ensures.stays_faultless in
    let flush = counts-of g.F.Shelf.faults g.F.Shelf.faultless c.append.new.self c.flush.new.shelf
    c.flush.ensures.failed c.flush.ensures.never_falls c.flush.ensures.faultless_serves c.flush.ensures.faultless_counts_none c.flush.ensures.stays_faultless in
    let last = counts-of g.F.Shelf.faults g.F.Shelf.faultless c.flush.new.shelf c.flush-2.new.self
    c.flush-2.ensures.failed c.flush-2.ensures.never_falls c.flush-2.ensures.faultless_serves c.flush-2.ensures.faultless_counts_none c.flush-2.ensures.stays_faultless in
    counts-then (counts-then (counts-then cut append) flush) last
