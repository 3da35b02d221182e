use Rattle.std.proofs.Common.{◌≡◌, ◌∙◌, ℕ, List, take, ap, subst}
use Rattle.std.specs.Prelude.{IfSome, Option, if◌then◌else◌, ◌==◌}
use Rattle.edge_traits.specs.Entries.{bytes_of_file}
use Rattle.edge_traits.specs.MemShelf.{files_of_shelf}
use Rattle.edge_traits.proofs.ShelfCalls.{counted, either, of_none, some_map, unworked, worked, worked_failing, worked_whole}
use Rattle.edge_traits.proofs.mem_shelf.MemShelfShelf.cut.Goals as goal

pub returns : goal.returns
returns c =
    let call = c.count_result.ensures in
    let work = c.cut-done.ensures in
    let done = c.cut-done.result in
    let result = c.count_result.result in
    let kept = c.kept-kept.result in
    let had = files_of_shelf c.args.self.now c.args.file in
    let same : c.bytes_of.result.now ≡ had =
    c.bytes_of.ensures ∙ ap (λ entries. bytes_of_file entries c.args.file) c.deref.ensures.value in
    let now = bytes_of_file c.cut-done.new.entries.items c.args.file in
    record {
      cut = worked_whole done result kept call.out_of_memory call.planned
          (λ did none. did ∙ ap (λ n. take n had) (of_none kept none c.kept_size-size.ensures.whole)) work.bytes;
      kept = λ is. subst (λ (o : Option ℕ). IfSome o (λ k. now ≡ (if k == 0 then had else take c.args.length had))) c.kept-kept.ensures.kept
          (some_map kept (λ k front. worked_failing done result call.out_of_memory is work.bytes
          ∙ subst (λ (l : List ℕ). take c.kept_size-size.result l ≡ (if k == 0 then l else take c.args.length l)) same front)
          c.kept_size-size.ensures.front);
      loose = λ not. worked done result call.out_of_memory not work.loose;
      other_files = λ f other. either done (λ changed. changed.bytes f other) (λ same. same.bytes f) work.others work.refused;
      other_loose = λ f other. either done (λ changed. changed.loose f other) (λ same. same.loose f) work.others work.refused;
      out_of_memory = λ is.
          let same = unworked done result kept call.failed call.ok is work.refused in record { files = same.bytes; loose = same.loose };
      needs_no_memory = λ some is. some (unworked done result kept call.failed call.ok is work.needs_no_memory);
      counted = counted result kept c.args.self.now _ c.kept-kept.ensures.kept c.kept-kept.ensures.past call.fails call.planned
          call.faults call.calls call.failing call.stays_past;
    }
