use Rattle.std.proofs.Common.{◌≡◌, ◌∙◌, ℕ, List, take, ap, subst, ◌++◌}
use Rattle.std.specs.Prelude.{IfSome, Option}
use Rattle.edge_traits.specs.Entries.{bytes_of_file}
use Rattle.edge_traits.specs.MemShelf.{files_of_shelf}
use Rattle.edge_traits.proofs.ShelfCalls.{counted, either, of_none, some_map, unworked, worked, worked_failing, worked_whole}
use Rattle.edge_traits.proofs.mem_shelf.MemShelfShelf.append.Goals as goal

pub returns : goal.returns
returns c =
    let call = c.count_result.ensures in
    let work = c.append-done.ensures in
    let done = c.append-done.result in
    let result = c.count_result.result in
    let kept = c.kept-kept.result in
    let had = files_of_shelf c.args.self.now c.args.file in
    let now = bytes_of_file c.append-done.new.entries.items c.args.file in
    record {
      appended = worked_whole done result kept call.out_of_memory call.planned
          (λ did none. did ∙ ap (λ (l : List ℕ). had ++ l) (of_none kept none c.kept_piece-piece.ensures.whole)) work.bytes;
      kept = λ is. subst (λ (o : Option ℕ). IfSome o (λ k. now ≡ had ++ take k c.args.bytes.now)) c.kept-kept.ensures.kept
          (some_map kept (λ k front. worked_failing done result call.out_of_memory is work.bytes ∙ ap (λ (l : List ℕ). had ++ l) front)
          c.kept_piece-piece.ensures.front);
      loose = λ not. worked done result call.out_of_memory not work.loose;
      other_files = λ f other. either done (λ changed. changed.bytes f other) (λ same. same.bytes f) work.others work.refused;
      other_loose = λ f other. either done (λ changed. changed.loose f other) (λ same. same.loose f) work.others work.refused;
      out_of_memory = λ is.
          let same = unworked done result kept call.failed call.ok is work.refused in record { files = same.bytes; loose = same.loose };
      counted = counted result kept c.args.self.now _ c.kept-kept.ensures.kept c.kept-kept.ensures.past call.fails call.planned
          call.faults call.calls call.failing call.stays_past;
    }
