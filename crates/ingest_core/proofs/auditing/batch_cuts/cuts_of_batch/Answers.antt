use Rattle.std.proofs.Common.{◌≡◌, ◌∙◌, ◌++◌, List, ap, sym, subst, drop, length, arith}
use Rattle.std.proofs.Math.Seq.{take-append_seam}
use Rattle.std.specs.Prelude.{take}
use Rattle.ingest_core.proofs.BatchCuts.{all-cuts}
use Rattle.ingest_core.specs.AuditCuts.{AreCutsOfAll}
use Rattle.ingest_core.specs.declared.auditing.chunk_cuts.ChunkCuts.{ChunkCuts}
use Rattle.sd_base.specs.Cutting.{chunks_between}
use Rattle.sd_base.specs.Params.{numbers_of}
use Rattle.ingest_core.proofs.auditing.batch_cuts.cuts_of_batch.Goals as goal

pub returns : goal.returns
returns g c =
    let text = c.args.text.now in
    let ends = c.args.ends.now in
    let params = numbers_of c.args.rules.now.params in
    let found = c.cut_each.new.cuts in
    let places = c.in_ok-cuts.cuts in
    let rest = drop (length found) places.items in
    let count : length found ≡ length ends =
    omega (arith, c.cut_each.ensures.len, c.as_mut_slice.ensures.len, c.in_ok-cuts.ensures.len) in
    let all : places.len ≡ length found = omega (arith, count, c.in_ok-cuts.ensures.len) in
    let front : found ≡ take places.len (found ++ rest) =
    sym (ap (λ n. take n (found ++ rest)) all ∙ take-append_seam found rest) in
    record {
      cuts = subst (λ (cuts : List ChunkCuts). AreCutsOfAll params (chunks_between text 0 ends) cuts) front
          (all-cuts params text ends found count c.cut_each.ensures.each);
    }
