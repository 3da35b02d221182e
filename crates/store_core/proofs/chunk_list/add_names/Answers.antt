use Rattle.std.proofs.Common.{◌≡◌, ◌<◌, suc, length, ◌++◌, ◌∷◌, [], List, ℕ, take, ap, arith, subst, sym, ◌∙◌}
use Rattle.sd_base.specs.declared.record.NewChunk.{NewChunk}
use Rattle.store_core.specs.NameIndex.{Covers}
use Rattle.store_core.specs.StoreFields.{names_of}
use Rattle.store_core.proofs.NameIndexLemmas.{take-one_more}
use Rattle.store_core.proofs.chunk_list.add_names.Goals as goal

pub loop-number-preserved : goal.loop-number-preserved
loop-number-preserved c =
    let chunks = c.args.committed.now ++ c.args.offered.now in
    let index = c.loop-number.index in
    let below = c.loop-number-test.true in
    let count = c.in_ok-add.ensures.count in
    let number = c.loop-number.invariant.number in
    let lt : c.loop-number.number < length chunks = omega (arith, below, c.loop-number.invariant.count) in
    let next : suc c.loop-number.number ≡ c.add.new.self.chunks = omega (arith, count, number) in
    record {
      count = c.loop-number.invariant.count;
      number = omega (arith, count, number);
      covers = subst (λ (names : List (List ℕ)). Covers c.add.new.self names)
          (ap (λ (k : ℕ). take k (names_of chunks) ++ c.chunk_of-chunk.result.name ∷ []) number
          ∙ ap (λ (chunk : NewChunk). take c.loop-number.number (names_of chunks) ++ chunk.name ∷ []) c.chunk_of-chunk.ensures
          ∙ sym (take-one_more chunks c.loop-number.number _ lt)
          ∙ ap (λ (k : ℕ). take k (names_of chunks)) next)
          (c.in_ok-add.ensures.added (take index.chunks (names_of chunks)) c.loop-number.invariant.covers);
    }
