use Rattle.std.proofs.Common.{◌≡◌, ◌+◌, ◌-◌, ◌<◌, arith, slice_index_or, slice_set, length, take, subst, sym, ◌∙◌}
use Rattle.std.proofs.lemmas.List.{get_or_default, length-set}
use Rattle.std.proofs.lemmas.List.Sums.{sum_by-set}
use Rattle.sd_base.specs.References.{occurrences}
use Rattle.ref_ledger.specs.Counts.{count_at}
use Rattle.ref_ledger.proofs.CountLemmas.{has_reference, is_counted, one_less}
use Rattle.ref_ledger.proofs.ledger.Ledger.drop_places.Goals as goal

pub index_mut-requires : goal.index_mut-requires
index_mut-requires c =
    let counts = c.loop-place.self-inside.counts.items in
    let i = c.loop-place.place-index in
    let within : i < length c.args.places.now = omega arith in
    let some = has_reference c.args.self.now counts c.args.places.now i within c.loop-place.invariant.counted c.requires.counted in
    let here = is_counted counts (slice_index_or c.args.places.now i 0) some in
    omega (arith, here)

pub overflow_sub-index_mut : goal.overflow_sub-index_mut
overflow_sub-index_mut c =
    let counts = c.loop-place.self-inside.counts.items in
    let i = c.loop-place.place-index in
    let place = slice_index_or c.args.places.now i 0 in
    let within : i < length c.args.places.now = omega arith in
    let some = has_reference c.args.self.now counts c.args.places.now i within c.loop-place.invariant.counted c.requires.counted in
    let here = is_counted counts place some in
    omega (arith, some, c.index_mut.ensures.value, get_or_default counts place c.index_mut.result.now 0 here)

pub loop-place-preserved : goal.loop-place-preserved
loop-place-preserved c =
    let counts = c.loop-place.self-inside.counts.items in
    let i = c.loop-place.place-index in
    let place = slice_index_or c.args.places.now i 0 in
    let within : i < length c.args.places.now = omega arith in
    let some = has_reference c.args.self.now counts c.args.places.now i within c.loop-place.invariant.counted c.requires.counted in
    let here : place < length counts = is_counted counts place some in
    let value : c.index_mut.result.now ≡ count_at counts place =
    c.index_mut.ensures.value ∙ get_or_default counts place c.index_mut.result.now 0 here in
    record {
      chunks = length-set counts place (c.index_mut.result.now - 1) ∙ c.loop-place.invariant.chunks;
      counted = λ k.
          let step = subst (λ n. count_at (slice_set counts place (n - 1)) k + occurrences k (take (i + 1) c.args.places.now)
          ≡ count_at counts k + occurrences k (take i c.args.places.now))
          (sym value) (one_less counts c.args.places.now k i within here some) in
          step ∙ c.loop-place.invariant.counted k;
      total =
          let step = sum_by-set (λ x. x) counts place (c.index_mut.result.now - 1) 0 here in
          omega (arith, step, value, some, c.loop-place.invariant.total);
    }
