use Rattle.std.proofs.Common.{◌<◌, ◌*◌, ◌+◌, length, subst, arith}
use Rattle.std.proofs.lemmas.List.{get_or_read}
use Rattle.candidate_map.specs.Positions.{Has, IsFirstFrom}
use Rattle.candidate_map.specs.Words.{IsLowestFrom}
use Rattle.candidate_map.proofs.WordLemmas.{none_left, first_here}
use Rattle.candidate_map.proofs.plain_map.PlainMap.next_in_words.Goals as goal

-- the position that the walk has met is the first
found : (c : goal.In-Some) → IsFirstFrom c.args.self.now c.args.p (c.loop-index.index * 64 + c.in-Some.bit)
found c =
    let map = c.self.inside in
    let index = c.loop-index.index in
    let within : index < length map.words.items = omega (arith, map.words.ok.0) in
    let read = get_or_read map.words.items index c.index.result.now within c.index.ensures 0 in
    let lowest = subst (λ w. IsLowestFrom w c.loop-index.from c.in-Some.bit) read c.in-Some.ensures.found in
    subst (λ seen. IsFirstFrom seen c.args.p (index * 64 + c.in-Some.bit)) c.self.view_is
    (first_here map.words.items c.args.p index c.loop-index.from c.loop-index.invariant.before map.bits c.in-Some.bit
    c.self.invariant c.loop-index.invariant.reached lowest)

pub overflow_cast-result : goal.overflow_cast-result
overflow_cast-result c = omega (arith, c.self.invariant.no_more, c.self.invariant.in_range, c.self.inside.words.ok.0)

pub overflow_mul-result : goal.overflow_mul-result
overflow_mul-result c = omega (arith, c.self.invariant.no_more, c.self.invariant.in_range, c.self.inside.words.ok.0)

pub overflow_add-result : goal.overflow_add-result
overflow_add-result c = omega (arith, c.self.invariant.no_more, c.self.invariant.in_range, c.self.inside.words.ok.0, c.in-Some.ensures.found.in_word)

pub returns-in-Some-clause-first : goal.returns-in-Some-clause-first
returns-in-Some-clause-first c = found c

pub returns-clause-none : goal.returns-clause-none
returns-clause-none c =
    let map = c.self.inside in λ q low high. subst (λ seen. ¬ Has seen q) c.self.view_is
    (none_left map.words.items c.args.p c.loop-index.index c.loop-index.from c.loop-index.invariant.before map.bits c.args.words c.self.invariant (omega (arith, map.words.ok.0)) q low high)
