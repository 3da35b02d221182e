use Rattle.std.proofs.Common.{ℕ, ◌/◌, ◌%◌, ◌*◌, ◌^◌, subst, sym, ap, ◌∙◌, set, true, arith}
use Rattle.std.specs.Prelude.{bit_or}
use Rattle.std.proofs.lemmas.List.{get_or_read}
use Rattle.candidate_map.specs.Words.{positions_of, HoldsBits}
use Rattle.candidate_map.proofs.WordLemmas.{length_seen, word_within, HoldsBits-set_bit, positions_of-set_bit}
use Rattle.candidate_map.proofs.plain_map.PlainMap.set.Goals as goal

pub index_mut-requires : goal.index_mut-requires
index_mut-requires c =
    let map = c.self.inside in
    let len = length_seen map.words.items map.bits c.args.self.now c.self.view_is in
    let within = word_within map.words.items map.bits c.args.p c.self.invariant (omega arith) in
    omega (arith, map.words.ok.0)

pub invariant_of-self : goal.invariant_of-self
invariant_of-self c =
    let map = c.self.inside in
    let len = length_seen map.words.items map.bits c.args.self.now c.self.view_is in
    let within = word_within map.words.items map.bits c.args.p c.self.invariant (omega arith) in
    let read = get_or_read map.words.items (c.args.p / 64) c.index_mut.result.now within c.index_mut.ensures.value 0 in
    subst (λ w. HoldsBits (set map.words.items (c.args.p / 64) (bit_or w (1 * 2 ^ (c.args.p % 64) % 2 ^ 64))) map.bits) (sym read)
    (HoldsBits-set_bit map.words.items c.args.p map.bits (omega arith) c.self.invariant)

pub returns : goal.returns
returns c =
    let map = c.self.inside in
    let len = length_seen map.words.items map.bits c.args.self.now c.self.view_is in
    let within = word_within map.words.items map.bits c.args.p c.self.invariant (omega arith) in
    let read = get_or_read map.words.items (c.args.p / 64) c.index_mut.result.now within c.index_mut.ensures.value 0 in
    let written = λ (w : ℕ). set map.words.items (c.args.p / 64) (bit_or w (1 * 2 ^ (c.args.p % 64) % 2 ^ 64)) in
    record {
      added =
          ap (λ w. positions_of (written w) map.bits) read
          ∙ positions_of-set_bit map.words.items c.args.p map.bits (omega arith) c.self.invariant
          ∙ ap (λ s. set s c.args.p true) c.self.view_is;
    }
