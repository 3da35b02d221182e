use Rattle.std.proofs.Common.{◌<◌, ◌||◌, length, set, sym, ap, ◌∙◌, subst, arith}
use Rattle.std.specs.Prelude.{bit_or}
use Rattle.std.proofs.lemmas.List.{get_or_read}
use Rattle.candidate_map.specs.Positions.{has}
use Rattle.candidate_map.specs.Words.{positions_of, is_in_word, HoldsBits}
use Rattle.candidate_map.proofs.WordLemmas.{length_seen, length-positions_of}
use Rattle.candidate_map.proofs.OrLemmas.{HoldsBits-or_at, has-or_at}
use Rattle.candidate_map.proofs.plain_map.PlainMap.or_word.Goals as goal

pub index_mut-requires : goal.index_mut-requires
index_mut-requires c =
    let map = c.self.inside in
    let len = length_seen map.words.items map.bits c.args.self.now c.self.view_is in
    omega (arith, c.requires.word_inside, c.self.invariant.enough, map.words.ok.0)

pub invariant_of-self : goal.invariant_of-self
invariant_of-self c =
    let map = c.self.inside in
    let word = c.args.word in
    let len = length_seen map.words.items map.bits c.args.self.now c.self.view_is in
    let within : word < length map.words.items = omega (arith, c.requires.word_inside, c.self.invariant.enough) in
    let read = get_or_read map.words.items word c.index_mut.result.now within c.index_mut.ensures.value 0 in
    subst (λ w. HoldsBits (set map.words.items word (bit_or w c.args.mask)) map.bits) (sym read)
    (HoldsBits-or_at map.words.items word c.args.mask within map.bits c.self.invariant (λ b set. omega (arith, c.requires.bits_inside b set)))

pub returns-clause-bits : goal.returns-clause-bits
returns-clause-bits c =
    let map = c.self.inside in
    length-positions_of (set map.words.items c.args.word (bit_or c.index_mut.result.now c.args.mask)) map.bits
    ∙ sym (length_seen map.words.items map.bits c.args.self.now c.self.view_is)

pub returns-clause-added : goal.returns-clause-added
returns-clause-added c p =
    let map = c.self.inside in
    let word = c.args.word in
    let len = length_seen map.words.items map.bits c.args.self.now c.self.view_is in
    let within : word < length map.words.items = omega (arith, c.requires.word_inside, c.self.invariant.enough) in
    let read = get_or_read map.words.items word c.index_mut.result.now within c.index_mut.ensures.value 0 in
    ap (λ w. has (positions_of (set map.words.items word (bit_or w c.args.mask)) map.bits) p) read
    ∙ has-or_at map.words.items word c.args.mask within map.bits c.self.invariant (λ b set. omega (arith, c.requires.bits_inside b set)) p
    ∙ ap (λ s. has s p || is_in_word word c.args.mask p) c.self.view_is
