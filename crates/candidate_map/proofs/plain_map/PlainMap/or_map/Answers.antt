use Rattle.std.proofs.Common.{◌<◌, ◌||◌, length, sym, ap, ◌∙◌, arith}
use Rattle.std.specs.Int.{bit_at}
use Rattle.std.proofs.lemmas.List.{get_or_read}
use Rattle.candidate_map.specs.Positions.{has}
use Rattle.candidate_map.specs.Words.{is_in_word}
use Rattle.candidate_map.proofs.WordLemmas.{length_seen}
use Rattle.candidate_map.proofs.OrLemmas.{bit_below, bit_inside, has_before, has_before-more, has_before-zero, has_before-all, or_assoc}
use Rattle.candidate_map.proofs.plain_map.PlainMap.or_map.Goals as goal
use Rattle.candidate_map.proofs.plain_map.PlainMap.or_map.Goals.{then-mask-ne0, else-mask-ne0}

pub or_word-requires-clause-word_inside : goal.or_word-requires-clause-word_inside
or_word-requires-clause-word_inside c =
    let other = c.other.inside in
    let len = length_seen other.words.items other.bits c.args.other.now c.other.view_is in
    omega (arith, c.other.invariant.no_more, c.requires.same_bits, c.loop-index.invariant.bits)

pub or_word-requires-clause-bits_inside : goal.or_word-requires-clause-bits_inside
or_word-requires-clause-bits_inside c b set =
    let other = c.other.inside in
    let index = c.loop-index.index in
    let len = length_seen other.words.items other.bits c.args.other.now c.other.view_is in
    let within : index < length other.words.items = omega (arith, other.words.ok.0) in
    let read = get_or_read other.words.items index c.index-mask.result.now within c.index-mask.ensures 0 in
    let small = bit_below c.index-mask.result.now b c.type_inv.mask.fits set in
    let inside = bit_inside other.words.items other.bits index b c.other.invariant (ap (λ w. bit_at w b) (sym read) ∙ set) small in
    omega (arith, inside, c.requires.same_bits, c.loop-index.invariant.bits)

pub loop-index-preserved : goal.loop-index-preserved
loop-index-preserved c =
    let other = c.other.inside in
    let positions = c.args.other.now in
    let index = c.loop-index.index in
    let within : index < length other.words.items = omega (arith, other.words.ok.0) in
    let read = get_or_read other.words.items index c.index-mask.result.now within c.index-mask.ensures 0 in
    elim c.if-mask-ne0.branch [
      | then-mask-ne0 w ↦ record {
        bits = ap length w.self-is ∙ w.or_word.ensures.bits ∙ c.loop-index.invariant.bits;
        added = λ p.
            ap (λ s. has s p) w.self-is ∙ w.or_word.ensures.added p
            ∙ ap (λ b. b || is_in_word index c.index-mask.result.now p) (c.loop-index.invariant.added p)
            ∙ or_assoc (has c.args.self.now p) (has_before positions index p) (is_in_word index c.index-mask.result.now p)
            ∙ ap (λ m. has c.args.self.now p || (has_before positions index p || is_in_word index m p)) read
            ∙ ap (λ b. has c.args.self.now p || b) (sym (has_before-more other.words.items other.bits c.other.invariant positions c.other.view_is index p));
      }
      | else-mask-ne0 w ↦ record {
        bits = ap length w.self-is ∙ c.loop-index.invariant.bits;
        added = λ p.
            ap (λ s. has s p) w.self-is ∙ c.loop-index.invariant.added p
            ∙ ap (λ b. has c.args.self.now p || b)
            (sym (has_before-zero other.words.items other.bits c.other.invariant positions c.other.view_is index p (sym read ∙ w.if-mask-ne0.false)));
      }
    ]

pub returns-clause-added : goal.returns-clause-added
returns-clause-added c p =
    let other = c.other.inside in
    c.loop-index.invariant.added p
    ∙ ap (λ b. has c.args.self.now p || b)
    (has_before-all other.words.items other.bits c.other.invariant c.args.other.now c.other.view_is c.loop-index.index p
    (omega (arith, other.words.ok.0, c.loop-index-test.false)))
