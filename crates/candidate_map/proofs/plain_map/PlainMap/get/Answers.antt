use Rattle.std.proofs.Common.{◌/◌, arith}
use Rattle.std.proofs.lemmas.List.{get_or_read}
use Rattle.candidate_map.proofs.WordLemmas.{length_seen, word_within, bit_read}
use Rattle.candidate_map.proofs.plain_map.PlainMap.get.Goals as goal

pub index-requires : goal.index-requires
index-requires c =
    let map = c.self.inside in
    let len = length_seen map.words.items map.bits c.args.self.now c.self.view_is in
    let within = word_within map.words.items map.bits c.args.p c.self.invariant (omega arith) in
    omega (arith, map.words.ok.0)

pub returns : goal.returns
returns c =
    let map = c.self.inside in
    let len = length_seen map.words.items map.bits c.args.self.now c.self.view_is in
    let within = word_within map.words.items map.bits c.args.p c.self.invariant (omega arith) in
    record {
      member =
          bit_read map.words.items map.bits c.args.p c.index.result.now c.args.self.now c.self.invariant
          c.self.view_is (get_or_read map.words.items (c.args.p / 64) c.index.result.now within c.index.ensures 0);
    }
