use Rattle.std.proofs.Common.{sym}
use Rattle.candidate_map.proofs.WordLemmas.{length_seen}
use Rattle.candidate_map.proofs.plain_map.PlainMap.bits.Goals as goal

pub returns : goal.returns
returns c = record {
  bits = sym (length_seen c.self.inside.words.items c.self.inside.bits c.args.self.now c.self.view_is);
}
