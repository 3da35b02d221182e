use Rattle.std.proofs.Common.{arith}
use Rattle.candidate_map.proofs.SetLemmas.{Has_within}
use Rattle.candidate_map.proofs.WordLemmas.{length_seen}
use Rattle.candidate_map.proofs.plain_map.PlainMap.next_from.Goals as goal

pub returns-clause-none : goal.returns-clause-none
returns-clause-none c =
    let len = length_seen c.self.inside.words.items c.self.inside.bits c.args.self.now c.self.view_is in (
      λ none q low member. c.next_within.ensures.none.0 none q low (omega (arith, len, Has_within c.args.self.now q member)) member,
      λ none. c.next_within.ensures.none.1 (λ q low high. none q low),
    )
