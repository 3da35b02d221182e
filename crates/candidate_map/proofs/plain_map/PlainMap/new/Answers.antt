use Rattle.std.proofs.Common.{ap, ◌∙◌, rules}
use Rattle.candidate_map.specs.Words.{positions_of}
use Rattle.candidate_map.proofs.WordLemmas.{positions_of-replicate}
use Rattle.candidate_map.proofs.plain_map.PlainMap.new.Goals as goal

pub returns : goal.returns
returns c =
    record {
      empty =
          ap (λ words. positions_of words c.args.bits) (c.in_ok-words.ensures.items_if_clones_equal (λ y same. search rules))
          ∙ positions_of-replicate c.div_ceil.result c.args.bits;
    }
