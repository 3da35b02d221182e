use Rattle.sd_base.proofs.Cuttings.{cutting_is_by_rule, first_to_differ}
use Rattle.sd_base.proofs.cutting_laws.cuttings_are_by_chunks.Goals as goal

pub returns-clause-whole : goal.returns-clause-whole
returns-clause-whole c = λ params chunks valid. cutting_is_by_rule params valid.min valid.max.0 chunks

pub returns-clause-first : goal.returns-clause-first
returns-clause-first c = λ params chunks i valid filled. first_to_differ params valid.min valid.max.0 chunks filled i
