use Rattle.sd_base.proofs.Distinct.{distinct-append, distinct-different, is_among-distinct}
use Rattle.sd_base.proofs.state_laws.distinct_chunks_are_each_once.Goals as goal

pub returns-clause-those : goal.returns-clause-those
returns-clause-those c = is_among-distinct

pub returns-clause-different : goal.returns-clause-different
returns-clause-different c = distinct-different

pub returns-clause-in_order : goal.returns-clause-in_order
returns-clause-in_order c = distinct-append
