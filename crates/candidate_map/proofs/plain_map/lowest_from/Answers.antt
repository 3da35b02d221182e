use Rattle.std.proofs.Common.{arith}
use Rattle.candidate_map.proofs.WordLemmas.{none_from, lowest_from}
use Rattle.candidate_map.proofs.plain_map.lowest_from.Goals as goal

pub returns-then-rest-eq0-clause-none : goal.returns-then-rest-eq0-clause-none
returns-then-rest-eq0-clause-none c = none_from c.args.word c.args.from c.if-rest-eq0.true

pub returns-else-rest-eq0-clause-found : goal.returns-else-rest-eq0-clause-found
returns-else-rest-eq0-clause-found c = lowest_from c.args.word c.args.from (omega arith) (omega arith)
