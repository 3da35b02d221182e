use Rattle.std.proofs.Common.{arith}
use Rattle.sd_base.proofs.Covering.{concat-chunks_of, chunk_sizes, min-le-chunk}
use Rattle.sd_base.proofs.laws.chunks_cover_the_input.Goals as goal

pub returns-clause-joined : goal.returns-clause-joined
returns-clause-joined c = λ params input valid. concat-chunks_of params input (omega (arith, valid.min)) valid.max.0

pub returns-clause-sizes : goal.returns-clause-sizes
returns-clause-sizes c = λ params input valid. chunk_sizes params input (omega (arith, valid.min)) valid.max.0

pub returns-clause-long_enough : goal.returns-clause-long_enough
returns-clause-long_enough c = λ params input valid. min-le-chunk params input (omega (arith, valid.min)) valid.max.0
