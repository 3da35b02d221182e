use Rattle.std.proofs.Common.{arith}
use Rattle.rabin_window.proofs.Degree.{longer_below, taken_below}
use Rattle.rabin_window.proofs.divisor.Divisor.append_bit.Goals as goal

pub returns-then-longer-self-eq1-clause-reduced : goal.returns-then-longer-self-eq1-clause-reduced
returns-then-longer-self-eq1-clause-reduced c =
    let divisor = c.args.self in
    taken_below divisor.polynomial _ divisor.highest (omega arith) (omega arith) divisor.degree_is
    (longer_below _ _ _ c.requires.reduced c.requires.one_bit) c.if-longer-self-eq1.true
