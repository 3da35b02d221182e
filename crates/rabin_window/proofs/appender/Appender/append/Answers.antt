use Rattle.std.proofs.Common.{◌^◌, ◌<◌, arith, sym, subst}
use Rattle.sd_base.specs.Polynomial.{degree}
use Rattle.rabin_window.proofs.Roll.{high_below, append_byte_below, appended_by_table}
use Rattle.rabin_window.proofs.appender.Appender.append.Goals as goal

pub bounds-self-high : goal.bounds-self-high
bounds-self-high c = high_below c.args.self.now.tabled c.args.self.now.valid c.args.remainder c.requires.reduced

pub offset_bounds-self-high : goal.offset_bounds-self-high
offset_bounds-self-high c = omega (arith, high_below c.args.self.now.tabled c.args.self.now.valid c.args.remainder c.requires.reduced)

pub returns-clause-divided : goal.returns-clause-divided
returns-clause-divided c =
    appended_by_table c.args.self.now.tabled c.args.self.now.valid c.args.remainder c.args.byte c.from.result c.requires.reduced c.from.ensures (omega arith)

pub returns-clause-reduced : goal.returns-clause-reduced
returns-clause-reduced c =
    let p = c.args.self.now.polynomial in
    let valid = c.args.self.now.valid in
    subst (λ r. r < 2 ^ degree p) (sym (returns-clause-divided c)) (append_byte_below p c.args.remainder c.args.byte (omega arith) valid.1 c.requires.reduced)
