use Rattle.std.proofs.Common.{◌^◌, ◌<◌, [], ◌∷◌, ◌++◌, drop, arith, sym, ap, ◌∙◌, subst}
use Rattle.sd_base.specs.Polynomial.{degree, fingerprint}
use Rattle.rabin_window.specs.Tables.{TablesView}
use Rattle.rabin_window.proofs.Roll.{kept_below, rolled}
use Rattle.rabin_window.proofs.tables.Tables.roll.Goals as goal

pub append-requires : goal.append-requires
append-requires c =
    let same = ap (λ (t : TablesView). t.polynomial) c.self.view_is in
    record {
      reduced = kept_below c.self.invariant c.self.inside.appender.valid c.args.value c.args.out c.from.result c.from.ensures (omega arith)
          (subst (λ q. c.args.value < 2 ^ degree q) (sym same) c.requires.reduced);
    }

pub returns-clause-rolled : goal.returns-clause-rolled
returns-clause-rolled c window size oldest value_is =
    let same = ap (λ (t : TablesView). t.polynomial) c.self.view_is in
    c.append.ensures.divided
    ∙ rolled c.self.invariant c.self.inside.appender.valid c.args.value c.args.out c.from.result c.from.ensures (omega arith)
    c.args.inn window size oldest (value_is ∙ ap (λ q. fingerprint q window) (sym same))
    ∙ ap (λ q. fingerprint q (drop 1 window ++ c.args.inn ∷ [])) same
