use Rattle.std.proofs.Common.{◌≡◌, ◌∙◌, ap, sym, length, arith}
use Rattle.std.proofs.lemmas.Bool.{eqb-false}
use Rattle.backup_top.specs.Keys.{base_of, key_spec_of}
use Rattle.backup_top.proofs.KeysNumbers.{decimal_rest, other_rest, digits_at}
use Rattle.backup_top.proofs.keys.is_spelled.Goals as goal

pub returns-else-text-eq1 : goal.returns-else-text-eq1
returns-else-text-eq1 c =
    sym (decimal_rest (key_spec_of c.args.key.now) c.args.text.now (ap base_of c.in-Decimal.is)
    (omega (arith, eqb-false (length c.args.text.now) 0 (sym c.is_empty.ensures ∙ c.if-is_empty.false)))
    (omega arith)
    (digits_at c.args.text.now c.base.ensures.value (sym c.are_digits.ensures ∙ c.if-not-are_digits.false))
    c.if-text-eq1.false)

pub returns-in-Hexadecimal : goal.returns-in-Hexadecimal
returns-in-Hexadecimal c =
    let sixteen : (key_spec_of c.args.key.now).base ≡ 16 = ap base_of c.in-Hexadecimal.is in
    sym (other_rest (key_spec_of c.args.key.now) c.args.text.now (omega arith)
    (omega (arith, eqb-false (length c.args.text.now) 0 (sym c.is_empty.ensures ∙ c.if-is_empty.false)))
    (omega arith)
    (digits_at c.args.text.now c.base.ensures.value (sym c.are_digits.ensures ∙ c.if-not-are_digits.false)))
