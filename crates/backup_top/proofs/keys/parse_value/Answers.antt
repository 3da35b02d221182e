use Rattle.std.proofs.Common.{◌≡◌, ◌∙◌, Err, ap, sym, true, arith}
use Rattle.sd_base.specs.Keys.{is_spelled}
use Rattle.backup_top.specs.Keys.{key_spec_of}
use Rattle.backup_top.proofs.KeysNumbers.{is_read, number_outside}
use Rattle.backup_top.proofs.keys.parse_value.Goals as goal

pub returns-in_default-clause-value : goal.returns-in_default-clause-value
returns-in_default-clause-value c =
    let key = key_spec_of c.args.key.now in
    let text = c.args.text.now in
    let parses = rw (c.base.ensures.value, c.in_default.is) at c.from_str_radix.ensures.value in
    let spelled : is_spelled key text ≡ true =
    ap (is_spelled key) (sym c.as_bytes.ensures.value) ∙ sym c.is_spelled.ensures
    ∙ c.if-not-is_spelled.false in
    let large = is_read key text (Err c.in_default.field-0) (omega arith) spelled parses in
    sym (number_outside key text (λ least greatest. large (omega arith)))
