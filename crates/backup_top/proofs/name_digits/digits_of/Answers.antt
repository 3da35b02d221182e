use Rattle.std.proofs.Common.{◌≡◌, IsUtf8, rules, subst, sym}
use Rattle.hex.specs.Hex.{encode_lower}
use Rattle.backup_top.proofs.AsciiDigits.{digits_are_utf8}
use Rattle.backup_top.proofs.name_digits.digits_of.Goals as goal

pub returns-clause-text : goal.returns-clause-text
returns-clause-text c =
    let digits : c.encode_to_slice.new.output ≡ encode_lower c.args.name.now = search rules in
    subst IsUtf8 (sym digits) (digits_are_utf8 c.args.name.now)
