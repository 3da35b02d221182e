-- The digits of a name are ASCII.
use Rattle.std.proofs.Common.{List, ℕ, ◌<◌, lit<}
use Rattle.std.proofs.lemmas.List.Elements.{All-from_recursion}
use Rattle.std.proofs.lemmas.Str.{IsUtf8-from_ascii}
use Rattle.std.proofs.lemmas.Str.Ascii.{IsAscii-from_all}
use Rattle.std.specs.Prelude.{IsUtf8}
use Rattle.std.specs.Str.{IsAscii}
use Rattle.hex.specs.Hex.{encode_lower, lower_digits}
use Rattle.hex.proofs.HexLemmas.{IsAscii-encode_with}

digits_are_ascii : IsAscii lower_digits
digits_are_ascii = IsAscii-from_all lower_digits (All-from_recursion (λ b. b < 128) lower_digits (
  lit< tt,
  (
    lit< tt,
    (
      lit< tt,
      (
        lit< tt,
        (
          lit< tt,
          (
            lit< tt,
            (
              lit< tt,
              (
                lit< tt,
                (
                  lit< tt,
                  (
                    lit< tt,
                    (
                      lit< tt,
                      (
                        lit< tt,
                        (lit< tt, (lit< tt, (lit< tt, (lit< tt, tt)))),
                      ),
                    ),
                  ),
                ),
              ),
            ),
          ),
        ),
      ),
    ),
  ),
))

pub digits_are_utf8 : (name : List ℕ) → IsUtf8 (encode_lower name)
digits_are_utf8 name = IsUtf8-from_ascii (encode_lower name) (IsAscii-encode_with lower_digits name digits_are_ascii)
