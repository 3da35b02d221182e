-- The keys of a command in the program, and what they are in the definitions.
use Rattle.std.specs.Prelude.{ℕ}
use Rattle.sd_base.specs.Keys.{Key}
use Rattle.backup_top.specs.declared.keys.Key.{Key as ProgramKey}
use Rattle.backup_top.specs.declared.keys.Spelling.{Spelling}
use Rattle.backup_top.specs.declared.keys.Spelling.TheVariants.{Decimal, Hexadecimal}

-- the base of a spelling
abbrev pub base_of : Spelling → ℕ
base_of Decimal = 10
base_of Hexadecimal = 16

-- the most digits of a spelling: enough for each number below 2^64
abbrev pub most_digits_of : Spelling → ℕ
most_digits_of Decimal = 20
most_digits_of Hexadecimal = 16

-- a key of the program, as the definitions have it
abbrev pub key_spec_of : ProgramKey → Key
key_spec_of key = record {
  name = key.name.now;
  base = base_of key.spelling;
  most_digits = most_digits_of key.spelling;
  least = key.least;
  greatest = key.greatest;
}
