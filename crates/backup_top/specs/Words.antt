-- The words of the command line in the program.
use Rattle.std.specs.Prelude.{ℕ, List, map, String, string_bytes, if◌then◌else◌, unwrap_or, Result, Ok, Err}
use Rattle.std.specs.declared.alloc.Global.{Global}
use Rattle.sd_base.specs.Keys.{Key, number_of, sets_key, value_of}
use Rattle.sd_base.specs.Words.{how_of, ingest_keys, params_keys, params_of, plan_keys, polynomial_key, bits_key, target_key, min_key, max_key, segment_key, shards_key, workers_key}
use Rattle.sd_base.specs.declared.how.How.{How}
use Rattle.sd_base.specs.declared.raw_params.RawParams.{RawParams}
use Rattle.sd_base.specs.declared.words.BadWords.{BadWords}
use Rattle.sd_base.specs.declared.words.Command.{Command}
use Rattle.backup_top.specs.declared.settings.KeySet.{KeySet}
use Rattle.backup_top.specs.declared.settings.KeySet.TheVariants.{Plan, Init, Ingest}
use Rattle.backup_top.specs.declared.settings.Setting.{Setting}
use Rattle.backup_top.specs.declared.settings.Setting.TheVariants.{Polynomial, Bits, Target, Min, Max, Workers, Segment, Shards}
use Rattle.backup_top.specs.declared.settings.Settings.{Settings}

-- the bytes of each word
abbrev pub texts_of : List (String Global) → List (List ℕ)
texts_of words = map string_bytes words

-- the command of a value that was read, unless a word is bad
abbrev pub command_with : {A : Type 0} → (A → Command) → Result A BadWords → Result Command BadWords
command_with command (Ok value) = Ok (command value)
command_with command (Err bad) = Err bad

-- the parameters of cutting that words set, and how a command is carried out by them
abbrev pub settings_of : List (List ℕ) → Settings
settings_of words = record { raw = params_of words; how = how_of words }

-- the value of a key after a word, from its value before
abbrev pub value_after : List ℕ → Key → ℕ → ℕ
value_after word key was =
    if sets_key key.name word then unwrap_or (number_of key (value_of word)) was else was

-- the parameters after a word, from those before
abbrev pub params_after : List ℕ → RawParams → RawParams
params_after word was = record {
  polynomial = value_after word polynomial_key was.polynomial;
  bits = value_after word bits_key was.bits;
  target = value_after word target_key was.target;
  min = value_after word min_key was.min;
  max = value_after word max_key was.max;
}

-- how a command is carried out after a word, from how it was before
abbrev pub how_after : List ℕ → How → How
how_after word was = record was {
  workers = value_after word workers_key was.workers;
  segment = value_after word segment_key was.segment;
  shards = value_after word shards_key was.shards;
}

-- what words set after a word, from what they set before
abbrev pub settings_after : List ℕ → Settings → Settings
settings_after word was = record { raw = params_after word was.raw; how = how_after word was.how }

-- the keys of a command
abbrev pub keys_of : KeySet → List Key
keys_of Plan = plan_keys
keys_of Init = params_keys
keys_of Ingest = ingest_keys

-- the key of a setting
abbrev pub key_of : Setting → Key
key_of Polynomial = polynomial_key
key_of Bits = bits_key
key_of Target = target_key
key_of Min = min_key
key_of Max = max_key
key_of Workers = workers_key
key_of Segment = segment_key
key_of Shards = shards_key

-- what words set, with another value of one setting
abbrev pub with_value : Setting → ℕ → Settings → Settings
with_value Polynomial value was = record was { raw = record was.raw { polynomial = value } }
with_value Bits value was = record was { raw = record was.raw { bits = value } }
with_value Target value was = record was { raw = record was.raw { target = value } }
with_value Min value was = record was { raw = record was.raw { min = value } }
with_value Max value was = record was { raw = record was.raw { max = value } }
with_value Workers value was = record was { how = record was.how { workers = value } }
with_value Segment value was = record was { how = record was.how { segment = value } }
with_value Shards value was = record was { how = record was.how { shards = value } }
