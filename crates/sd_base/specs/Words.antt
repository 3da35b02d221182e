-- The words of the command line, as lists of bytes, and the command that they name.
use Rattle.std.specs.Prelude.{ℕ, ◌-◌, ◌^◌, List, [], ◌∷◌, ◌++◌, codes, Option, Some, None, is_some, Result, Ok, Err, if◌then◌else◌}
use Rattle.std.specs.Str.{bytes_eq}
use Rattle.sd_base.specs.Keys.{Key, decimal_key, first_bad_word, number_of, value_or_default}
use Rattle.sd_base.specs.Names.{bad_name}
use Rattle.sd_base.specs.declared.how.How.{How}
use Rattle.sd_base.specs.declared.limits.TheConstants.{MAX_BLOCKS, MAX_SEGMENT, MAX_SHARDS, MAX_WORKERS}
use Rattle.sd_base.specs.declared.raw_params.RawParams.{RawParams}
use Rattle.sd_base.specs.declared.words.BadKind.{BadKind}
use Rattle.sd_base.specs.declared.words.BadKind.TheVariants.{Missing, Command as NoCommand, Name as NoName, Number as NoNumber}
use Rattle.sd_base.specs.declared.words.BadWords.{BadWords}
use Rattle.sd_base.specs.declared.words.Quiet.TheVariants.{Plan, Init, List as ListSessions, Restore, Drop, Refs, Audit}
use Rattle.sd_base.specs.declared.words.Command.{Command}
use Rattle.sd_base.specs.declared.words.Command.TheVariants.{Quiet, Ingest, Bulk}

-- The parameters of cutting if none are given. The number of bits, the minimum and the maximum are
-- those of LBFS (SOSP 2001, section 3.1); the polynomial and the target are this project's own.
abbrev pub default_params : RawParams
default_params = record { polynomial = 0x3DA3358B4DC173; bits = 13; target = 120; min = 2048; max = 65536 }

-- the number of workers, the bytes of a segment and the number of shards if none are given
abbrev pub default_workers : ℕ
default_workers = 4

abbrev pub default_segment : ℕ
default_segment = 65536

abbrev pub default_shards : ℕ
default_shards = 16

-- How `ingest` and `bulk` are carried out if no key is given. No word sets the bytes of a batch.
abbrev pub default_how : How
default_how = record { workers = default_workers; segment = default_segment; batch = 1048576; shards = default_shards }

-- `plan` if no key is given
abbrev pub default_plan : Command
default_plan = Quiet (Plan default_params default_workers default_segment)

-- the keys that set parameters. The polynomial is given in hexadecimal digits of either case.
abbrev pub polynomial_key : Key
polynomial_key = record { name = codes "polynomial"; base = 16; most_digits = 16; least = 0; greatest = 2 ^ 64 - 1 }

abbrev pub bits_key : Key
bits_key = decimal_key (codes "bits") 0 (2 ^ 32 - 1)

abbrev pub target_key : Key
target_key = decimal_key (codes "target") 0 (2 ^ 32 - 1)

abbrev pub min_key : Key
min_key = decimal_key (codes "min") 0 (2 ^ 32 - 1)

abbrev pub max_key : Key
max_key = decimal_key (codes "max") 0 (2 ^ 32 - 1)

abbrev pub params_keys : List Key
params_keys = polynomial_key ∷ bits_key ∷ target_key ∷ min_key ∷ max_key ∷ []

-- the keys that set how a command is carried out
abbrev pub workers_key : Key
workers_key = decimal_key (codes "workers") 1 MAX_WORKERS

abbrev pub segment_key : Key
segment_key = decimal_key (codes "segment") 1 MAX_SEGMENT

abbrev pub shards_key : Key
shards_key = decimal_key (codes "shards") 1 MAX_SHARDS

-- the keys of `plan`
abbrev pub plan_keys : List Key
plan_keys = params_keys ++ (workers_key ∷ segment_key ∷ [])

-- the keys of `ingest` and `bulk`
abbrev pub ingest_keys : List Key
ingest_keys = workers_key ∷ segment_key ∷ shards_key ∷ []

-- the parameters that words set
abbrev pub params_of : List (List ℕ) → RawParams
params_of words = record {
  polynomial = value_or_default words polynomial_key default_params.polynomial;
  bits = value_or_default words bits_key default_params.bits;
  target = value_or_default words target_key default_params.target;
  min = value_or_default words min_key default_params.min;
  max = value_or_default words max_key default_params.max;
}

-- how a command is carried out by the numbers that words set
abbrev pub how_of : List (List ℕ) → How
how_of words = record default_how {
  workers = value_or_default words workers_key default_workers;
  segment = value_or_default words segment_key default_segment;
  shards = value_or_default words shards_key default_shards;
}

-- the refusal of the word at a place
abbrev pub bad_word : BadKind → ℕ → Result Command BadWords
bad_word kind place = Err (record { kind = kind; place = place })

-- a command, unless one of its words is bad
abbrev pub unless_bad : Option BadWords → Command → Result Command BadWords
unless_bad None command = Ok command
unless_bad (Some bad) command = Err bad

-- the words after `plan`
abbrev pub plan_of : List (List ℕ) → Result Command BadWords
plan_of words = unless_bad (first_bad_word plan_keys [] 1 words)
    (Quiet (Plan (params_of words) (how_of words).workers (how_of words).segment))

-- the words after `init`
abbrev pub init_of : List (List ℕ) → Result Command BadWords
init_of words = unless_bad (first_bad_word params_keys [] 1 words) (Quiet (Init (params_of words)))

-- the words after a command that takes the name of a session: the name, and then words that set
-- keys. The command is that of the name and of these words.
abbrev pub session_command_of : List Key → (List ℕ → List (List ℕ) → Command) → List (List ℕ) → Result Command BadWords
session_command_of keys command [] = bad_word Missing 1
session_command_of keys command (name ∷ words) =
    if is_some (bad_name name) then bad_word NoName 1
    else unless_bad (first_bad_word keys [] 2 words) (command name words)

-- the words after `ingest`
abbrev pub ingest_of : List (List ℕ) → Result Command BadWords
ingest_of words = session_command_of ingest_keys (λ name more. Ingest name (how_of more)) words

-- The numbers of `bulk`: words that are spelled as the decimal values of keys are. Their names are
-- those in the manual.
abbrev pub seed_number : Key
seed_number = decimal_key (codes "SEED") 0 (2 ^ 64 - 1)

abbrev pub blocks_number : Key
blocks_number = decimal_key (codes "BLOCKS") 1 MAX_BLOCKS

-- the words after the numbers of `bulk`, from the second number if the word for it is one
abbrev pub bulk_of_numbers : ℕ → Option ℕ → List (List ℕ) → Result Command BadWords
bulk_of_numbers seed None words = bad_word NoNumber 2
bulk_of_numbers seed (Some blocks) words =
    unless_bad (first_bad_word ingest_keys [] 3 words) (Bulk seed blocks (how_of words))

-- the words after the seed of `bulk`, if the word for it is a number
abbrev pub bulk_of_seed : Option ℕ → List (List ℕ) → Result Command BadWords
bulk_of_seed None words = bad_word NoNumber 1
bulk_of_seed (Some seed) [] = bad_word Missing 2
bulk_of_seed (Some seed) (blocks ∷ words) = bulk_of_numbers seed (number_of blocks_number blocks) words

-- the words after `bulk`
abbrev pub bulk_of : List (List ℕ) → Result Command BadWords
bulk_of [] = bad_word Missing 1
bulk_of (seed ∷ words) = bulk_of_seed (number_of seed_number seed) words

-- the words after `list`
abbrev pub list_of : List (List ℕ) → Result Command BadWords
list_of words = unless_bad (first_bad_word [] [] 1 words) (Quiet ListSessions)

-- the words after `restore`
abbrev pub restore_of : List (List ℕ) → Result Command BadWords
restore_of words = session_command_of [] (λ name more. Quiet (Restore name)) words

-- the words after `drop`
abbrev pub drop_of : List (List ℕ) → Result Command BadWords
drop_of words = session_command_of [] (λ name more. Quiet (Drop name)) words

-- the words after `refs`
abbrev pub refs_of : List (List ℕ) → Result Command BadWords
refs_of words = unless_bad (first_bad_word [] [] 1 words) (Quiet Refs)

-- the words after `audit`
abbrev pub audit_of : List (List ℕ) → Result Command BadWords
audit_of words = unless_bad (first_bad_word [] [] 1 words) (Quiet Audit)

-- the command that the words name, or the first word that fails
abbrev pub command_of : List (List ℕ) → Result Command BadWords
command_of [] = bad_word Missing 0
command_of (word ∷ words) =
    if bytes_eq word (codes "plan") then plan_of words
    else if bytes_eq word (codes "init") then init_of words
    else if bytes_eq word (codes "ingest") then ingest_of words
    else if bytes_eq word (codes "bulk") then bulk_of words
    else if bytes_eq word (codes "list") then list_of words
    else if bytes_eq word (codes "restore") then restore_of words
    else if bytes_eq word (codes "drop") then drop_of words
    else if bytes_eq word (codes "refs") then refs_of words
    else if bytes_eq word (codes "audit") then audit_of words
    else bad_word NoCommand 0
