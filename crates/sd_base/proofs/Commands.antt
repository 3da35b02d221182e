-- What words give a command is in its range.
use Rattle.std.proofs.Common.{◌≡◌, inl, inr, ℕ, ◌≤◌, Bool, true, false, List, [], ◌∷◌, codes, Option, Some, None, IfSome, Result, IfOk, refl, lit≤, arith}
use Rattle.std.specs.Prelude.{◌&&◌, nat_le, is_some, unwrap_or, if◌then◌else◌}
use Rattle.std.specs.List.{find}
use Rattle.std.specs.Option.{option_and_then}
use Rattle.std.specs.Str.{bytes_eq}
use Rattle.std.specs.Str.Parse.{digits_value}
use Rattle.std.proofs.lemmas.Bool.{cases_Bool, leb-true, and_parts}
use Rattle.sd_base.specs.Commands.{AreBlocks, AreRawParams, IsSeed, HasSessionName, HasNumbersInRange, HasRawParams, IsHow}
use Rattle.sd_base.specs.Keys.{Key, first_bad_word, is_spelled, number_of, sets_key, value_of, value_or_default}
use Rattle.sd_base.specs.Names.{IsName, bad_name}
use Rattle.sd_base.specs.Words.{blocks_number, bulk_of, bulk_of_numbers, bulk_of_seed, seed_number, command_of, default_params, default_segment, default_shards, default_workers, how_of, ingest_keys, params_keys, plan_keys, segment_key, shards_key, workers_key, params_of, session_command_of, unless_bad, polynomial_key, bits_key, target_key, min_key, max_key}
use Rattle.sd_base.specs.declared.words.BadWords.{BadWords}
use Rattle.sd_base.specs.declared.words.Command.{Command}
use Rattle.sd_base.specs.declared.words.Command.TheVariants.{Quiet, Ingest, Bulk}
use Rattle.sd_base.specs.declared.words.Quiet.TheVariants.{Plan, Init, List as ListSessions, Restore, Drop, Refs, Audit}
use Rattle.sd_base.proofs.Generator.{bulk_name-is_name}
use Rattle.sd_base.proofs.Names.{IsName_is_no_refusal}

-- ---- values of keys

-- a value that a text spells is at most the greatest of its key
number_of-most : (key : Key) (text : List ℕ) → IfSome (number_of key text) (λ n. n ≤ key.greatest)
number_of-most key text =
    let n = digits_value key.base text in
    elim (cases_Bool (is_spelled key text && nat_le key.least n && nat_le n key.greatest)) [
      | inl reads ↦ rw reads (leb-true _ _ (and_parts _ _ reads).1)
      | inr other ↦ rw other tt
    ]

or_default : (P : ℕ → Type 0) (read : Option ℕ) (default : ℕ) → IfSome read P → P default → P (unwrap_or read default)
or_default P None default holds otherwise = otherwise
or_default P (Some n) default holds otherwise = holds

found-most : (key : Key) (default : ℕ) (found : Option (List ℕ)) → default ≤ key.greatest →
    unwrap_or (option_and_then (λ word. number_of key (value_of word)) found) default ≤ key.greatest
found-most key default None within = within
found-most key default (Some word) within =
    or_default (λ n. n ≤ key.greatest) (number_of key (value_of word)) default (number_of-most key (value_of word)) within

-- what words set a key to is at most the greatest of the key
value-most : (words : List (List ℕ)) (key : Key) (default : ℕ) → default ≤ key.greatest →
    value_or_default words key default ≤ key.greatest
value-most words key default within = found-most key default (find (sets_key key.name) words) within

-- a value that a text spells is at least the least of its key
number_of-least : (key : Key) (text : List ℕ) → IfSome (number_of key text) (λ n. key.least ≤ n)
number_of-least key text =
    let n = digits_value key.base text in
    elim (cases_Bool (is_spelled key text && nat_le key.least n && nat_le n key.greatest)) [
      | inl reads ↦ rw reads (leb-true _ _ (and_parts _ _ (and_parts _ _ reads).0).1)
      | inr other ↦ rw other tt
    ]

found-least : (key : Key) (default : ℕ) (found : Option (List ℕ)) → key.least ≤ default →
    key.least ≤ unwrap_or (option_and_then (λ word. number_of key (value_of word)) found) default
found-least key default None within = within
found-least key default (Some word) within =
    or_default (λ n. key.least ≤ n) (number_of key (value_of word)) default (number_of-least key (value_of word)) within

-- what words set a key to is at least the least of the key
value-least : (words : List (List ℕ)) (key : Key) (default : ℕ) → key.least ≤ default →
    key.least ≤ value_or_default words key default
value-least words key default within = found-least key default (find (sets_key key.name) words) within

-- how a command is carried out by the numbers that words set is in its ranges
how-fits : (words : List (List ℕ)) → IsHow (how_of words)
how-fits words = record {
  workers = (value-least words workers_key default_workers (lit≤ tt), value-most words workers_key default_workers (lit≤ tt));
  segment = (value-least words segment_key default_segment (lit≤ tt), value-most words segment_key default_segment (lit≤ tt));
  batch = (lit≤ tt, lit≤ tt);
  shards = (value-least words shards_key default_shards (lit≤ tt), value-most words shards_key default_shards (lit≤ tt));
}

pub params-fit : (words : List (List ℕ)) → AreRawParams (params_of words)
params-fit words = record {
  polynomial = omega (arith, value-most words polynomial_key default_params.polynomial (lit≤ tt));
  bits = omega (arith, value-most words bits_key default_params.bits (lit≤ tt));
  target = omega (arith, value-most words target_key default_params.target (lit≤ tt));
  min = omega (arith, value-most words min_key default_params.min (lit≤ tt));
  max = omega (arith, value-most words max_key default_params.max (lit≤ tt));
}

-- the numbers that the words of `bulk` spell
below : (read : Option ℕ) → IfSome read (λ n. n ≤ seed_number.greatest) → IfSome read IsSeed
below None most = tt
below (Some n) most = omega (arith, most)

seed-fits : (word : List ℕ) → IfSome (number_of seed_number word) IsSeed
seed-fits word = below (number_of seed_number word) (number_of-most seed_number word)

between : (read : Option ℕ) → IfSome read (λ n. blocks_number.least ≤ n) → IfSome read (λ n. n ≤ blocks_number.greatest) →
    IfSome read AreBlocks
between None least most = tt
between (Some n) least most = (least, most)

blocks-fit : (word : List ℕ) → IfSome (number_of blocks_number word) AreBlocks
blocks-fit word =
    between (number_of blocks_number word) (number_of-least blocks_number word) (number_of-most blocks_number word)

-- ---- what holds of each command that words name

none-from_test : {A : Type 0} (found : Option A) → is_some found ≡ false → found ≡ None
none-from_test None test = refl
none-from_test (Some x) test = absurd cc

module _ (P : Command → Type 0) where
  either : (test : Bool) (x y : Result Command BadWords) → IfOk x P → IfOk y P → IfOk (if test then x else y) P
  either true x y holds other = holds
  either false x y other holds = holds

  unless_bad-keeps : (bad : Option BadWords) (command : Command) → P command → IfOk (unless_bad bad command) P
  unless_bad-keeps None command holds = holds
  unless_bad-keeps (Some bad) command holds = tt

  -- a command with the name of a session
  session_command-keeps : (keys : List Key) (command : List ℕ → List (List ℕ) → Command) (words : List (List ℕ)) →
      ((name : List ℕ) (more : List (List ℕ)) → IsName name → P (command name more)) →
      IfOk (session_command_of keys command words) P
  session_command-keeps keys command [] holds = tt
  session_command-keeps keys command (name ∷ words) holds = elim (cases_Bool (is_some (bad_name name))) [
    | inl bad ↦ rw bad tt
    | inr good ↦
        let is_name : IsName name = (IsName_is_no_refusal name).1 (none-from_test (bad_name name) good) in
        rw good (unless_bad-keeps (first_bad_word keys [] 2 words) (command name words) (holds name words is_name))
  ]

  bulk_numbers-keep : (seed : ℕ) (blocks : Option ℕ) (words : List (List ℕ)) → IsSeed seed → IfSome blocks AreBlocks →
      ((n : ℕ) (more : List (List ℕ)) → AreBlocks n → P (Bulk seed n (how_of more))) →
      IfOk (bulk_of_numbers seed blocks words) P
  bulk_numbers-keep seed None words fits are holds = tt
  bulk_numbers-keep seed (Some blocks) words fits are holds =
      unless_bad-keeps (first_bad_word ingest_keys [] 3 words) (Bulk seed blocks (how_of words)) (holds blocks words are)

  bulk_seed-keeps : (seed : Option ℕ) (words : List (List ℕ)) → IfSome seed IsSeed →
      ((n blocks : ℕ) (more : List (List ℕ)) → IsSeed n → AreBlocks blocks → P (Bulk n blocks (how_of more))) →
      IfOk (bulk_of_seed seed words) P
  bulk_seed-keeps None words fits holds = tt
  bulk_seed-keeps (Some seed) [] fits holds = tt
  bulk_seed-keeps (Some seed) (blocks ∷ words) fits holds =
      bulk_numbers-keep seed (number_of blocks_number blocks) words fits (blocks-fit blocks) (λ n more. holds seed n more fits)

  bulk-keeps : (words : List (List ℕ)) →
      ((n blocks : ℕ) (more : List (List ℕ)) → IsSeed n → AreBlocks blocks → P (Bulk n blocks (how_of more))) →
      IfOk (bulk_of words) P
  bulk-keeps [] holds = tt
  bulk-keeps (seed ∷ words) holds = bulk_seed-keeps (number_of seed_number seed) words (seed-fits seed) holds

  -- what holds of the command of each kind of words holds of the command of all words
  command-keeps :
      ((words : List (List ℕ)) → P (Quiet (Plan (params_of words) (how_of words).workers (how_of words).segment))) →
      ((words : List (List ℕ)) → P (Quiet (Init (params_of words)))) →
      ((name : List ℕ) (more : List (List ℕ)) → IsName name → P (Ingest name (how_of more))) →
      ((n blocks : ℕ) (more : List (List ℕ)) → IsSeed n → AreBlocks blocks → P (Bulk n blocks (how_of more))) →
      P (Quiet ListSessions) →
      ((name : List ℕ) → IsName name → P (Quiet (Restore name))) →
      ((name : List ℕ) → IsName name → P (Quiet (Drop name))) → P (Quiet Refs) → P (Quiet Audit) →
      (words : List (List ℕ)) → IfOk (command_of words) P
  command-keeps plan init ingest bulk list restore drop refs audit [] = tt
  command-keeps plan init ingest bulk list restore drop refs audit (word ∷ words) =
      let bad_parameter = first_bad_word params_keys [] 1 words in
      let planned = Quiet (Plan (params_of words) (how_of words).workers (how_of words).segment) in
      either (bytes_eq word (codes "plan")) _ _ (unless_bad-keeps (first_bad_word plan_keys [] 1 words) planned (plan words))
      (either (bytes_eq word (codes "init")) _ _
      (unless_bad-keeps bad_parameter (Quiet (Init (params_of words))) (init words))
      (either (bytes_eq word (codes "ingest")) _ _
      (session_command-keeps ingest_keys (λ name more. Ingest name (how_of more)) words ingest)
      (either (bytes_eq word (codes "bulk")) _ _ (bulk-keeps words bulk)
      (either (bytes_eq word (codes "list")) _ _
      (unless_bad-keeps (first_bad_word [] [] 1 words) (Quiet ListSessions) list)
      (either (bytes_eq word (codes "restore")) _ _
      (session_command-keeps [] (λ name more. Quiet (Restore name)) words (λ name more. restore name))
      (either (bytes_eq word (codes "drop")) _ _
      (session_command-keeps [] (λ name more. Quiet (Drop name)) words (λ name more. drop name))
      (either (bytes_eq word (codes "refs")) _ _
      (unless_bad-keeps (first_bad_word [] [] 1 words) (Quiet Refs) refs)
      (either (bytes_eq word (codes "audit")) _ _
      (unless_bad-keeps (first_bad_word [] [] 1 words) (Quiet Audit) audit) tt))))))))

pub numbers_in_range : (words : List (List ℕ)) → IfOk (command_of words) HasNumbersInRange
numbers_in_range =
    command-keeps HasNumbersInRange (λ words. ((how-fits words).workers, (how-fits words).segment)) (λ words. tt)
    (λ name more is_name. how-fits more) (λ seed blocks more fits are. (fits, are, how-fits more)) tt (λ name is_name. tt) (λ name is_name. tt) tt tt

pub names_of_sessions : (words : List (List ℕ)) → IfOk (command_of words) HasSessionName
names_of_sessions =
    command-keeps HasSessionName (λ words. tt) (λ words. tt) (λ name more is_name. is_name)
    (λ seed blocks more fits are. bulk_name-is_name seed blocks fits are) tt (λ name is_name. is_name) (λ name is_name. is_name) tt tt

pub raw_params : (words : List (List ℕ)) → IfOk (command_of words) HasRawParams
raw_params =
    command-keeps HasRawParams params-fit params-fit (λ name more is_name. tt) (λ seed blocks more fits are. tt) tt
    (λ name is_name. tt) (λ name is_name. tt) tt tt
