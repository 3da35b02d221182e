-- Words of the form KEY=VALUE after a command. A word is cut at its first `=`. All rules here are
-- this project's own.
use Rattle.std.specs.Prelude.{ℕ, ◌+◌, ◌==◌, ◌&&◌, ◌||◌, not, nat_lt, nat_le, Bool, true, false, is_some, if◌then◌else◌, List, [], ◌∷◌, ◌++◌, length, slice_index, Option, Some, None, unwrap_or}
use Rattle.std.specs.Char.{digit_value}
use Rattle.std.specs.List.{find, list_any, list_all, before_first, after_first}
use Rattle.std.specs.Option.{option_and_then}
use Rattle.std.specs.Str.{bytes_eq}
use Rattle.std.specs.Str.Parse.{digits_value}
use Rattle.sd_base.specs.declared.words.BadKind.{BadKind}
use Rattle.sd_base.specs.declared.words.BadKind.TheVariants.{Key as NoKey, Twice, Value}
use Rattle.sd_base.specs.declared.words.BadWords.{BadWords}

-- a key: its name, the base and the most digits of its values, and the least and the greatest of
-- them
pub record Key : Type 0 where
  pub name : List ℕ
  pub base : ℕ
  pub most_digits : ℕ
  pub least : ℕ
  pub greatest : ℕ

-- a key with decimal values, which are spelled with no zero before another digit
abbrev pub decimal_key : List ℕ → ℕ → ℕ → Key
decimal_key name least greatest = record { name = name; base = 10; most_digits = 20; least = least; greatest = greatest }

-- whether a text spells a number as the key's values are spelled
abbrev pub is_spelled : Key → List ℕ → Bool
is_spelled key text =
    nat_le 1 (length text) && nat_le (length text) key.most_digits
    && list_all (λ c. nat_lt (digit_value c) key.base) text
    && (not (key.base == 10) || length text == 1 || not (slice_index text 0 == 48))

-- the value of a key that a text spells, if it is in the key's range
abbrev pub number_of : Key → List ℕ → Option ℕ
number_of key text =
    if is_spelled key text && nat_le key.least (digits_value key.base text) && nat_le (digits_value key.base text) key.greatest
    then Some (digits_value key.base text)
    else None

abbrev pub is_equals_sign : ℕ → Bool
is_equals_sign c = c == 61

-- what comes before the first `=` of a word: the name of its key
abbrev pub key_name_of : List ℕ → List ℕ
key_name_of word = before_first is_equals_sign word

-- what comes after it: the text of its value
abbrev pub value_of : List ℕ → List ℕ
value_of word = after_first is_equals_sign word

-- whether a word sets the key of this name
abbrev pub sets_key : List ℕ → List ℕ → Bool
sets_key name word = bytes_eq (key_name_of word) name

-- what is wrong with a value, from its key, if there is one, and from whether that was set before
abbrev pub bad_kind_of_value : Option Key → Bool → List ℕ → Option BadKind
bad_kind_of_value None twice value = Some NoKey
bad_kind_of_value (Some key) true value = Some Twice
bad_kind_of_value (Some key) false value = if is_some (number_of key value) then None else Some Value

-- what is wrong with a word, from those before it
abbrev pub bad_kind_of : List Key → List (List ℕ) → List ℕ → Option BadKind
bad_kind_of keys before word =
    if list_any is_equals_sign word
    then bad_kind_of_value (find (λ key. bytes_eq key.name (key_name_of word)) keys) (list_any (sets_key (key_name_of word)) before) (value_of word)
    else Some NoKey

-- the bad word at its place, or otherwise a later one
abbrev pub or_later : Option BadKind → ℕ → Option BadWords → Option BadWords
or_later None place later = later
or_later (Some kind) place later = Some (record { kind = kind; place = place })

-- the first bad word, after the words before it; the first of the words is at a place
abbrev pub first_bad_word : List Key → List (List ℕ) → ℕ → List (List ℕ) → Option BadWords
first_bad_word keys before place [] = None
first_bad_word keys before place (word ∷ words) =
    or_later (bad_kind_of keys before word) place (first_bad_word keys (before ++ word ∷ []) (place + 1) words)

-- the value that the words set a key to, or otherwise its default
abbrev pub value_or_default : List (List ℕ) → Key → ℕ → ℕ
value_or_default words key default = unwrap_or (option_and_then (λ word. number_of key (value_of word)) (find (sets_key key.name) words)) default
