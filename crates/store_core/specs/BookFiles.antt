-- How much of a book's file its committed records take, by the lengths that they state.
use Rattle.std.specs.Prelude.{ℕ, zero, suc, ◌+◌, ◌||◌, nat_lt, Bool, if◌then◌else◌, List, length, drop, Option, Some, None}
use Rattle.sd_base.specs.Records.{stated_length}
use Rattle.sd_base.specs.declared.record.TheConstants.{AROUND_BODY, NUMBER_LEN}

-- whether the bytes are fewer than the record has whose kind and length they begin with
abbrev pub is_short : List ℕ → Bool
is_short bytes =
    nat_lt (length bytes) (1 + NUMBER_LEN) || nat_lt (length bytes) (AROUND_BODY + stated_length bytes)

-- the bytes that the first n records take; a record that is not whole ends them
unfoldable pub whole_len : ℕ → List ℕ → ℕ
whole_len zero bytes = 0
whole_len (suc n) bytes =
    if is_short bytes then 0
    else (AROUND_BODY + stated_length bytes) + whole_len n (drop (AROUND_BODY + stated_length bytes) bytes)

-- the length of the record whose kind and length these bytes begin with, if they are enough for
-- that
abbrev pub stated_record : List ℕ → Option ℕ
stated_record bytes =
    if nat_lt (length bytes) (1 + NUMBER_LEN) then None else Some (AROUND_BODY + stated_length bytes)
