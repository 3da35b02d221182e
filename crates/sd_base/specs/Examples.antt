-- Worked examples of the definitions, each computed by the checker. Each result is known from
-- another source: modulo t^63 + 1 the exponent of a power of t counts modulo 63, the fingerprint
-- under the default polynomial was worked out by long division, and the name of `abc` is an example
-- of FIPS 180-2.
use Rattle.std.specs.Prelude.{◌≡◌, ℕ, ◌^◌, List, [], ◌∷◌, ◌++◌, map, replicate, take, codes, true, false, Some, None, Ok}
use Rattle.std.specs.Int.Count.{count_leading_zeros}
use Rattle.std.specs.Fmt.{digits}
use Rattle.std.specs.List.{range_with_len}
use Rattle.std.proofs.Common.{refl, lit<, lit≤}
use Rattle.hex.specs.Hex.{encode_with}
use Rattle.sha2.specs.Sha256.{sha256, digest_bytes, hash_after, compress, rounds, schedule, first_words}
use Rattle.sd_base.specs.Parameters.{IsValid}
use Rattle.sd_base.specs.Polynomial.{remainder, fingerprint}
use Rattle.sd_base.specs.Cutting.{is_match, next_cut, cuts_within, cuts_of, chunks_of}
use Rattle.sd_base.specs.Generator.{bulk_name, bytes_after, first_state, origin_of}
use Rattle.sd_base.specs.Names.{bad_name}
use Rattle.sd_base.specs.Packing.{packing}
use Rattle.sd_base.specs.Words.{default_params, default_plan, default_how, bad_word, command_of}
use Rattle.sd_base.specs.Records.{ingest_body, spelling_of}
use Rattle.sd_base.specs.Books.{sessions_of, places_in, live_session, recipe_flaw, recipe_damage}
use Rattle.sd_base.specs.Texts.{plan_text}
use Rattle.sd_base.specs.OnePass.{one_pass, refusal, success}
use Rattle.sd_base.specs.declared.raw_params.RawParams.{RawParams}
use Rattle.sd_base.specs.declared.limits.TheConstants.{WINDOW, MIN_POLYNOMIAL, MAX_BITS, MIN_CHUNK_LEN, MAX_NAME, MAX_INPUT, MAX_CHUNKS, MAX_PLACES, MAX_SESSIONS, MAX_CONTAINER, CONTAINER_HEADER, MAX_CHUNK_LEN, DEFAULT_POLYNOMIAL, DEFAULT_BITS, DEFAULT_TARGET, DEFAULT_MIN, DEFAULT_MAX, DEFAULT_WORKERS, DEFAULT_SEGMENT, DEFAULT_BATCH, DEFAULT_SHARDS, MAX_WORKERS, MAX_SEGMENT, MIN_BATCH, MAX_BATCH, MAX_SHARDS, BLOCK_STATES, MAX_BLOCKS}
use Rattle.sd_base.specs.declared.record.TheConstants.{INGEST_KIND, DROP_KIND, NUMBER_LEN, DIGEST_LEN, AROUND_BODY}
use Rattle.sd_base.specs.declared.name.BadName.TheVariants.{Length, Letter}
use Rattle.sd_base.specs.declared.params.BadParams.TheVariants.{Bits}
use Rattle.sd_base.specs.declared.words.BadKind.TheVariants.{Missing, Command as NoCommand, Name as NoName, Number as NoNumber, Key as NoKey, Twice, Value}
use Rattle.sd_base.specs.declared.damage.Damage.TheVariants.{Recipe}
use Rattle.sd_base.specs.declared.record.NewChunk.{NewChunk}
use Rattle.sd_base.specs.declared.record.IngestRecord.{IngestRecord}
use Rattle.sd_base.specs.declared.record.Record.TheVariants.{Ingest as IngestEntry, Drop}
use Rattle.sd_base.specs.declared.words.Quiet.TheVariants.{Plan, Init, List as ListSessions, Restore}
use Rattle.sd_base.specs.declared.words.Command.TheVariants.{Quiet, Ingest, Bulk}
use Rattle.sd_base.specs.declared.outcome.Outcome.TheVariants.{BadParams}

-- the parameters that are used if none is given are valid
pub IsValid-default_params : IsValid default_params
IsValid-default_params = record {
  polynomial = (lit≤ tt, lit< tt, refl);
  bits = (lit≤ tt, lit≤ tt);
  target = lit< tt;
  min = lit≤ tt;
  max = (lit≤ tt, lit≤ tt);
}

-- `plan` with no keys, by its numbers
pub default_plan-is :
    default_plan
    ≡ Quiet (Plan (record { polynomial = 0x3DA3358B4DC173; bits = 13; target = 120; min = 2048; max = 65536 }) 4 65536)
default_plan-is = refl

-- the constants of the code are these numbers
pub default_plan-of_the_constants :
    default_plan
    ≡ Quiet (Plan
    (record {
      polynomial = DEFAULT_POLYNOMIAL;
      bits = DEFAULT_BITS;
      target = DEFAULT_TARGET;
      min = DEFAULT_MIN;
      max = DEFAULT_MAX;
    })
    DEFAULT_WORKERS DEFAULT_SEGMENT)
default_plan-of_the_constants = refl

-- the limits: a definition or a clause that cites one of them means this number
pub WINDOW-is : WINDOW ≡ 48
WINDOW-is = refl

pub MIN_POLYNOMIAL-is : MIN_POLYNOMIAL ≡ 2 ^ 16
MIN_POLYNOMIAL-is = refl

pub MAX_BITS-is : MAX_BITS ≡ 16
MAX_BITS-is = refl

pub MIN_CHUNK_LEN-is : MIN_CHUNK_LEN ≡ 48
MIN_CHUNK_LEN-is = refl

pub MAX_NAME-is : MAX_NAME ≡ 64
MAX_NAME-is = refl

pub MAX_INPUT-is : MAX_INPUT ≡ 2 ^ 28
MAX_INPUT-is = refl

pub MAX_CHUNKS-is : MAX_CHUNKS ≡ 2 ^ 22
MAX_CHUNKS-is = refl

pub MAX_PLACES-is : MAX_PLACES ≡ 2 ^ 24
MAX_PLACES-is = refl

pub MAX_SESSIONS-is : MAX_SESSIONS ≡ 4096
MAX_SESSIONS-is = refl

pub MAX_CONTAINER-is : MAX_CONTAINER ≡ 4194304
MAX_CONTAINER-is = refl

pub CONTAINER_HEADER-is : CONTAINER_HEADER ≡ 8
CONTAINER_HEADER-is = refl

pub MAX_CHUNK_LEN-is : MAX_CHUNK_LEN ≡ 1048576
MAX_CHUNK_LEN-is = refl

pub MAX_WORKERS-is : MAX_WORKERS ≡ 64
MAX_WORKERS-is = refl

pub MAX_SEGMENT-is : MAX_SEGMENT ≡ 2 ^ 28
MAX_SEGMENT-is = refl

pub BLOCK_STATES-is : BLOCK_STATES ≡ 16384
BLOCK_STATES-is = refl

pub MAX_BLOCKS-is : MAX_BLOCKS ≡ 4096
MAX_BLOCKS-is = refl

pub MIN_BATCH-is : MIN_BATCH ≡ 65536
MIN_BATCH-is = refl

pub MAX_BATCH-is : MAX_BATCH ≡ 16777216
MAX_BATCH-is = refl

pub MAX_SHARDS-is : MAX_SHARDS ≡ 256
MAX_SHARDS-is = refl

-- the polynomial t^63 + 1
abbrev pub sparse : ℕ
sparse = 0x8000000000000001

pub fingerprint-of_last_byte_one : fingerprint sparse (replicate 47 0 ++ 1 ∷ []) ≡ 1
unfolding count_leading_zeros
fingerprint-of_last_byte_one = refl

pub fingerprint-of_first_byte_one : fingerprint sparse (1 ∷ replicate 47 0) ≡ 2305843009213693952
unfolding count_leading_zeros
fingerprint-of_first_byte_one = refl

pub fingerprint-of_all_ones : fingerprint sparse (replicate 48 255) ≡ 63
unfolding count_leading_zeros
fingerprint-of_all_ones = refl

-- the window one byte further on: a zero has come in after the byte 1
pub fingerprint-of_byte_one_and_a_zero : fingerprint sparse (replicate 46 0 ++ 1 ∷ 0 ∷ []) ≡ 256
unfolding count_leading_zeros
fingerprint-of_byte_one_and_a_zero = refl

-- the least degree, 16: modulo t^16 + 1 the exponent 376 is 8
pub fingerprint-of_degree_16 : fingerprint 0x10001 (1 ∷ replicate 47 0) ≡ 256
unfolding count_leading_zeros
fingerprint-of_degree_16 = refl

pub remainder-of_384_ones : remainder sparse (replicate 384 1) ≡ 63
unfolding count_leading_zeros
remainder-of_384_ones = refl

-- the bytes 0 to 47 under the default polynomial
pub fingerprint-of_counting_bytes :
    fingerprint default_params.polynomial (range_with_len 0 48) ≡ 4967560356722810
unfolding count_leading_zeros
fingerprint-of_counting_bytes = refl

-- chunks of 64 to 256 bytes, so that a short input has cuts
abbrev pub small_params : ℕ → RawParams
small_params target = record { polynomial = sparse; bits = 13; target = target; min = 64; max = 256 }

-- every window is a match, so each chunk except the last has the minimum
pub cuts_of-zeros : cuts_of (small_params 0) (replicate 200 0) ≡ 64 ∷ 128 ∷ 192 ∷ 200 ∷ []
unfolding count_leading_zeros next_cut cuts_within
cuts_of-zeros = refl

-- the one candidate is right after the byte 1, and the minimum away from the start
pub cuts_of-candidate_at_the_minimum :
    cuts_of (small_params 1) (replicate 63 0 ++ 1 ∷ replicate 63 0) ≡ 64 ∷ 127 ∷ []
unfolding count_leading_zeros next_cut cuts_within
cuts_of-candidate_at_the_minimum = refl

-- a candidate one byte nearer to the start is passed over
pub cuts_of-candidate_below_the_minimum :
    cuts_of (small_params 1) (replicate 62 0 ++ 1 ∷ replicate 2 0) ≡ 65 ∷ []
unfolding count_leading_zeros next_cut cuts_within
cuts_of-candidate_below_the_minimum = refl

-- chunks of 48 to 50 bytes: the maximum is a cut if no candidate comes before it
abbrev short_params : RawParams
short_params = record { polynomial = sparse; bits = 13; target = 1; min = 48; max = 50 }

pub cuts_of-no_candidate : cuts_of short_params (replicate 60 0) ≡ 50 ∷ 60 ∷ []
unfolding count_leading_zeros next_cut cuts_within
cuts_of-no_candidate = refl

pub cuts_of-candidate_at_the_maximum :
    cuts_of short_params (replicate 49 0 ++ 1 ∷ replicate 10 0) ≡ 50 ∷ 60 ∷ []
unfolding count_leading_zeros next_cut cuts_within
cuts_of-candidate_at_the_maximum = refl

pub cuts_of-candidate_past_the_maximum :
    cuts_of short_params (replicate 50 0 ++ 1 ∷ replicate 9 0) ≡ 50 ∷ 60 ∷ []
unfolding count_leading_zeros next_cut cuts_within
cuts_of-candidate_past_the_maximum = refl

-- the byte 4 at the start of a window is t^378, which is also 1: the first byte of a window counts
pub cuts_of-window_of_48_bytes :
    cuts_of (small_params 1) (replicate 16 0 ++ 4 ∷ replicate 60 0) ≡ 64 ∷ 77 ∷ []
unfolding count_leading_zeros next_cut cuts_within
cuts_of-window_of_48_bytes = refl

-- the byte before a window does not count
pub cuts_of-byte_before_the_window : cuts_of (small_params 1) (replicate 15 0 ++ 4 ∷ replicate 49 0) ≡ 65 ∷ []
unfolding count_leading_zeros next_cut cuts_within
cuts_of-byte_before_the_window = refl

-- the fingerprints t^13 + 1 and t^12 + 1: the low 13 bits are compared, and no more
pub is_match-above_the_low_bits : is_match (small_params 1) (replicate 46 0 ++ 32 ∷ 1 ∷ []) ≡ true
unfolding count_leading_zeros
is_match-above_the_low_bits = refl

pub is_match-in_the_low_bits : is_match (small_params 1) (replicate 46 0 ++ 16 ∷ 1 ∷ []) ≡ false
unfolding count_leading_zeros
is_match-in_the_low_bits = refl

-- one short chunk: its position, its length and its name
pub plan_text-abc :
    plan_text (chunks_of default_params (codes "abc"))
    ≡ codes "0 3 ba7816bf8f01cfea414140de5dae2223b00361a396177a9cb410ff61f20015ad" ++ 10 ∷ []
unfolding count_leading_zeros next_cut cuts_within digits encode_with sha256 digest_bytes hash_after compress rounds schedule first_words
plan_text-abc = refl

-- the second chunk begins where the first ends
pub plan_text-two_chunks :
    plan_text (codes "abc" ∷ codes "abc" ∷ [])
    ≡ codes "0 3 ba7816bf8f01cfea414140de5dae2223b00361a396177a9cb410ff61f20015ad"
    ++ 10 ∷ codes "3 3 ba7816bf8f01cfea414140de5dae2223b00361a396177a9cb410ff61f20015ad" ++ 10 ∷ []
unfolding digits encode_with sha256 digest_bytes hash_after compress rounds schedule first_words
plan_text-two_chunks = refl

-- nothing is printed for an empty input
pub one_pass-plan_of_nothing : one_pass (codes "plan" ∷ []) None [] ≡ success None []
unfolding cuts_within
one_pass-plan_of_nothing = refl

pub bad_name-of_nothing : bad_name [] ≡ Some Length
bad_name-of_nothing = refl

pub bad_name-of_65_letters : bad_name (replicate 65 97) ≡ Some Length
bad_name-of_65_letters = refl

pub bad_name-of_64_letters : bad_name (replicate 64 97) ≡ None
bad_name-of_64_letters = refl

pub bad_name-of_all_kinds : bad_name (codes "a.b_c-1") ≡ None
bad_name-of_all_kinds = refl

pub bad_name-of_a_leading_dot : bad_name (codes ".x") ≡ Some Letter
bad_name-of_a_leading_dot = refl

pub bad_name-of_a_path : bad_name (codes "a/b") ≡ Some Letter
bad_name-of_a_path = refl

-- the first word that fails is named, with its place
pub command_of-no_words : command_of [] ≡ bad_word Missing 0
command_of-no_words = refl

pub command_of-upper_case : command_of (codes "Plan" ∷ []) ≡ bad_word NoCommand 0
command_of-upper_case = refl

pub command_of-unknown_key : command_of (codes "plan" ∷ codes "speed=3" ∷ []) ≡ bad_word NoKey 1
command_of-unknown_key = refl

pub command_of-key_twice : command_of (codes "plan" ∷ codes "bits=9" ∷ codes "bits=x" ∷ []) ≡ bad_word Twice 2
command_of-key_twice = refl

pub command_of-leading_zero : command_of (codes "plan" ∷ codes "bits=09" ∷ []) ≡ bad_word Value 1
command_of-leading_zero = refl

pub command_of-keys :
    command_of
    (codes "plan" ∷ codes "max=256" ∷ codes "polynomial=8000000000000001" ∷ codes "min=64"
    ∷ codes "target=1" ∷ [])
    ≡ Ok (Quiet (Plan (small_params 1) 4 65536))
command_of-keys = refl

pub command_of-plan_by_workers :
    command_of (codes "plan" ∷ codes "segment=47" ∷ codes "bits=9" ∷ codes "workers=1" ∷ [])
    ≡ Ok (Quiet (Plan (record default_params { bits = 9 }) 1 47))
command_of-plan_by_workers = refl

pub command_of-65_workers : command_of (codes "plan" ∷ codes "workers=65" ∷ []) ≡ bad_word Value 1
command_of-65_workers = refl

-- a key that an earlier word has is refused before its value is read
pub command_of-workers_twice : command_of (codes "plan" ∷ codes "workers=2" ∷ codes "workers=99" ∷ []) ≡ bad_word Twice 2
command_of-workers_twice = refl

pub command_of-no_bytes_of_a_segment : command_of (codes "plan" ∷ codes "segment=0" ∷ []) ≡ bad_word Value 1
command_of-no_bytes_of_a_segment = refl

pub command_of-a_segment_too_long : command_of (codes "plan" ∷ codes "segment=268435457" ∷ []) ≡ bad_word Value 1
command_of-a_segment_too_long = refl

pub command_of-init :
    command_of
    (codes "init" ∷ codes "polynomial=8000000000000001" ∷ codes "target=0" ∷ codes "min=64" ∷ codes "max=256" ∷ [])
    ≡ Ok (Quiet (Init (small_params 0)))
command_of-init = refl

pub command_of-init_without_keys : command_of (codes "init" ∷ []) ≡ Ok (Quiet (Init default_params))
command_of-init_without_keys = refl

-- `init` has the keys of parameters and no others
pub command_of-init_with_workers : command_of (codes "init" ∷ codes "bits=9" ∷ codes "workers=2" ∷ []) ≡ bad_word NoKey 2
command_of-init_with_workers = refl

pub command_of-init_with_a_bad_value : command_of (codes "init" ∷ codes "min=-1" ∷ []) ≡ bad_word Value 1
command_of-init_with_a_bad_value = refl

pub command_of-ingest : command_of (codes "ingest" ∷ codes "a.b" ∷ []) ≡ Ok (Ingest (codes "a.b") default_how)
command_of-ingest = refl

-- a name that is missing has the place after the last word
pub command_of-ingest_without_a_name : command_of (codes "ingest" ∷ []) ≡ bad_word Missing 1
command_of-ingest_without_a_name = refl

pub command_of-ingest_leading_dot : command_of (codes "ingest" ∷ codes ".x" ∷ []) ≡ bad_word NoName 1
command_of-ingest_leading_dot = refl

-- the name is tried before the words after it
pub command_of-ingest_two_bad_words : command_of (codes "ingest" ∷ codes ".x" ∷ codes "y" ∷ []) ≡ bad_word NoName 1
command_of-ingest_two_bad_words = refl

-- the keys of how a command is carried out come in any order
pub command_of-ingest_with_keys :
    command_of (codes "ingest" ∷ codes "a" ∷ codes "shards=256" ∷ codes "segment=268435456" ∷ codes "workers=64" ∷ [])
    ≡ Ok (Ingest (codes "a") (record default_how { workers = 64; segment = 268435456; shards = 256 }))
command_of-ingest_with_keys = refl

pub command_of-ingest_with_no_workers : command_of (codes "ingest" ∷ codes "a" ∷ codes "workers=0" ∷ []) ≡ bad_word Value 2
command_of-ingest_with_no_workers = refl

pub command_of-ingest_with_257_shards : command_of (codes "ingest" ∷ codes "a" ∷ codes "shards=257" ∷ []) ≡ bad_word Value 2
command_of-ingest_with_257_shards = refl

-- `batch` is not a key of `ingest`, and neither is a key of parameters
pub command_of-ingest_with_batch : command_of (codes "ingest" ∷ codes "a" ∷ codes "batch=65536" ∷ []) ≡ bad_word NoKey 2
command_of-ingest_with_batch = refl

pub command_of-ingest_with_bits : command_of (codes "ingest" ∷ codes "a" ∷ codes "bits=9" ∷ []) ≡ bad_word NoKey 2
command_of-ingest_with_bits = refl

pub command_of-bulk :
    command_of (codes "bulk" ∷ codes "18446744073709551615" ∷ codes "4096" ∷ codes "workers=8" ∷ [])
    ≡ Ok (Bulk 18446744073709551615 4096 (record default_how { workers = 8 }))
command_of-bulk = refl

-- the first word that fails decides: a seed that is no number, or no word for the number of blocks
pub command_of-bulk_without_blocks : command_of (codes "bulk" ∷ codes "7" ∷ []) ≡ bad_word Missing 2
command_of-bulk_without_blocks = refl

pub command_of-bulk_leading_zero : command_of (codes "bulk" ∷ codes "07" ∷ []) ≡ bad_word NoNumber 1
command_of-bulk_leading_zero = refl

pub command_of-bulk_without_a_block : command_of (codes "bulk" ∷ codes "7" ∷ codes "0" ∷ []) ≡ bad_word NoNumber 2
command_of-bulk_without_a_block = refl

pub command_of-bulk_too_many_blocks : command_of (codes "bulk" ∷ codes "7" ∷ codes "4097" ∷ []) ≡ bad_word NoNumber 2
command_of-bulk_too_many_blocks = refl

-- a word after both numbers sets a key
pub command_of-bulk_with_a_key_twice :
    command_of (codes "bulk" ∷ codes "0" ∷ codes "1" ∷ codes "workers=2" ∷ codes "workers=2" ∷ []) ≡ bad_word Twice 4
command_of-bulk_with_a_key_twice = refl

pub command_of-list : command_of (codes "list" ∷ []) ≡ Ok (Quiet ListSessions)
command_of-list = refl

pub command_of-list_a : command_of (codes "list" ∷ codes "a" ∷ []) ≡ bad_word NoKey 1
command_of-list_a = refl

pub command_of-restore : command_of (codes "restore" ∷ codes "a" ∷ []) ≡ Ok (Quiet (Restore (codes "a")))
command_of-restore = refl

pub command_of-restore_without_a_name : command_of (codes "restore" ∷ []) ≡ bad_word Missing 1
command_of-restore_without_a_name = refl

pub command_of-restore_a_path : command_of (codes "restore" ∷ codes "a/b" ∷ []) ≡ bad_word NoName 1
command_of-restore_a_path = refl

pub command_of-restore_two_names : command_of (codes "restore" ∷ codes "a" ∷ codes "b" ∷ []) ≡ bad_word NoKey 2
command_of-restore_two_names = refl

-- how an ingest is carried out if no key says so, by its numbers and by the constants of the code
pub default_how-is : default_how ≡ record { workers = 4; segment = 65536; batch = 1048576; shards = 16 }
default_how-is = refl

pub default_how-of_the_constants :
    default_how
    ≡ record { workers = DEFAULT_WORKERS; segment = DEFAULT_SEGMENT; batch = DEFAULT_BATCH; shards = DEFAULT_SHARDS }
default_how-of_the_constants = refl

-- the refusal names the first number that is out of its range
pub one_pass-seventeen_bits :
    one_pass (codes "plan" ∷ codes "max=1" ∷ codes "bits=17" ∷ []) None [] ≡ refusal None (BadParams Bits)
one_pass-seventeen_bits = refl

-- the generator: the first bytes of the blocks 0 and 1 from the seed 7, and those from the greatest
-- seed, worked out apart from this project's code
pub bytes_after-seed_7 : bytes_after (first_state 7 0) 2 ≡ 151 ∷ 40 ∷ 155 ∷ 94 ∷ 133 ∷ 29 ∷ 161 ∷ 187 ∷ []
unfolding bytes_after
bytes_after-seed_7 = refl

pub bytes_after-block_1 : bytes_after (first_state 7 1) 2 ≡ 176 ∷ 14 ∷ 14 ∷ 1 ∷ 21 ∷ 149 ∷ 40 ∷ 246 ∷ []
unfolding bytes_after
bytes_after-block_1 = refl

pub bytes_after-greatest_seed :
    bytes_after (first_state 18446744073709551615 0) 2 ≡ 212 ∷ 152 ∷ 249 ∷ 244 ∷ 66 ∷ 32 ∷ 220 ∷ 171 ∷ []
unfolding bytes_after
bytes_after-greatest_seed = refl

-- the blocks 3 and 7 repeat the blocks 0 and 4, and no other of the first eight repeats one
pub origin_of-blocks :
    map origin_of (range_with_len 0 8) ≡ 0 ∷ 1 ∷ 2 ∷ 0 ∷ 4 ∷ 5 ∷ 6 ∷ 4 ∷ []
origin_of-blocks = refl

pub bulk_name-is : bulk_name 7 640 ≡ codes "bulk.7.640"
unfolding bulk_name digits
bulk_name-is = refl

-- two chunks in one container, after its header
pub packing-two_chunks : packing (replicate 64 0 ∷ replicate 8 0 ∷ []) ≡ (codes "SSCP" ++ replicate 76 0) ∷ []
packing-two_chunks = refl

-- a drop of session 0, with its digest
pub spelling_of-drop_0 :
    spelling_of (Drop 0)
    ≡ 0x44 ∷ 0 ∷ 0 ∷ 0 ∷ 4 ∷ 0 ∷ 0 ∷ 0 ∷ 0
    ∷ 0xcc ∷ 0xfb ∷ 0x74 ∷ 0xc7 ∷ 0x78 ∷ 0x2f ∷ 0xdf ∷ 0xbe ∷ 0xba ∷ 0xf9 ∷ 0xfc ∷ 0x24 ∷ 0x48 ∷ 0xa6 ∷ 0xa2
    ∷ 0xa3 ∷ 0xab ∷ 0xec ∷ 0xce ∷ 0x62 ∷ 0x80 ∷ 0x87 ∷ 0x9b ∷ 0xa3 ∷ 0xf8 ∷ 0xd3 ∷ 5 ∷ 0xaa ∷ 0x7e ∷ 0x5f
    ∷ 0xa4 ∷ 0xf6 ∷ []
unfolding spelling_of sha256 digest_bytes hash_after compress rounds schedule first_words
spelling_of-drop_0 = refl

-- two chunks of 64 and 8 bytes, and sessions that have them
abbrev pub two_chunks : List NewChunk
two_chunks = record { length = 64; name = replicate 32 1 } ∷ record { length = 8; name = replicate 32 2 } ∷ []

abbrev pub session_of : List NewChunk → ℕ → List ℕ → IngestRecord
session_of fresh size recipe = record { name = codes "a"; length = size; fresh = fresh; recipe = recipe }

-- an ingest of 200 bytes as `a`, of two new chunks in four places: up to and with the length of the
-- first chunk
pub spelling_of-ingest_a :
    take 19 (spelling_of (IngestEntry (session_of two_chunks 200 (0 ∷ 0 ∷ 0 ∷ 1 ∷ []))))
    ≡ 0x49 ∷ 0 ∷ 0 ∷ 0 ∷ 0x66 ∷ 1 ∷ 0x61 ∷ 0 ∷ 0 ∷ 0 ∷ 0xc8 ∷ 0 ∷ 0 ∷ 0 ∷ 2 ∷ 0 ∷ 0 ∷ 0 ∷ 0x40 ∷ []
unfolding spelling_of ingest_body
spelling_of-ingest_a = refl

pub recipe_flaw-of_200_zeros : recipe_flaw two_chunks (session_of two_chunks 200 (0 ∷ 0 ∷ 0 ∷ 1 ∷ [])) ≡ None
recipe_flaw-of_200_zeros = refl

-- an entry that is the number of chunks
pub recipe_flaw-beyond : recipe_flaw two_chunks (session_of [] 64 (0 ∷ 2 ∷ [])) ≡ Some 1
recipe_flaw-beyond = refl

-- lengths that sum to one less than the length of the input
pub recipe_flaw-sum : recipe_flaw two_chunks (session_of [] 73 (0 ∷ 1 ∷ [])) ≡ Some 2
recipe_flaw-sum = refl

-- an entry that names a chunk of a later session
pub recipe_damage-later_chunk :
    recipe_damage [] 0
    (sessions_of (IngestEntry (session_of [] 64 (0 ∷ [])) ∷ IngestEntry (session_of two_chunks 64 (0 ∷ [])) ∷ []))
    ≡ Some (Recipe 0 0)
recipe_damage-later_chunk = refl

-- a dropped session is no longer found, and its places still count
pub live_session-dropped :
    live_session (sessions_of (IngestEntry (session_of two_chunks 72 (0 ∷ 1 ∷ [])) ∷ Drop 0 ∷ [])) (codes "a") ≡ None
live_session-dropped = refl

pub places_in-dropped :
    places_in (sessions_of (IngestEntry (session_of two_chunks 72 (0 ∷ 1 ∷ [])) ∷ Drop 0 ∷ [])) ≡ 2
places_in-dropped = refl

pub IsValid-small_params : IsValid (small_params 0)
IsValid-small_params = record {
  polynomial = (lit≤ tt, lit< tt, refl);
  bits = (lit≤ tt, lit≤ tt);
  target = lit< tt;
  min = lit≤ tt;
  max = (lit≤ tt, lit≤ tt);
}

-- the kinds and the lengths of a record's parts
pub INGEST_KIND-is : INGEST_KIND ∷ [] ≡ codes "I"
INGEST_KIND-is = refl

pub DROP_KIND-is : DROP_KIND ∷ [] ≡ codes "D"
DROP_KIND-is = refl

pub NUMBER_LEN-is : NUMBER_LEN ≡ 4
NUMBER_LEN-is = refl

pub DIGEST_LEN-is : DIGEST_LEN ≡ 32
DIGEST_LEN-is = refl

pub AROUND_BODY-is : AROUND_BODY ≡ 37
AROUND_BODY-is = refl
