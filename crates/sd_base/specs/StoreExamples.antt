-- Worked examples of a store, each computed by the checker: 200 zeros taken in as `a` and once
-- more as `b`, cut by parameters under which every window of zeros is a match and every chunk
-- except the last has 64 to 256 bytes.
use Rattle.std.specs.Prelude.{◌≡◌, ℕ, List, [], ◌∷◌, ◌++◌, length, map, drop, replicate, codes, Some, None}
use Rattle.std.specs.Int.Count.{count_leading_zeros}
use Rattle.std.specs.Fmt.{decimal, digits}
use Rattle.std.specs.List.{concat, range_with_len}
use Rattle.std.proofs.Common.{refl}
use Rattle.sha2.specs.Sha256.{sha256, digest_bytes, hash_after, compress, rounds, schedule, first_words}
use Rattle.sd_base.specs.Cutting.{chunks_of, next_cut, cuts_within}
use Rattle.sd_base.specs.Examples.{small_params}
use Rattle.sd_base.specs.OnePass.{one_pass, refusal, success}
use Rattle.sd_base.specs.Records.{ingest_body, spelling_of}
use Rattle.sd_base.specs.References.{references_in_state}
use Rattle.sd_base.specs.Rows.{reference_rows_of_state, rows_of_state}
use Rattle.sd_base.specs.Settings.{settings_of}
use Rattle.sd_base.specs.States.{ingested, dropped, State, stored_chunks, live_sessions}
use Rattle.sd_base.specs.Stores.{records_of, files_of}
use Rattle.sd_base.specs.Texts.{dropped_text, ingested_text, list_text, printed_name, ready_text}
use Rattle.sd_base.specs.declared.limits.TheConstants.{COMMIT_BYTE, MAX_GENERATION, OPEN_HEAD_LEN, SETTINGS_LEN}
use Rattle.sd_base.specs.declared.outcome.Outcome.TheVariants.{BadWords, BadParams, NoStore, StoreThere, NameTaken, NoSession, TooManySessions}
use Rattle.sd_base.specs.declared.params.BadParams.TheVariants.{Max}
use Rattle.sd_base.specs.declared.record.Record.TheVariants.{Ingest}
use Rattle.sd_base.specs.declared.words.BadKind.TheVariants.{Name as NoName}
use Rattle.sd_base.specs.declared.file.File.TheVariants.{Head, Seal, Book, Container}

abbrev pub zeros_cut : List (List ℕ)
zeros_cut = replicate 64 0 ∷ replicate 64 0 ∷ replicate 64 0 ∷ replicate 8 0 ∷ []

pub chunks_of-200_zeros : chunks_of (small_params 0) (replicate 200 0) ≡ zeros_cut
unfolding count_leading_zeros next_cut cuts_within
chunks_of-200_zeros = refl

abbrev pub twice : State
twice = record {
  params = small_params 0;
  generation = 0;
  events = ingested (codes "a") zeros_cut ∷ ingested (codes "b") zeros_cut ∷ [];
}

-- each chunk is stored once
pub stored_chunks-twice : stored_chunks twice ≡ replicate 64 0 ∷ replicate 8 0 ∷ []
stored_chunks-twice = refl

-- the settings, byte for byte, and the whole head
pub settings_of-small : settings_of (small_params 0) ≡
    0x53 ∷ 0x53 ∷ 0x43 ∷ 0x48 ∷ 1 ∷ 0 ∷ 0x0d ∷ 0 ∷ 0x80 ∷ 0 ∷ 0 ∷ 0 ∷ 0 ∷ 0 ∷ 0 ∷ 1 ∷ 0 ∷ 0 ∷ 0 ∷ 0 ∷ 0 ∷ 0 ∷ 0 ∷ 0x40 ∷ 0 ∷ 0 ∷ 1
    ∷ 0 ∷ 0 ∷ 0 ∷ 0 ∷ 0 ∷ []
settings_of-small = refl

pub head-small : files_of sha256 twice Head ≡ settings_of (small_params 0) ++ 0x53 ∷ []
head-small = refl

-- the lengths of the records of `a` and `b`: each new chunk takes 36 bytes and each place 4
pub lengths-of_the_records : map (λ entry. length (spelling_of entry)) (records_of sha256 twice) ≡ 139 ∷ 67 ∷ []
unfolding spelling_of ingest_body sha256 digest_bytes hash_after compress rounds schedule first_words
lengths-of_the_records = refl

-- the second session has no new chunk, and names those of the first
pub record-of_b : drop 1 (records_of sha256 twice) ≡ Ingest (record { name = codes "b"; length = 200; fresh = []; recipe = 0 ∷ 0 ∷ 0 ∷ 1 ∷ [] }) ∷ []
record-of_b = refl

-- the sizes of the files
pub size-of_the_book : length (files_of sha256 twice (Book 0)) ≡ 206
unfolding spelling_of ingest_body sha256 digest_bytes hash_after compress rounds schedule first_words
size-of_the_book = refl

pub size-of_the_seal : length (files_of sha256 twice (Seal 0)) ≡ 2
size-of_the_seal = refl

pub size-of_the_container : length (files_of sha256 twice (Container 0 0)) ≡ 80
size-of_the_container = refl

pub size-of_no_second_container : length (files_of sha256 twice (Container 0 1)) ≡ 0
size-of_no_second_container = refl

-- the texts
pub text-ready : ready_text ≡ codes "ready" ++ 10 ∷ []
text-ready = refl

pub text-ingested : ingested_text (codes "b") 200 4 0 ≡ codes "ingested b 200 bytes 4 places 0 new" ++ 10 ∷ []
unfolding digits
text-ingested = refl

pub text-list : list_text (rows_of_state twice) ≡ codes "0 a 200 4" ++ 10 ∷ codes "1 b 200 4" ++ 10 ∷ []
unfolding digits
text-list = refl

-- a dropped session is shown no more, and the numbers of the others stay
abbrev pub once_dropped : State
once_dropped = record {
  params = small_params 0;
  generation = 0;
  events = ingested (codes "a") zeros_cut ∷ ingested (codes "b") zeros_cut ∷ dropped 0 ∷ [];
}

pub text-list_after_a_drop : list_text (rows_of_state once_dropped) ≡ codes "1 b 200 4" ++ 10 ∷ []
unfolding digits
text-list_after_a_drop = refl

pub live_sessions-after_a_drop : live_sessions once_dropped ≡ 1 ∷ []
live_sessions-after_a_drop = refl

pub stored_chunks-after_a_drop : stored_chunks once_dropped ≡ replicate 64 0 ∷ replicate 8 0 ∷ []
stored_chunks-after_a_drop = refl

-- the reference counts: each of `a` and `b` has the first chunk at three places and the second at
-- one
pub reference_rows-twice : reference_rows_of_state twice ≡
    record { number = 0; count = 6; length = 64; name = sha256 (replicate 64 0) }
    ∷ record { number = 1; count = 2; length = 8; name = sha256 (replicate 8 0) } ∷ []
reference_rows-twice = refl

pub reference_rows-after_a_drop : reference_rows_of_state once_dropped ≡
    record { number = 0; count = 3; length = 64; name = sha256 (replicate 64 0) }
    ∷ record { number = 1; count = 1; length = 8; name = sha256 (replicate 8 0) } ∷ []
reference_rows-after_a_drop = refl

-- a chunk that no live session names stays, with the count 0
abbrev pub twice_dropped : State
twice_dropped = record {
  params = small_params 0;
  generation = 0;
  events = ingested (codes "a") zeros_cut ∷ ingested (codes "b") zeros_cut ∷ dropped 0 ∷ dropped 1 ∷ [];
}

pub reference_rows-after_both_drops : reference_rows_of_state twice_dropped ≡
    record { number = 0; count = 0; length = 64; name = sha256 (replicate 64 0) }
    ∷ record { number = 1; count = 0; length = 8; name = sha256 (replicate 8 0) } ∷ []
reference_rows-after_both_drops = refl

pub references-of_no_chunk : references_in_state twice 2 ≡ None
references-of_no_chunk = refl

pub text-dropped : dropped_text (codes "a") 4 ≡ codes "dropped a 4 places" ++ 10 ∷ []
unfolding digits
text-dropped = refl

-- the constants of the head
pub MAX_GENERATION-is : MAX_GENERATION ≡ 65535
MAX_GENERATION-is = refl

pub SETTINGS_LEN-is : SETTINGS_LEN ≡ length (settings_of (small_params 0))
SETTINGS_LEN-is = refl

pub OPEN_HEAD_LEN-is : OPEN_HEAD_LEN ≡ 33
OPEN_HEAD_LEN-is = refl

pub COMMIT_BYTE-is : COMMIT_BYTE ≡ 0x53
COMMIT_BYTE-is = refl

-- the run that makes the store
abbrev pub init_words : List (List ℕ)
init_words =
    codes "init" ∷ codes "polynomial=8000000000000001" ∷ codes "bits=13" ∷ codes "target=0" ∷ codes "min=64"
    ∷ codes "max=256" ∷ []

abbrev pub no_sessions : State
no_sessions = record { params = small_params 0; generation = 0; events = [] }

pub one_pass-init : one_pass init_words None [] ≡ success (Some no_sessions) (codes "ready" ++ 10 ∷ [])
one_pass-init = refl

-- if there is a store, it stays as it is
pub one_pass-init_again : one_pass init_words (Some twice) [] ≡ refusal (Some twice) StoreThere
one_pass-init_again = refl

-- bad parameters are refused before the store is looked at
pub one_pass-init_bad_parameters_first :
    one_pass (codes "init" ∷ codes "min=4096" ∷ codes "max=2048" ∷ []) (Some twice) [] ≡ refusal (Some twice) (BadParams Max)
one_pass-init_bad_parameters_first = refl

-- 200 zeros are taken in as `a`: of four chunks two are new
abbrev pub once : State
once = record { params = small_params 0; generation = 0; events = ingested (codes "a") zeros_cut ∷ [] }

pub one_pass-ingest_a :
    one_pass (codes "ingest" ∷ codes "a" ∷ []) (Some no_sessions) (replicate 200 0)
    ≡ success (Some once) (codes "ingested a 200 bytes 4 places 2 new" ++ 10 ∷ [])
unfolding count_leading_zeros next_cut cuts_within digits
one_pass-ingest_a = refl

-- and once more as `b`: no chunk is new
pub one_pass-ingest_b :
    one_pass (codes "ingest" ∷ codes "b" ∷ []) (Some once) (replicate 200 0)
    ≡ success (Some twice) (codes "ingested b 200 bytes 4 places 0 new" ++ 10 ∷ [])
unfolding count_leading_zeros next_cut cuts_within digits
one_pass-ingest_b = refl

pub one_pass-list :
    one_pass (codes "list" ∷ []) (Some twice) []
    ≡ success (Some twice) (codes "0 a 200 4" ++ 10 ∷ codes "1 b 200 4" ++ 10 ∷ [])
unfolding digits
one_pass-list = refl

pub one_pass-restore : one_pass (codes "restore" ∷ codes "b" ∷ []) (Some twice) [] ≡ success (Some twice) (replicate 200 0)
one_pass-restore = refl

-- a name that is taken is refused, whatever the input
pub one_pass-name_taken :
    (input : List ℕ) → one_pass (codes "ingest" ∷ codes "b" ∷ []) (Some twice) input ≡ refusal (Some twice) NameTaken
one_pass-name_taken input = refl

-- the name of a dropped session is free, and it names no session
pub one_pass-ingest_after_a_drop :
    (one_pass (codes "ingest" ∷ codes "a" ∷ []) (Some once_dropped) (replicate 200 0)).text
    ≡ codes "ingested a 200 bytes 4 places 0 new" ++ 10 ∷ []
unfolding count_leading_zeros next_cut cuts_within digits
one_pass-ingest_after_a_drop = refl

pub one_pass-restore_after_a_drop :
    one_pass (codes "restore" ∷ codes "a" ∷ []) (Some once_dropped) [] ≡ refusal (Some once_dropped) NoSession
one_pass-restore_after_a_drop = refl

-- a drop ends the session of its name and prints its places; once more, there is no such session
pub one_pass-drop :
    one_pass (codes "drop" ∷ codes "a" ∷ []) (Some twice) [] ≡ success (Some once_dropped) (codes "dropped a 4 places" ++ 10 ∷ [])
unfolding digits
one_pass-drop = refl

pub one_pass-drop_again :
    one_pass (codes "drop" ∷ codes "a" ∷ []) (Some once_dropped) [] ≡ refusal (Some once_dropped) NoSession
one_pass-drop_again = refl

pub one_pass-drop_both :
    one_pass (codes "drop" ∷ codes "b" ∷ []) (Some once_dropped) [] ≡ success (Some twice_dropped) (codes "dropped b 4 places" ++ 10 ∷ [])
unfolding digits
one_pass-drop_both = refl

-- a line for each stored chunk
pub one_pass-refs :
    one_pass (codes "refs" ∷ []) (Some twice) []
    ≡ success (Some twice) (concat ((codes "0 6 64 " ++ printed_name (replicate 64 0) ++ 10 ∷ []) ∷ (codes "1 2 8 " ++ printed_name (replicate 8 0) ++ 10 ∷ []) ∷ []))
unfolding digits
one_pass-refs = refl

pub one_pass-refs_after_both_drops :
    one_pass (codes "refs" ∷ []) (Some twice_dropped) []
    ≡ success (Some twice_dropped) (concat ((codes "0 0 64 " ++ printed_name (replicate 64 0) ++ 10 ∷ []) ∷ (codes "1 0 8 " ++ printed_name (replicate 8 0) ++ 10 ∷ []) ∷ []))
unfolding digits
one_pass-refs_after_both_drops = refl

-- a dropped session still counts as taken in, and its chunks as stored
pub one_pass-audit_after_a_drop :
    one_pass (codes "audit" ∷ []) (Some once_dropped) []
    ≡ success (Some once_dropped) (codes "ok 1 live 2 ingested 2 chunks 1 containers" ++ 10 ∷ [])
unfolding digits
one_pass-audit_after_a_drop = refl

pub one_pass-audit_of_no_sessions :
    one_pass (codes "audit" ∷ []) (Some no_sessions) []
    ≡ success (Some no_sessions) (codes "ok 0 live 0 ingested 0 chunks 0 containers" ++ 10 ∷ [])
unfolding digits
one_pass-audit_of_no_sessions = refl

-- an empty input is a session with no chunk
abbrev pub one_empty : State
one_empty = record { params = small_params 0; generation = 0; events = ingested (codes "e") [] ∷ [] }

pub one_pass-ingest_nothing :
    one_pass (codes "ingest" ∷ codes "e" ∷ []) (Some no_sessions) []
    ≡ success (Some one_empty) (codes "ingested e 0 bytes 0 places 0 new" ++ 10 ∷ [])
unfolding cuts_within digits
one_pass-ingest_nothing = refl

pub one_pass-list_empty : one_pass (codes "list" ∷ []) (Some one_empty) [] ≡ success (Some one_empty) (codes "0 e 0 0" ++ 10 ∷ [])
unfolding digits
one_pass-list_empty = refl

pub one_pass-restore_empty : one_pass (codes "restore" ∷ codes "e" ∷ []) (Some one_empty) [] ≡ success (Some one_empty) []
one_pass-restore_empty = refl

pub one_pass-audit_empty :
    one_pass (codes "audit" ∷ []) (Some one_empty) []
    ≡ success (Some one_empty) (codes "ok 1 live 1 ingested 0 chunks 0 containers" ++ 10 ∷ [])
unfolding digits
one_pass-audit_empty = refl

-- without a store, these commands are refused, whatever the input
pub one_pass-ingest_in_no_store :
    (input : List ℕ) → one_pass (codes "ingest" ∷ codes "a" ∷ []) None input ≡ refusal None NoStore
one_pass-ingest_in_no_store input = refl

pub one_pass-list_in_no_store : one_pass (codes "list" ∷ []) None [] ≡ refusal None NoStore
one_pass-list_in_no_store = refl

pub one_pass-restore_from_no_store : one_pass (codes "restore" ∷ codes "a" ∷ []) None [] ≡ refusal None NoStore
one_pass-restore_from_no_store = refl

pub one_pass-drop_in_no_store : one_pass (codes "drop" ∷ codes "a" ∷ []) None [] ≡ refusal None NoStore
one_pass-drop_in_no_store = refl

pub one_pass-refs_in_no_store : one_pass (codes "refs" ∷ []) None [] ≡ refusal None NoStore
one_pass-refs_in_no_store = refl

pub one_pass-audit_in_no_store : one_pass (codes "audit" ∷ []) None [] ≡ refusal None NoStore
one_pass-audit_in_no_store = refl

-- bad words are refused before the store is looked at
pub one_pass-bad_name :
    one_pass (codes "ingest" ∷ codes ".x" ∷ []) None [] ≡ refusal None (BadWords (record { kind = NoName; place = 1 }))
one_pass-bad_name = refl

-- a store with 4,096 sessions, which are as many as it may have, takes in no more, whatever the
-- input
abbrev pub full : State
full = record {
  params = small_params 0;
  generation = 0;
  events = map (λ k. ingested (codes "s" ++ decimal k) []) (range_with_len 0 4096);
}

pub one_pass-ingest_in_full :
    (input : List ℕ) → one_pass (codes "ingest" ∷ codes "b" ∷ []) (Some full) input ≡ refusal (Some full) TooManySessions
unfolding digits
one_pass-ingest_in_full input = refl
