-- Laws of the definitions: what follows from them, in the words of the subject.
use Rattle.std.specs.Prelude.{◌≡◌, ◌≢◌, ◌↔◌, ℕ, ◌+◌, ◌*◌, ◌^◌, ◌<◌, ◌≤◌, List, [], ◌∷◌, length, take, drop, slice_index_or, None, IfOk}
use Rattle.std.specs.List.{All, concat}
use Rattle.sd_base.specs.Commands.{AreBlocks, HasSessionName, HasNumbersInRange, HasRawParams}
use Rattle.sd_base.specs.Generator.{bulk_input}
use Rattle.sd_base.specs.Names.{IsName, bad_name}
use Rattle.sd_base.specs.Parameters.{IsValid, bad_parameter}
use Rattle.sd_base.specs.Cutting.{IsNextCut, next_cut, chunks_of}
use Rattle.sd_base.specs.Words.{command_of}
use Rattle.sd_base.specs.declared.limits.TheConstants.{BLOCK_LEN, MAX_INPUT}
use Rattle.sd_base.specs.declared.raw_params.RawParams.{RawParams}

-- from each position exactly one position is the next cut, and it is `next_cut`
abbrev pub OnePositionIsTheNextCut : Type 0
OnePositionIsTheNextCut =
    (params : RawParams) (input : List ℕ) (s cut : ℕ) →
    IsNextCut params input s cut ↔ (cut ≡ next_cut params input s)

-- an empty input has no chunks
abbrev pub AnEmptyInputHasNoChunks : Type 0
AnEmptyInputHasNoChunks = (params : RawParams) → chunks_of params [] ≡ []

-- every other input has a first chunk, and the rest is cut as if it stood alone
abbrev pub TheTailIsCutAlone : Type 0
TheTailIsCutAlone =
    (params : RawParams) (input : List ℕ) → IsValid params → input ≢ [] →
    let cut = next_cut params input 0 in
    chunks_of params input ≡ take cut input ∷ chunks_of params (drop cut input)

-- the chunks, joined in order, are the input
abbrev pub ChunksJoinToTheInput : Type 0
ChunksJoinToTheInput =
    (params : RawParams) (input : List ℕ) → IsValid params → concat (chunks_of params input) ≡ input

-- no chunk is empty or longer than the maximum
abbrev pub ChunksAreFilledAndBounded : Type 0
ChunksAreFilledAndBounded =
    (params : RawParams) (input : List ℕ) → IsValid params →
    All (λ chunk. (1 ≤ length chunk) × (length chunk ≤ params.max)) (chunks_of params input)

-- no chunk except the last is shorter than the minimum
abbrev pub ChunksReachTheMinimum : Type 0
ChunksReachTheMinimum =
    (params : RawParams) (input : List ℕ) → IsValid params →
    (i : ℕ) → i + 1 < length (chunks_of params input) →
    params.min ≤ length (slice_index_or (chunks_of params input) i [])

-- numbers with a polynomial of at most 64 bits are valid if and only if none is out of its range
abbrev pub RangesAreTheRefusals : Type 0
RangesAreTheRefusals =
    (raw : RawParams) → raw.polynomial < 2 ^ 64 → IsValid raw ↔ (bad_parameter raw ≡ None)

-- bytes are a name of a session if and only if nothing is wrong with them
abbrev pub NamesAreTheRefusals : Type 0
NamesAreTheRefusals = (bytes : List ℕ) → IsName bytes ↔ (bad_name bytes ≡ None)

-- the input of `bulk` has 65,536 bytes for each block
abbrev pub BulkInputsHaveTheirLength : Type 0
BulkInputsHaveTheirLength = (seed blocks : ℕ) → length (bulk_input seed blocks) ≡ BLOCK_LEN * blocks

-- no input of `bulk` is too long
abbrev pub BulkInputsAreNotTooLong : Type 0
BulkInputsAreNotTooLong = (seed blocks : ℕ) → AreBlocks blocks → length (bulk_input seed blocks) ≤ MAX_INPUT

-- the numbers with which a command is carried out are in their ranges, if words name the command
abbrev pub WordsGiveNumbersInRange : Type 0
WordsGiveNumbersInRange = (words : List (List ℕ)) → IfOk (command_of words) HasNumbersInRange

-- the name in a command is that of a session, if words name the command
abbrev pub WordsGiveNames : Type 0
WordsGiveNames = (words : List (List ℕ)) → IfOk (command_of words) HasSessionName

-- the parameters of a command fit a `RawParams`, if words name the command
abbrev pub WordsGiveRawParams : Type 0
WordsGiveRawParams = (words : List (List ℕ)) → IfOk (command_of words) HasRawParams
