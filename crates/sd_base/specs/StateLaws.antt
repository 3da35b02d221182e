-- Laws of states and of the files that hold them, in the words of the subject.
use Rattle.std.specs.Prelude.{◌≡◌, ◌≢◌, ℕ, List, [], ◌∷◌, ◌++◌, length, map, slice_index_or, Option, Some, None, IfSome}
use Rattle.std.specs.List.{All}
use Rattle.sha2.specs.Sha256.{sha256}
use Rattle.sd_base.specs.Distinct.{is_among, distinct, new_chunks, AreDifferent}
use Rattle.sd_base.specs.Packing.{packing, container_sizes}
use Rattle.sd_base.specs.Opening.{OpenAs}
use Rattle.sd_base.specs.OnePass.{one_pass, pass_of_command, refusal, refusal_of_ingest, success}
use Rattle.sd_base.specs.References.{references_in_book, references_in_state}
use Rattle.sd_base.specs.Rows.{reference_rows_of_book, reference_rows_of_state, rows_of_book, rows_of_state}
use Rattle.sd_base.specs.StateBooks.{book_of_state}
use Rattle.sd_base.specs.States.{Event, IsLawful, State, placed_chunks, stored_chunks, recipe_of, sessions_in, followed_by_event, with_session}
use Rattle.sd_base.specs.Stores.{AreClean, GivesNames, HoldState, files_of, record_of, records_of}
use Rattle.sd_base.specs.declared.file.File.{File}
use Rattle.sd_base.specs.declared.outcome.Outcome.TheVariants.{Done}
use Rattle.sd_base.specs.declared.words.Command.TheVariants.{Quiet}
use Rattle.sd_base.specs.declared.words.Quiet.TheVariants.{Restore}

-- a chunk is among the distinct chunks of a list exactly if it is in the list
abbrev pub DistinctChunksAreThoseOfTheList : Type 0
DistinctChunksAreThoseOfTheList =
    (chunks : List (List ℕ)) (chunk : List ℕ) → is_among (distinct chunks) chunk ≡ is_among chunks chunk

-- no two of the distinct chunks are equal
abbrev pub DistinctChunksDiffer : Type 0
DistinctChunksDiffer = (chunks : List (List ℕ)) → AreDifferent (distinct chunks)

-- if chunks are added at the end of a list, its distinct chunks stay, and the new ones come after
-- them
abbrev pub DistinctChunksOnlyGrow : Type 0
DistinctChunksOnlyGrow =
    (chunks more : List (List ℕ)) → distinct (chunks ++ more) ≡ distinct chunks ++ new_chunks chunks more

-- one more event leaves the stored chunks with their numbers, and adds its new chunks after them
abbrev pub StoredChunksOnlyGrow : Type 0
StoredChunksOnlyGrow =
    (state : State) (event : Event) →
    stored_chunks (followed_by_event state event)
    ≡ stored_chunks state ++ new_chunks (placed_chunks state.events) (placed_chunks (event ∷ []))

-- one more event leaves the records as they are, and adds its record after them
abbrev pub RecordsOnlyGrow : Type 0
RecordsOnlyGrow =
    (name_of : List ℕ → List ℕ) (state : State) (event : Event) →
    records_of name_of (followed_by_event state event)
    ≡ records_of name_of state ++ record_of name_of (stored_chunks (followed_by_event state event)) (placed_chunks state.events) event ∷ []

-- chunk k of a list, or no bytes if there is none
abbrev pub chunk_at : List (List ℕ) → ℕ → List ℕ
chunk_at chunks k = slice_index_or chunks k []

-- a recipe gives back its session: the stored chunks that it names are the session's chunks
abbrev pub RecipesNameTheirChunks : Type 0
RecipesNameTheirChunks =
    (state : State) → All (λ session. map (chunk_at (stored_chunks state)) (recipe_of state session) ≡ session.chunks) (sessions_in state)

-- the sizes of containers follow from the lengths of the chunks
abbrev pub SizesFollowFromLengths : Type 0
SizesFollowFromLengths = (chunks : List (List ℕ)) → map length (packing chunks) ≡ container_sizes (map length chunks)

-- each state is held by files that have nothing else
abbrev pub EachStateHasItsFiles : Type 0
EachStateHasItsFiles = (name_of : List ℕ → List ℕ) (state : State) → AreClean name_of (files_of name_of state) (Some state)

-- the rows of `list` are the same from a state and from its book
abbrev pub RowsAreThoseOfTheBook : Type 0
RowsAreThoseOfTheBook =
    (name_of : List ℕ → List ℕ) (state : State) → rows_of_book (book_of_state name_of state) ≡ rows_of_state state

-- the reference counts are the same from a state and from its book
abbrev pub ReferencesAreThoseOfTheBook : Type 0
ReferencesAreThoseOfTheBook =
    (name_of : List ℕ → List ℕ) (state : State) (i : ℕ) →
    references_in_book (book_of_state name_of state).sessions i ≡ references_in_state state i

-- the rows of `refs` are the same from a state and from its book
abbrev pub ReferenceRowsAreThoseOfTheBook : Type 0
ReferenceRowsAreThoseOfTheBook =
    (state : State) → reference_rows_of_book (book_of_state sha256 state) ≡ reference_rows_of_state state

-- files that hold a lawful state open as its book
abbrev pub HeldStatesOpen : Type 0
HeldStatesOpen =
    (name_of : List ℕ → List ℕ) (files : File → List ℕ) (state : State) →
    GivesNames name_of → IsLawful state → HoldState name_of files state →
    OpenAs files (record { head = record { params = state.params; generation = state.generation }; book = book_of_state name_of state })

-- a run leads from a lawful state, or from no store, to a lawful state or to no store
abbrev pub RunsKeepStatesLawful : Type 0
RunsKeepStatesLawful =
    (words : List (List ℕ)) (state : Option State) (input : List ℕ) →
    IfSome state IsLawful → IfSome (one_pass words state input).after IsLawful

-- a run that is not done prints nothing and leaves the state as it is
abbrev pub RefusalsLeaveTheState : Type 0
RefusalsLeaveTheState =
    (words : List (List ℕ)) (state : Option State) (input : List ℕ) → (one_pass words state input).outcome ≢ Done →
    one_pass words state input ≡ refusal state (one_pass words state input).outcome

-- an input that was taken in is given back
abbrev pub InputsAreGivenBack : Type 0
InputsAreGivenBack =
    (state : State) (name input more : List ℕ) → IsLawful state → refusal_of_ingest state name input ≡ None →
    let after = with_session state name input in
    pass_of_command (Quiet (Restore name)) (Some after) more ≡ success (Some after) input
