-- The status of an outcome, and the note that the program writes to standard error. All rules here
-- are this project's own.
use Rattle.std.specs.Prelude.{ℕ, List, [], ◌∷◌, ◌++◌, codes}
use Rattle.std.specs.Fmt.{decimal}
use Rattle.hex.specs.Hex.{encode_lower}
use Rattle.sd_base.specs.declared.damage.Damage.{Damage}
use Rattle.sd_base.specs.declared.damage.Damage.TheVariants.{Head, Record, Recipe, Container, Mark, Chunk, Twin, Order, Cut}
use Rattle.sd_base.specs.declared.params.BadParams.{BadParams as BadParameter}
use Rattle.sd_base.specs.declared.params.BadParams.TheVariants as number
use Rattle.sd_base.specs.declared.words.BadKind.{BadKind}
use Rattle.sd_base.specs.declared.words.BadKind.TheVariants.{Missing, Command, Name, Number, Key, Twice, Value}
use Rattle.sd_base.specs.declared.words.BadWords.{BadWords as Refusal}
use Rattle.sd_base.specs.declared.outcome.Outcome.{Outcome}
use Rattle.sd_base.specs.declared.outcome.Outcome.TheVariants.{Done, BadWords, BadParams, NoStore, StoreThere, NameTaken, NoSession, Damaged, InputTooLong, TooManySessions, TooManyPlaces, TooManyChunks, SourceFault, SinkFault, ShelfFault, OutOfMemory}

-- the status with which the program ends
abbrev pub status : Outcome → ℕ
status Done = 0
status (BadWords bad) = 2
status (BadParams kind) = 14
status NoStore = 3
status StoreThere = 4
status NameTaken = 5
status NoSession = 6
status (Damaged damage) = 7
status InputTooLong = 8
status TooManySessions = 9
status TooManyPlaces = 9
status TooManyChunks = 9
status SourceFault = 10
status SinkFault = 11
status ShelfFault = 12
status OutOfMemory = 13

-- what is wrong with a word
abbrev pub kind_text : BadKind → List ℕ
kind_text Missing = codes "missing"
kind_text Command = codes "command"
kind_text Name = codes "name"
kind_text Number = codes "number"
kind_text Key = codes "key"
kind_text Twice = codes "twice"
kind_text Value = codes "value"

-- what is wrong with the words
abbrev pub bad_words_text : Refusal → List ℕ
bad_words_text bad = codes "bad words at " ++ decimal bad.place ++ codes ": " ++ kind_text bad.kind

-- which parameter is out of its range
abbrev pub parameter_text : BadParameter → List ℕ
parameter_text number.Polynomial = codes "polynomial"
parameter_text number.Bits = codes "bits"
parameter_text number.Target = codes "target"
parameter_text number.Min = codes "min"
parameter_text number.Max = codes "max"

-- what is damaged
abbrev pub damage_text : Damage → List ℕ
damage_text Head = codes "head"
damage_text (Record number) = codes "record " ++ decimal number
damage_text (Recipe session place) = codes "recipe " ++ decimal session ++ 32 ∷ [] ++ decimal place
damage_text (Container number needed found) =
    codes "container " ++ decimal number ++ codes " needs " ++ decimal needed ++ codes " has " ++ decimal found
damage_text (Mark number found) = codes "mark " ++ decimal number
damage_text (Chunk number kept found) =
    codes "chunk " ++ decimal number ++ codes " kept " ++ encode_lower kept ++ codes " found " ++ encode_lower found
damage_text (Twin first second) = codes "twin " ++ decimal first ++ 32 ∷ [] ++ decimal second
damage_text (Order session place) = codes "order " ++ decimal session ++ 32 ∷ [] ++ decimal place
damage_text (Cut session place) = codes "cut " ++ decimal session ++ 32 ∷ [] ++ decimal place

-- a text as a line of standard error
abbrev pub note_line : List ℕ → List ℕ
note_line text = codes "backup: " ++ text ++ 10 ∷ []

-- the note of an outcome
abbrev pub note : Outcome → List ℕ
note Done = []
note (BadWords bad) = note_line (bad_words_text bad)
note (BadParams kind) = note_line (codes "bad parameter: " ++ parameter_text kind)
note NoStore = note_line (codes "no store")
note StoreThere = note_line (codes "store already there")
note NameTaken = note_line (codes "name taken")
note NoSession = note_line (codes "no such session")
note (Damaged damage) = note_line (codes "damaged " ++ damage_text damage)
note InputTooLong = note_line (codes "input too long")
note TooManySessions = note_line (codes "too many sessions")
note TooManyPlaces = note_line (codes "too many places")
note TooManyChunks = note_line (codes "too many chunks")
note SourceFault = note_line (codes "reading failed")
note SinkFault = note_line (codes "writing failed")
note ShelfFault = note_line (codes "store failed")
note OutOfMemory = note_line (codes "out of memory")
