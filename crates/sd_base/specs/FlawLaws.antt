-- Laws of what an audit finds, in the words of the subject.
use Rattle.std.specs.Prelude.{◌≡◌, ◌↔◌, ℕ, List, Option, None}
use Rattle.sd_base.specs.Audits.{counts_of_book, counts_of_state}
use Rattle.sd_base.specs.Flaws.{IsFlawOf}
use Rattle.sd_base.specs.Opening.{OpenAs, Opened}
use Rattle.sd_base.specs.StateBooks.{book_of_state}
use Rattle.sd_base.specs.States.{IsLawful, State}
use Rattle.sd_base.specs.Stores.{GivesNames, HoldState}
use Rattle.sd_base.specs.declared.damage.Damage.{Damage}
use Rattle.sd_base.specs.declared.file.File.{File}

-- what the files of a state open as
abbrev pub opened_of : (List ℕ → List ℕ) → State → Opened
opened_of name_of state =
    record { head = record { params = state.params; generation = state.generation }; book = book_of_state name_of state }

-- files open and have no flaw exactly if they hold a lawful state
abbrev pub FlawlessFilesAreThoseOfLawfulStates : Type 0
FlawlessFilesAreThoseOfLawfulStates =
    (name_of : List ℕ → List ℕ) (files : File → List ℕ) → GivesNames name_of →
    ((opened : Opened) × OpenAs files opened × IsFlawOf name_of files opened None)
    ↔ ((state : State) × IsLawful state × HoldState name_of files state)

-- files that hold a lawful state have no flaw
abbrev pub HeldStatesHaveNoFlaw : Type 0
HeldStatesHaveNoFlaw =
    (name_of : List ℕ → List ℕ) (files : File → List ℕ) (state : State) →
    IsLawful state → HoldState name_of files state → IsFlawOf name_of files (opened_of name_of state) None

-- files that open and have no flaw hold a lawful state, and open as its files do
abbrev pub FlawlessFilesHoldAState : Type 0
FlawlessFilesHoldAState =
    (name_of : List ℕ → List ℕ) (files : File → List ℕ) (opened : Opened) →
    OpenAs files opened → IsFlawOf name_of files opened None →
    (state : State) × IsLawful state × HoldState name_of files state × (opened ≡ opened_of name_of state)

-- files that open have a first flaw, or none
abbrev pub FilesThatOpenHaveAFlawOrNone : Type 0
FilesThatOpenHaveAFlawOrNone =
    (name_of : List ℕ → List ℕ) (files : File → List ℕ) (opened : Opened) →
    OpenAs files opened → (flaw : Option Damage) × IsFlawOf name_of files opened flaw

-- files that open so have one first flaw, or none
abbrev pub FilesHaveOneFirstFlaw : Type 0
FilesHaveOneFirstFlaw =
    (name_of : List ℕ → List ℕ) (files : File → List ℕ) (opened : Opened) (first second : Option Damage) →
    IsFlawOf name_of files opened first → IsFlawOf name_of files opened second → first ≡ second

-- the counts are the same from a state and from its book
abbrev pub CountsAreThoseOfTheBook : Type 0
CountsAreThoseOfTheBook =
    (name_of : List ℕ → List ℕ) (state : State) → counts_of_book (book_of_state name_of state) ≡ counts_of_state state
