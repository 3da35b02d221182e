-- What an outcome of a run says: of the text that was written, of the store that the files hold, and
-- of what came before it. All rules here are this project's own.
use Rattle.std.specs.Prelude.{◌≡◌, ◌⊎◌, ⊤, ℕ, List, [], ◌∷◌, Option}
use Rattle.sha2.specs.Sha256.{sha256}
use Rattle.edge_traits.specs.Sink.{Appends, AppendsPrefix}
use Rattle.sd_base.specs.States.{State}
use Rattle.sd_base.specs.Stores.{Hold}
use Rattle.sd_base.specs.declared.damage.Damage.{Damage}
use Rattle.sd_base.specs.declared.file.File.{File}
use Rattle.sd_base.specs.declared.outcome.Outcome.{Outcome}
use Rattle.sd_base.specs.declared.outcome.Outcome.TheVariants.{Done, BadWords, BadParams, NoStore, StoreThere, NameTaken, NoSession, Damaged, InputTooLong, TooManySessions, TooManyPlaces, TooManyChunks, SourceFault, SinkFault, ShelfFault, OutOfMemory}
use Rattle.store_core.specs.Faults.{IsOfChunk}

-- A run may end so: with the fault of a device, out of memory, or otherwise as the definition
-- expects.
abbrev pub EndsAs : Outcome → Outcome → Type 0
EndsAs expected SourceFault = ⊤
EndsAs expected SinkFault = ⊤
EndsAs expected ShelfFault = ⊤
EndsAs expected OutOfMemory = ⊤
EndsAs expected Done = Done ≡ expected
EndsAs expected (BadWords bad) = BadWords bad ≡ expected
EndsAs expected (BadParams kind) = BadParams kind ≡ expected
EndsAs expected NoStore = NoStore ≡ expected
EndsAs expected StoreThere = StoreThere ≡ expected
EndsAs expected NameTaken = NameTaken ≡ expected
EndsAs expected NoSession = NoSession ≡ expected
EndsAs expected (Damaged flaw) = Damaged flaw ≡ expected
EndsAs expected InputTooLong = InputTooLong ≡ expected
EndsAs expected TooManySessions = TooManySessions ≡ expected
EndsAs expected TooManyPlaces = TooManyPlaces ≡ expected
EndsAs expected TooManyChunks = TooManyChunks ≡ expected

-- On Done the whole text was written. After a failed write, a failed call on the store's files or
-- out of memory a prefix of it was written, and otherwise nothing.
abbrev pub Writes : Outcome → List ℕ → Option (List ℕ) → Option (List ℕ) → Type 0
Writes Done text before after = Appends before after text
Writes SinkFault text before after = AppendsPrefix before after text
Writes ShelfFault text before after = AppendsPrefix before after text
Writes OutOfMemory text before after = AppendsPrefix before after text
Writes (BadWords bad) text before after = after ≡ before
Writes (BadParams kind) text before after = after ≡ before
Writes NoStore text before after = after ≡ before
Writes StoreThere text before after = after ≡ before
Writes NameTaken text before after = after ≡ before
Writes NoSession text before after = after ≡ before
Writes (Damaged flaw) text before after = after ≡ before
Writes InputTooLong text before after = after ≡ before
Writes TooManySessions text before after = after ≡ before
Writes TooManyPlaces text before after = after ≡ before
Writes TooManyChunks text before after = after ≡ before
Writes SourceFault text before after = after ≡ before

-- The store in which a run leaves the files: the one after on Done and after a failed write, one of
-- both after a failed call on the files and out of memory, and otherwise the one before.
abbrev pub LeavesStore : Outcome → Option State → Option State → (File → List ℕ) → Type 0
LeavesStore Done before after files = Hold sha256 files after
LeavesStore SinkFault before after files = Hold sha256 files after
LeavesStore ShelfFault before after files = Hold sha256 files before ⊎ Hold sha256 files after
LeavesStore OutOfMemory before after files = Hold sha256 files before ⊎ Hold sha256 files after
LeavesStore (BadWords bad) before after files = Hold sha256 files before
LeavesStore (BadParams kind) before after files = Hold sha256 files before
LeavesStore NoStore before after files = Hold sha256 files before
LeavesStore StoreThere before after files = Hold sha256 files before
LeavesStore NameTaken before after files = Hold sha256 files before
LeavesStore NoSession before after files = Hold sha256 files before
LeavesStore (Damaged flaw) before after files = Hold sha256 files before
LeavesStore InputTooLong before after files = Hold sha256 files before
LeavesStore TooManySessions before after files = Hold sha256 files before
LeavesStore TooManyPlaces before after files = Hold sha256 files before
LeavesStore TooManyChunks before after files = Hold sha256 files before
LeavesStore SourceFault before after files = Hold sha256 files before

-- the outcome is one of these
abbrev pub IsOneOf : List Outcome → Outcome → Type 0
IsOneOf [] outcome = ⊥
IsOneOf (first ∷ others) outcome = (outcome ≡ first) ⊎ IsOneOf others outcome

-- a damage of this kind was found
abbrev pub IsDamage : (Damage → Type 0) → Outcome → Type 0
IsDamage IsKind outcome = (flaw : Damage) × IsKind flaw × (outcome ≡ Damaged flaw)

-- the shelf failed, or memory ran out
abbrev pub IsBroken : Outcome → Type 0
IsBroken outcome = (outcome ≡ ShelfFault) ⊎ (outcome ≡ OutOfMemory)

-- a refusal that is decided before any device is called
abbrev pub IsEarly : Outcome → Type 0
IsEarly (BadWords bad) = ⊤
IsEarly (BadParams kind) = ⊤
IsEarly Done = ⊥
IsEarly NoStore = ⊥
IsEarly StoreThere = ⊥
IsEarly NameTaken = ⊥
IsEarly NoSession = ⊥
IsEarly (Damaged flaw) = ⊥
IsEarly InputTooLong = ⊥
IsEarly TooManySessions = ⊥
IsEarly TooManyPlaces = ⊥
IsEarly TooManyChunks = ⊥
IsEarly SourceFault = ⊥
IsEarly SinkFault = ⊥
IsEarly ShelfFault = ⊥
IsEarly OutOfMemory = ⊥

-- an outcome of a run that writes nothing, whatever its command
abbrev pub IsSilent : Outcome → Type 0
IsSilent (BadWords bad) = ⊤
IsSilent (BadParams kind) = ⊤
IsSilent NoStore = ⊤
IsSilent StoreThere = ⊤
IsSilent NameTaken = ⊤
IsSilent NoSession = ⊤
IsSilent InputTooLong = ⊤
IsSilent TooManySessions = ⊤
IsSilent TooManyPlaces = ⊤
IsSilent TooManyChunks = ⊤
IsSilent SourceFault = ⊤
IsSilent Done = ⊥
IsSilent (Damaged flaw) = ⊥
IsSilent SinkFault = ⊥
IsSilent ShelfFault = ⊥
IsSilent OutOfMemory = ⊥

-- a run was broken off in the store: a call on its files failed, or they are damaged
abbrev pub IsBrokenOff : Outcome → Type 0
IsBrokenOff (Damaged flaw) = ⊤
IsBrokenOff ShelfFault = ⊤
IsBrokenOff Done = ⊥
IsBrokenOff (BadWords bad) = ⊥
IsBrokenOff (BadParams kind) = ⊥
IsBrokenOff NoStore = ⊥
IsBrokenOff StoreThere = ⊥
IsBrokenOff NameTaken = ⊥
IsBrokenOff NoSession = ⊥
IsBrokenOff InputTooLong = ⊥
IsBrokenOff TooManySessions = ⊥
IsBrokenOff TooManyPlaces = ⊥
IsBrokenOff TooManyChunks = ⊥
IsBrokenOff SourceFault = ⊥
IsBrokenOff SinkFault = ⊥
IsBrokenOff OutOfMemory = ⊥

-- an outcome that comes only after the input was read to its end, if the command reads one
abbrev pub IsAfterReading : Outcome → Type 0
IsAfterReading Done = ⊤
IsAfterReading TooManyPlaces = ⊤
IsAfterReading TooManyChunks = ⊤
IsAfterReading SinkFault = ⊤
IsAfterReading (BadWords bad) = ⊥
IsAfterReading (BadParams kind) = ⊥
IsAfterReading NoStore = ⊥
IsAfterReading StoreThere = ⊥
IsAfterReading NameTaken = ⊥
IsAfterReading NoSession = ⊥
IsAfterReading (Damaged flaw) = ⊥
IsAfterReading InputTooLong = ⊥
IsAfterReading TooManySessions = ⊥
IsAfterReading SourceFault = ⊥
IsAfterReading ShelfFault = ⊥
IsAfterReading OutOfMemory = ⊥

-- A refusal of an ingest before its input is read, or of `bulk` before it is made. A damage that is
-- not that of a chunk is found when the store is opened.
abbrev pub IsBeforeReading : Outcome → Type 0
IsBeforeReading NoStore = ⊤
IsBeforeReading NameTaken = ⊤
IsBeforeReading TooManySessions = ⊤
IsBeforeReading (Damaged flaw) = IsOfChunk flaw → ⊥
IsBeforeReading Done = ⊥
IsBeforeReading (BadWords bad) = ⊥
IsBeforeReading (BadParams kind) = ⊥
IsBeforeReading StoreThere = ⊥
IsBeforeReading NoSession = ⊥
IsBeforeReading InputTooLong = ⊥
IsBeforeReading TooManyPlaces = ⊥
IsBeforeReading TooManyChunks = ⊥
IsBeforeReading SourceFault = ⊥
IsBeforeReading SinkFault = ⊥
IsBeforeReading ShelfFault = ⊥
IsBeforeReading OutOfMemory = ⊥
