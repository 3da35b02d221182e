-- Reading a book record by record.
use Rattle.std.specs.Prelude.{◌≡◌, ℕ, List, [], ◌++◌, length, Option, Some, None, Result, Ok, Err}
use Rattle.sd_base.specs.Records.{spelling_of, IsRecord, BeginsWith}
use Rattle.sd_base.specs.Books.{BookState, MayFollow, AreRecords, book_of, book_after, with_record, IsReplay, IsRecordDamage, IsBookDamage}
use Rattle.sd_base.specs.declared.record.Record.{Record}
use Rattle.session_book.specs.declared.replay.BookFault.{BookFault}
use Rattle.session_book.specs.declared.replay.BookFault.TheVariants.{Damaged, OutOfMemory}

-- a fact that is said of a damage alone
abbrev pub IfDamaged : BookFault → Type 0 → Type 0
IfDamaged (Damaged damage) P = P
IfDamaged OutOfMemory P = Unit {0}

-- a fact that is said unless memory ran out
abbrev pub UnlessOutOfMemory : Result BookState BookFault → Type 0 → Type 0
UnlessOutOfMemory (Ok book) P = P
UnlessOutOfMemory (Err fault) P = IfDamaged fault P

-- a record stands at the front of bytes and may follow those of a book: the new book has it
pub record IsNext (old new : BookState) (bytes rest : List ℕ) : Type 0 where
  pub entry : Record
  pub lawful : IsRecord entry
  pub follows : MayFollow old.max old.sessions entry
  pub spelled : bytes ≡ spelling_of entry ++ rest
  pub added : new ≡ with_record old entry

-- no record stands there that may follow
abbrev pub HasNoNext : BookState → List ℕ → Type 0
HasNoNext book bytes = (entry : Record) (n : ℕ) → BeginsWith bytes entry n → MayFollow book.max book.sessions entry → ⊥

-- what reading one more record does: nothing, or the new book and the bytes after the record
abbrev pub TakesRecord : BookState → BookState → List ℕ → Option (List ℕ) → Type 0
TakesRecord old new bytes None = HasNoNext old bytes
TakesRecord old new bytes (Some rest) = IsNext old new bytes rest

-- the book of the first k records, and the bytes after them
pub record HasRead (max : ℕ) (bytes rest : List ℕ) (k : ℕ) (book : BookState) : Type 0 where
  pub records : List Record
  pub count : length records ≡ k
  pub lawful : AreRecords max [] records
  pub spelled : bytes ≡ book_of records ++ rest
  pub equals : book ≡ book_after max records

abbrev pub IsBadRecord : ℕ → List ℕ → ℕ → BookFault → Type 0
IsBadRecord max bytes n (Damaged damage) = IsRecordDamage max bytes n damage
IsBadRecord max bytes n OutOfMemory = Unit {0}

-- what reading n records returns, whatever their recipes
abbrev pub ReadsRecords : ℕ → List ℕ → ℕ → Result BookState BookFault → Type 0
ReadsRecords max bytes n (Ok book) = (rest : List ℕ) × HasRead max bytes rest n book
ReadsRecords max bytes n (Err fault) = IsBadRecord max bytes n fault

abbrev pub IsFault : ℕ → List ℕ → ℕ → BookFault → Type 0
IsFault max bytes n (Damaged damage) = IsBookDamage max bytes n damage
IsFault max bytes n OutOfMemory = Unit {0}

-- what a replay returns
abbrev pub Replays : ℕ → List ℕ → ℕ → Result BookState BookFault → Type 0
Replays max bytes n (Ok book) = IsReplay max bytes n book
Replays max bytes n (Err fault) = IsFault max bytes n fault
