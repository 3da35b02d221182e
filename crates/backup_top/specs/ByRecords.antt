-- What a run over files that open does by their committed records, whether or not the files hold a
-- lawful state. All rules here are this project's own.
use Rattle.std.specs.List.{slice_get}
use Rattle.std.specs.Option.{option_and_then}
use Rattle.std.specs.Prelude.{◌≡◌, ◌⊎◌, ⊤, ℕ, List, [], ◌∷◌, length, true, Option, None, option_map, IfSome, Result, Ok, Err}
use Rattle.sha2.specs.Sha256.{sha256}
use Rattle.ingest_core.specs.ByBook.{refusal_by_book}
use Rattle.sd_base.specs.Audits.{audit_text, counts_of_book}
use Rattle.sd_base.specs.Books.{live_session}
use Rattle.sd_base.specs.Generator.{bulk_input, bulk_name}
use Rattle.sd_base.specs.Opening.{Opened}
use Rattle.sd_base.specs.Rows.{reference_rows_of_book, rows_of_book}
use Rattle.sd_base.specs.Texts.{dropped_text, list_text, refs_text}
use Rattle.sd_base.specs.declared.damage.Damage.{Damage}
use Rattle.sd_base.specs.declared.file.File.{File}
use Rattle.sd_base.specs.declared.record.Session.{Session}
use Rattle.sd_base.specs.declared.words.BadWords.{BadWords as Refusal}
use Rattle.sd_base.specs.declared.words.Command.{Command}
use Rattle.sd_base.specs.declared.words.Command.TheVariants.{Quiet as quiet, Ingest, Bulk}
use Rattle.sd_base.specs.declared.words.Quiet.TheVariants.{Plan, Init, List as ListSessions, Restore, Drop, Refs, Audit}
use Rattle.sd_base.specs.declared.outcome.Outcome.{Outcome}
use Rattle.sd_base.specs.declared.outcome.Outcome.TheVariants.{Done, NoSession, Damaged, SinkFault, OutOfMemory, ShelfFault, SourceFault, TooManyChunks}
use Rattle.store_core.specs.Faults.{IsOfChunk}
use Rattle.store_core.specs.Restores.{FindsDamage, RestoresAll, RestoresPart, recipe_named}
use Rattle.store_core.specs.StoreStates.{StoreState}
use Rattle.backup_top.specs.Outcomes.{EndsAs, IsBroken, IsDamage, IsOneOf, Writes}

-- the store that files open as, with nothing offered
abbrev pub store_of : Opened → StoreState
store_of opened = record { opened = opened; offered = []; sound = true }

-- `list` is done, unless a device failed or memory ran out. Its text is that of the records.
pub record ListsRecords (opened : Opened) (outcome : Outcome) (before after : Option (List ℕ)) : Type 0 where
  pub answer : EndsAs Done outcome
  pub written : Writes outcome (list_text (rows_of_book opened.book)) before after

-- `refs` is done, unless a device failed or memory ran out. Its text is that of the records.
pub record CountsRecords (opened : Opened) (outcome : Outcome) (before after : Option (List ℕ)) : Type 0 where
  pub answer : EndsAs Done outcome
  pub written : Writes outcome (refs_text (reference_rows_of_book opened.book)) before after

-- the number of places of the live session of a name, if there is one
abbrev pub places_named : List Session → List ℕ → Option ℕ
places_named sessions name =
    option_map (λ session. length session.entry.recipe) (option_and_then (slice_get sessions) (live_session sessions name))

-- `drop` of a name.
pub record DropsRecords (opened : Opened) (name : List ℕ) (outcome : Outcome) (before after : Option (List ℕ)) : Type 0 where
  -- It finds no session exactly if no live session of the records has the name, unless the shelf
  -- failed or memory ran out.
  pub no_session : outcome ≡ NoSession → live_session opened.book.sessions name ≡ None
  pub absent : live_session opened.book.sessions name ≡ None → IsBroken outcome ⊎ (outcome ≡ NoSession)
  -- Otherwise it is done, unless a device failed or memory ran out. Its text has the number of places
  -- that the records give the session.
  pub found : IfSome (places_named opened.book.sessions name) (λ places.
      EndsAs Done outcome × Writes outcome (dropped_text name places) before after)

-- `restore` of a name.
pub record RestoresRecords (files : File → List ℕ) (opened : Opened) (name : List ℕ) (outcome : Outcome)
    (before after : Option (List ℕ)) : Type 0 where
  -- It finds no session exactly if no live session of the records has the name, unless the shelf
  -- failed or memory ran out.
  pub no_session : outcome ≡ NoSession → live_session opened.book.sessions name ≡ None
  pub absent : live_session opened.book.sessions name ≡ None → IsBroken outcome ⊎ (outcome ≡ NoSession)
  -- On Done each chunk has its name, as it is read, and their bytes were written.
  pub restored : outcome ≡ Done
      → RestoresAll sha256 files (store_of opened) (recipe_named (store_of opened) name) before after
  -- A damage is that of the first chunk that has not, and exactly the chunks before it were written.
  pub damaged : (flaw : Damage) → outcome ≡ Damaged flaw
      → FindsDamage sha256 files (store_of opened) (recipe_named (store_of opened) name) flaw before after
  -- Whatever the outcome, a prefix of the bytes of the first chunks was written, each of which has
  -- its name.
  pub part : RestoresPart sha256 files (store_of opened) (recipe_named (store_of opened) name) before after

-- What a run does by the records, by command. The text of `audit` has their counts; how it ends goes
-- by all the files, as `JudgesFiles` says.
abbrev pub GoesByRecords : Result Command Refusal → Outcome → (File → List ℕ) → Opened
    → Option (List ℕ) → Option (List ℕ) → Type 0
GoesByRecords (Err bad) outcome files opened before after = ⊤
GoesByRecords (Ok (quiet (Plan raw workers segment))) outcome files opened before after = ⊤
GoesByRecords (Ok (quiet (Init raw))) outcome files opened before after = ⊤
GoesByRecords (Ok (quiet ListSessions)) outcome files opened before after = ListsRecords opened outcome before after
GoesByRecords (Ok (quiet (Restore name))) outcome files opened before after =
    RestoresRecords files opened name outcome before after
GoesByRecords (Ok (quiet (Drop name))) outcome files opened before after = DropsRecords opened name outcome before after
GoesByRecords (Ok (quiet Refs)) outcome files opened before after = CountsRecords opened outcome before after
GoesByRecords (Ok (quiet Audit)) outcome files opened before after =
    Writes outcome (audit_text (counts_of_book opened.book)) before after
GoesByRecords (Ok (Ingest name how)) outcome files opened before after = ⊤
GoesByRecords (Ok (Bulk seed blocks how)) outcome files opened before after = ⊤

-- `ingest`, or `bulk`, of an input under a name.
pub record IngestsByRecords (opened : Opened) (name input : List ℕ) (outcome : Outcome) : Type 0 where
  -- It is refused as the names, the sessions and the places of the records say, unless a device
  -- failed or memory ran out.
  pub refused : IfSome (refusal_by_book opened name input) (λ refusal. EndsAs refusal outcome)
  -- Otherwise only chunks are refused: there are too many, or the bytes of a stored one are damaged,
  -- unless a device failed or memory ran out.
  pub accepted : refusal_by_book opened name input ≡ None
      → IsOneOf (Done ∷ SinkFault ∷ OutOfMemory ∷ ShelfFault ∷ TooManyChunks ∷ SourceFault ∷ []) outcome
      ⊎ IsDamage IsOfChunk outcome

-- What a run that takes an input in does by the records, by command. `bulk` makes its own.
abbrev pub TakesByRecords : Result Command Refusal → Outcome → Opened → List ℕ → Type 0
TakesByRecords (Err bad) outcome opened input = ⊤
TakesByRecords (Ok (quiet (Plan raw workers segment))) outcome opened input = ⊤
TakesByRecords (Ok (quiet (Init raw))) outcome opened input = ⊤
TakesByRecords (Ok (quiet ListSessions)) outcome opened input = ⊤
TakesByRecords (Ok (quiet (Restore name))) outcome opened input = ⊤
TakesByRecords (Ok (quiet (Drop name))) outcome opened input = ⊤
TakesByRecords (Ok (quiet Refs)) outcome opened input = ⊤
TakesByRecords (Ok (quiet Audit)) outcome opened input = ⊤
TakesByRecords (Ok (Ingest name how)) outcome opened input = IngestsByRecords opened name input outcome
TakesByRecords (Ok (Bulk seed blocks how)) outcome opened input =
    IngestsByRecords opened (bulk_name seed blocks) (bulk_input seed blocks) outcome
