-- What a drop does to a store, to its files and to the state that they hold.
use Rattle.std.specs.Prelude.{ℕ, [], List, true, Option}
use Rattle.sd_base.specs.Books.{with_record}
use Rattle.sd_base.specs.Records.{spelling_of}
use Rattle.sd_base.specs.States.{State, dropped, followed_by_event}
use Rattle.sd_base.specs.declared.file.File.{File}
use Rattle.sd_base.specs.declared.record.Record.TheVariants.{Drop}
use Rattle.store_core.specs.Commits.{CommitsRecord}
use Rattle.store_core.specs.StoreStates.{StoreState}

-- the store after a drop of session k
abbrev pub dropped_store : StoreState → ℕ → StoreState
dropped_store store k = record {
  opened = record store.opened { book = with_record store.opened.book (Drop k) };
  offered = [];
  sound = true;
}

-- the files change as a drop of session k of a store changes them
abbrev pub CommitsDrop : StoreState → ℕ → Option (File → List ℕ) → Option (File → List ℕ) → Type 0
CommitsDrop store k before after =
    CommitsRecord store.opened.head.generation store.opened.book.used (spelling_of (Drop k)) before after

-- the state after a drop of session k
abbrev pub dropped_state : State → ℕ → State
dropped_state state k = followed_by_event state (dropped k)
