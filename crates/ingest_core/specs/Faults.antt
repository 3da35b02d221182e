-- The faults of an ingest: what those of the layers below mean to it, and which outcome each is.
use Rattle.std.specs.Prelude.{◌⊎◌, ⊤}
use Rattle.edge_traits.specs.declared.source_reader.ReadFault.{ReadFault}
use Rattle.edge_traits.specs.declared.source_reader.ReadFault.TheVariants as read
use Rattle.ingest_core.specs.declared.fault.IngestFault.{IngestFault}
use Rattle.ingest_core.specs.declared.fault.IngestFault.TheVariants.{Store, SourceFault, InputTooLong}
use Rattle.sd_base.specs.declared.outcome.Outcome.{Outcome}
use Rattle.sd_base.specs.declared.outcome.Outcome.TheVariants as outcome
use Rattle.store_core.specs.Faults.{IsOfChunk, IsOfOpening}
use Rattle.store_core.specs.declared.fault.StoreFault.{StoreFault}
use Rattle.store_core.specs.declared.fault.StoreFault.TheVariants as store

-- what a fault of reading means to an ingest
abbrev pub ingest_fault_of : ReadFault → IngestFault
ingest_fault_of read.SourceFault = SourceFault
ingest_fault_of read.InputTooLong = InputTooLong
ingest_fault_of read.OutOfMemory = Store store.OutOfMemory

-- the outcome of a refusal by the store
abbrev pub outcome_of_store : StoreFault → Outcome
outcome_of_store store.NoStore = outcome.NoStore
outcome_of_store store.StoreThere = outcome.StoreThere
outcome_of_store (store.Damaged d) = outcome.Damaged d
outcome_of_store store.NameTaken = outcome.NameTaken
outcome_of_store store.NoSession = outcome.NoSession
outcome_of_store store.TooManySessions = outcome.TooManySessions
outcome_of_store store.TooManyPlaces = outcome.TooManyPlaces
outcome_of_store store.TooManyChunks = outcome.TooManyChunks
outcome_of_store store.ShelfFault = outcome.ShelfFault
outcome_of_store store.SinkFault = outcome.SinkFault
outcome_of_store store.OutOfMemory = outcome.OutOfMemory

-- the outcome of a run that is refused so
abbrev pub outcome_of : IngestFault → Outcome
outcome_of (Store fault) = outcome_of_store fault
outcome_of SourceFault = outcome.SourceFault
outcome_of InputTooLong = outcome.InputTooLong

-- a device failed, or memory ran out
abbrev pub Fails : IngestFault → Type 0
Fails SourceFault = ⊤
Fails (Store store.ShelfFault) = ⊤
Fails (Store store.OutOfMemory) = ⊤
Fails _ = ⊥

-- the shelf failed, or memory ran out: the session may be committed or not
abbrev pub IsStoreFailure : IngestFault → Type 0
IsStoreFailure (Store store.ShelfFault) = ⊤
IsStoreFailure (Store store.OutOfMemory) = ⊤
IsStoreFailure _ = ⊥

-- a refusal that comes before the first byte is read. A damage that is not that of a chunk is found
-- when the store is opened.
abbrev pub IsBeforeReading : IngestFault → Type 0
IsBeforeReading (Store store.NoStore) = ⊤
IsBeforeReading (Store (store.Damaged d)) = IsOfChunk d → ⊥
IsBeforeReading (Store store.NameTaken) = ⊤
IsBeforeReading (Store store.TooManySessions) = ⊤
IsBeforeReading _ = ⊥

-- a refusal that comes only if the whole input was read
abbrev pub IsAfterReading : IngestFault → Type 0
IsAfterReading (Store store.TooManyPlaces) = ⊤
IsAfterReading (Store store.TooManyChunks) = ⊤
IsAfterReading _ = ⊥

-- a refusal that comes before the first chunk is offered to the store
abbrev pub IsBeforeWriting : IngestFault → Type 0
IsBeforeWriting (Store store.NoStore) = ⊤
IsBeforeWriting (Store (store.Damaged d)) = IsOfChunk d → ⊥
IsBeforeWriting (Store store.NameTaken) = ⊤
IsBeforeWriting (Store store.TooManySessions) = ⊤
IsBeforeWriting (Store store.TooManyPlaces) = ⊤
IsBeforeWriting SourceFault = ⊤
IsBeforeWriting InputTooLong = ⊤
IsBeforeWriting _ = ⊥

-- a fault with which an ingest may be refused
abbrev pub IsOfIngest : IngestFault → Type 0
IsOfIngest (Store store.StoreThere) = ⊥
IsOfIngest (Store (store.Damaged d)) = IsOfOpening d ⊎ IsOfChunk d
IsOfIngest (Store store.NoSession) = ⊥
IsOfIngest (Store store.SinkFault) = ⊥
IsOfIngest _ = ⊤

-- a fault with which the chunks of an input may be refused, once the store is open to them
abbrev pub IsOfChunks : IngestFault → Type 0
IsOfChunks (Store (store.Damaged d)) = IsOfChunk d
IsOfChunks (Store store.TooManyPlaces) = ⊤
IsOfChunks (Store store.TooManyChunks) = ⊤
IsOfChunks (Store store.ShelfFault) = ⊤
IsOfChunks (Store store.OutOfMemory) = ⊤
IsOfChunks _ = ⊥

-- a fault with which a store may refuse to be opened to a session
abbrev pub IsOfOpenTo : IngestFault → Type 0
IsOfOpenTo (Store store.NoStore) = ⊤
IsOfOpenTo (Store (store.Damaged d)) = IsOfOpening d
IsOfOpenTo (Store store.NameTaken) = ⊤
IsOfOpenTo (Store store.TooManySessions) = ⊤
IsOfOpenTo (Store store.ShelfFault) = ⊤
IsOfOpenTo (Store store.OutOfMemory) = ⊤
IsOfOpenTo _ = ⊥

-- a fault with which an input may not be read
abbrev pub IsOfReading : IngestFault → Type 0
IsOfReading (Store store.OutOfMemory) = ⊤
IsOfReading SourceFault = ⊤
IsOfReading InputTooLong = ⊤
IsOfReading _ = ⊥

-- a fault of an ingest that the names, sessions and places of the book do not refuse
abbrev pub IsOfOffers : IngestFault → Type 0
IsOfOffers (Store (store.Damaged d)) = IsOfChunk d
IsOfOffers (Store store.TooManyChunks) = ⊤
IsOfOffers (Store store.ShelfFault) = ⊤
IsOfOffers (Store store.OutOfMemory) = ⊤
IsOfOffers SourceFault = ⊤
IsOfOffers _ = ⊥
