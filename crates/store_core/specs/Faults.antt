-- What a fault of a shelf means to the store over it, which faults leave the store sound, and which
-- damages are found when a store is opened and when a chunk is read.
use Rattle.std.specs.Prelude.{⊤, Bool, true, false, Result, Ok, Err}
use Rattle.edge_traits.specs.declared.fault.EdgeFault.{EdgeFault}
use Rattle.edge_traits.specs.declared.fault.EdgeFault.TheVariants as edge
use Rattle.sd_base.specs.declared.damage.Damage.{Damage}
use Rattle.sd_base.specs.declared.damage.Damage.TheVariants as damage
use Rattle.session_book.specs.declared.replay.BookFault.{BookFault}
use Rattle.session_book.specs.declared.replay.BookFault.TheVariants as book
use Rattle.store_core.specs.declared.fault.StoreFault.{StoreFault}
use Rattle.store_core.specs.declared.fault.StoreFault.TheVariants as store

abbrev pub store_fault_of : EdgeFault → StoreFault
store_fault_of edge.Failed = store.ShelfFault
store_fault_of edge.OutOfMemory = store.OutOfMemory

-- what a fault of a replay means to the store
abbrev pub store_fault_of_book : BookFault → StoreFault
store_fault_of_book (book.Damaged damage) = store.Damaged damage
store_fault_of_book book.OutOfMemory = store.OutOfMemory

-- whether a store may be written to after a call that returned this
abbrev pub stays_sound : {T : Type 0} → Result T StoreFault → Bool
stays_sound (Ok _) = true
stays_sound (Err (store.Damaged damage)) = false
stays_sound (Err store.ShelfFault) = false
stays_sound (Err store.OutOfMemory) = false
stays_sound (Err store.NoStore) = true
stays_sound (Err store.StoreThere) = true
stays_sound (Err store.NameTaken) = true
stays_sound (Err store.NoSession) = true
stays_sound (Err store.TooManySessions) = true
stays_sound (Err store.TooManyPlaces) = true
stays_sound (Err store.TooManyChunks) = true
stays_sound (Err store.SinkFault) = true

-- a damage that opening may find: of the head, of a record, of a recipe, or of a container's size
abbrev pub IsOfOpening : Damage → Type 0
IsOfOpening damage.Head = ⊤
IsOfOpening (damage.Record k) = ⊤
IsOfOpening (damage.Recipe session place) = ⊤
IsOfOpening (damage.Container number needed found) = ⊤
IsOfOpening (damage.Mark number found) = ⊥
IsOfOpening (damage.Chunk number kept found) = ⊥
IsOfOpening (damage.Twin first second) = ⊥
IsOfOpening (damage.Order session place) = ⊥
IsOfOpening (damage.Cut session place) = ⊥

-- a damage of a chunk's bytes
abbrev pub IsOfChunk : Damage → Type 0
IsOfChunk damage.Head = ⊥
IsOfChunk (damage.Record k) = ⊥
IsOfChunk (damage.Recipe session place) = ⊥
IsOfChunk (damage.Container number needed found) = ⊥
IsOfChunk (damage.Mark number found) = ⊥
IsOfChunk (damage.Chunk number kept found) = ⊤
IsOfChunk (damage.Twin first second) = ⊥
IsOfChunk (damage.Order session place) = ⊥
IsOfChunk (damage.Cut session place) = ⊥
