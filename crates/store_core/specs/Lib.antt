-- The definitions that contracts cite, in reading order.

-- what faults of the layers below mean to the store
pub mod Faults
-- what calls do to their shelf, whatever it holds
pub mod Shelves
-- what making a store does to its files
pub mod Stores
-- a store as its callers see it, and what it stands on
pub mod StoreStates
-- what opening reads from the head
pub mod Heads
-- how much of a book's file its committed records take
pub mod BookFiles
-- what opening finds of the containers
pub mod Containers
-- what becomes of a chunk that is offered
pub mod Offers
-- what is written of a session that is restored
pub mod Restores
-- recipes that name new chunks in order
pub mod Recipes
-- what a commit does to the files
pub mod Commits
-- what a drop does to the files
pub mod Drops
-- the counts of the places of live sessions
pub mod Counting
-- an index of names of chunks
pub mod NameIndex
-- files of a store that have no byte too many
pub mod CleanFiles
-- what a store keeps in memory
pub mod StoreFields
-- opening has one verdict
pub mod Verdicts
