-- In reading order. The folders beside this file have the answers of single functions. Where one is
-- `search rules`, the check would find it too, but after longer searches.

-- parameters that were read from settings have these settings
mod SettingsLemmas
-- what a replay finds in the whole records at the front of a book's file, it finds in the file
mod BookFiles
-- what a replay of the records that were read says of the files
mod OpeningLemmas
-- what a call passes on of a call within it
mod Passing
-- the parts of the verdict of opening, put together
pub mod StoreLemmas
-- opening has one verdict
pub mod Verdicts
-- the files of a store that is made
mod NewStoreLemmas
-- what one more ingest, named by a recipe, does to a state and its book
pub mod IngestLemmas
-- an index of names, and one name more
mod NameIndexLemmas
-- a chunk that is offered to a store that stands for a state
pub mod OfferLemmas
-- what one more record makes of the state that the files hold
mod RecordLemmas
-- what a commit leaves of a store that stands for a state
mod CommitLemmas
-- a commit leaves clean files clean
pub mod CleanCommits
-- what a store keeps of its chunks in memory
mod FieldLemmas
-- the record of a session that is committed
mod SessionLemmas
-- a chunk of a store as it is read
mod ReadLemmas
-- the search for a chunk by its name
mod FindLemmas
-- containers with no byte too many, and one more chunk
pub mod CleanLemmas
-- what an offer leaves of the files of a store
mod CleanSteps
-- the two ways in which a chunk is offered
mod OfferSteps
-- what is written of a session that is restored
pub mod RestoreLemmas
-- the counts of the places of live sessions
mod CountLemmas
-- what a drop leaves of a store that stands for a state
mod DropLemmas
-- files hold at most one lawful state
mod OneState
