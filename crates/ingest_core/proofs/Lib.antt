-- In reading order. The folders beside this file have the answers of single functions.

-- inputs of sources that may be observable
pub mod Inputs
-- faults that are passed on
mod FaultLemmas
-- a recipe in order, and one entry more
mod RecipeLemmas
-- chunks that are offered one after another
mod OfferLemmas
-- a part of an input that was offered
mod PartLemmas
-- why the definition refuses an ingest
mod Refusals
-- an input that is taken into a store that stands for a state
mod TakingLemmas
-- a recipe that is looked through for the first place out of order
mod OrderLemmas
-- an ingest goes by the committed records
mod BookLemmas
-- a store that is opened over files that hold a state
mod OpeningLemmas
-- the lines of chunks
mod PlanLemmas
-- the parts of an ingest, put together
mod Runs
-- the marks of containers of files that open
mod AuditMarks
-- a batch of chunks in one text
mod AuditChunks
-- all chunks, a batch after the other
mod AuditBatches
-- what is kept of the cuts of chunks, a batch after the other
mod BatchCuts
mod BatchNames
-- the chunks that the containers of a store have are read
mod AuditContainers
-- stored chunks with equal bytes
mod AuditTwins
-- the windows of a chunk, and its candidates before a position
mod WindowLemmas
-- the places of sessions, by what is kept of the cuts of chunks
mod SessionCuts
-- the looks at the chunks and the sessions of a store, put together
mod AuditContents
-- what an audit found, and what it returns by that
mod AuditVerdicts
-- the live sessions among the first ones of a book
mod LiveSessions
