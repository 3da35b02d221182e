-- The definitions that contracts cite, in reading order.

-- what faults of the layers below mean to an ingest, and the outcome of each fault
pub mod Faults
-- what an ingest does by the committed records
pub mod ByBook
-- what an ingest does
pub mod Ingests
-- what becomes of the chunks of an input
pub mod Offering
-- what a plan shows of an input
pub mod Plans
-- what the look of an audit for chunks out of order finds
pub mod AuditOrder
-- the marks of containers as an audit reads them
pub mod AuditMarks
-- the chunks of a store as an audit reads them
pub mod AuditChunks
-- what the look of an audit for equal chunks finds
pub mod AuditTwins
-- what an audit keeps of the cuts of chunks, and what it finds by that
pub mod AuditCuts
-- what an audit returns
pub mod Auditing
