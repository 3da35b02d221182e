-- Streams of bytes: reads and writes, one after another. For `read_all`, `write_all`, `MemSource`
-- and `file_io`.
mod Streams
-- What is left of generated blocks, read after read. For `generator` and `BulkSource`.
mod Generated
-- The entries of a shelf in memory: looked up, changed and added. For `entries` and `MemShelf`.
mod EntryLemmas
-- The path of a container. For `write_path`.
mod Paths
-- Faults that are passed on from call to call. For `read_all`.
mod Refusals
-- Calls that change a file and may be planned to fail. For `MemShelf`.
mod ShelfCalls
