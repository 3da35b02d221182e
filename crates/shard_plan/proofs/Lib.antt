-- In reading order. The folders beside this file have the answers of single functions.

-- chunks by their numbers: where each lies, and that names by a function of the bytes name them
pub mod Chunks
-- the leader of a chunk is the least with its bytes
mod Leaders
-- sorted pairs, and how the leaders of a run grow
mod Runs
-- the sizes of shards and the first words of their regions
mod Sizes
