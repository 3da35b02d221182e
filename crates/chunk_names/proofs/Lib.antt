-- In reading order. The folders beside this file have the answers of single functions.

-- chunks by their numbers: where each lies, and their names in order
pub mod Chunks
