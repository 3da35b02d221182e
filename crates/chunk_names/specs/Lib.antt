-- a name that many chunks share
pub mod LengthNames
-- the chunks of a text by their numbers, and those of a worker
pub mod Shares
