-- the degree of a polynomial, and what lies below its power
pub mod Degree
-- the two laws of remainders: of an exclusive or, and of a number that is small
pub mod Remainder
-- the eight bits of a byte
pub mod Bits
-- a fingerprint is divided byte by byte
pub mod Fold
-- the step of a window: the oldest byte leaves, the new byte is appended, both by tables
pub mod Roll
-- the bytes of a ring, and how it moves
pub mod Ring
-- a table that is filled entry by entry
pub mod Entries
-- linear functions of a byte, of which tables are made from eight values
pub mod Linear
