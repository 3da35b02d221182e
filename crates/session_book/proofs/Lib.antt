-- In reading order. First what bytes begin with, then what a book becomes record by record.

-- how many bytes the parts of a record take
pub mod Sizes
-- each field that is read is the field that was written, and a field that was written is read again
pub mod Fields
-- the same of lists, ingests and whole bodies
pub mod Bodies
-- the loop of `read_list`: items that were read, and items that are still to be read
pub mod Loop
-- a record that is read is the one that was written, and one that was written is read again: the
-- clauses of `next_record`, and the law that no spelling begins another
pub mod Steps
-- what an ingest and a drop do to chunks, places and live sessions
pub mod Adding
-- the index of live sessions stays right, and a search by name finds the live session
pub mod ByName
-- the loop of `read_book`, how many records a book can have, and the law that adding is replaying
pub mod Replaying
-- the loop of `first_damage`: recipes against the chunks up to and with their record
pub mod Flaws
-- bytes have one replay or one first damage, and never both: the clauses of `Book::replay`
pub mod OneReading
