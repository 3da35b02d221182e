-- reading a record from left to right
pub mod Reading
-- what a `Book` keeps in memory
pub mod BookFields
-- reading a book record by record
pub mod Replaying
