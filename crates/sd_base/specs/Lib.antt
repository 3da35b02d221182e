-- The definitions that contracts cite, in reading order.

-- the numbers that steer cutting, and their ranges
pub mod Parameters
-- the numbers of a `Params`
pub mod Params
-- the remainder of a bit string, and the fingerprint of a window
pub mod Polynomial
-- where an input is cut
pub mod Cutting
-- the first number or place at which something does not hold
pub mod Firsts
-- when a list of chunks is the cutting of its bytes, chunk by chunk
pub mod Cuttings
-- how chunks are packed into containers
pub mod Packing
-- the names of sessions
pub mod Names
-- what a `Name` keeps in memory
pub mod Padding
-- the records of a book and the one spelling of each
pub mod Records
-- what the records of a book say, and the damage of a book
pub mod Books
-- the distinct chunks of a list
pub mod Distinct
-- the states of a store, as lists of events
pub mod States
-- the settings of a store
pub mod Settings
-- when files hold a state
pub mod Stores
-- the book of a state
pub mod StateBooks
-- how often live sessions name each chunk
pub mod References
-- the verdict of opening a store
pub mod Opening
-- what an audit finds wrong in the files of a store
pub mod Flaws
-- what an audit tells of a store without a flaw
pub mod Audits
-- the input of `bulk`
pub mod Generator
-- words of the form KEY=VALUE
pub mod Keys
-- the words of the command line and the command that they name
pub mod Words
-- the fields of commands, and the ranges of their numbers
pub mod Commands
-- the texts that commands print
pub mod Texts
-- the rows of `list` and of `refs`
pub mod Rows
-- the outcome and the text of a run
pub mod OnePass
-- what follows from the definitions
pub mod Laws
-- what follows from the definitions of states
pub mod StateLaws
-- what follows from the definitions of flaws
pub mod FlawLaws
-- what follows from the definitions of cuttings
pub mod CuttingLaws
-- worked examples
pub mod Examples
-- worked examples of a store
pub mod StoreExamples
-- the library's definitions that these use
pub use Rattle.sha2.specs.Sha256
pub use Rattle.hex.specs.Hex
