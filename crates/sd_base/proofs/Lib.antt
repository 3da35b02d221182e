-- In reading order. `laws/`, `cutting_laws/`, `state_laws/`, `flaw_laws/` and `name/` have the
-- answers of single functions, which cite these.

-- what the next cut is, and how a list of cuts or chunks goes on from one of them
pub mod Cutting
-- the cuts of an input rise
pub mod Rising
-- the rest of an input after a cut is cut as if it stood alone
pub mod Tails
-- the candidates of the front of an input do not depend on what follows
pub mod Fronts
-- the chunks join to the input and have the sizes that the parameters ask for
pub mod Covering
-- two properties have the same first failure
pub mod Firsts
-- chunks are the cutting of their bytes if and only if each follows the rule
pub mod Cuttings
-- numbers are valid parameters if and only if none is refused
pub mod Ranges
-- bytes are a name if and only if they are not refused, and how a `Name` keeps them
pub mod Names
-- the bytes of the generator, joined and counted, and the name of the session of `bulk`
pub mod Generator
-- what words give a command is in its range
pub mod Commands
-- the distinct chunks of a longer list begin with those of a shorter one
pub mod Distinct
-- one more event only adds to the stored chunks and to the records of a state
pub mod States
-- the stored chunks that a recipe names are the chunks of its session
pub mod Recipes
-- the sizes of containers follow from the lengths of the chunks
pub mod ContainerSizes
-- the files that a state is written as hold it, and nothing else
pub mod Files
-- the book of a state has its sessions, chunks and places, and no recipe fails
pub mod StateBooks
-- files that hold a lawful state open as its book
pub mod HeldStates
-- recipes that name chunks in the order of first occurrence
pub mod InOrder
-- order by the number of chunks that have occurred
pub mod Counted
-- files that hold a lawful state have no flaw
pub mod Flawless
-- the ingests of a book, one after another
pub mod BookEntries
-- files that open and have no flaw hold a lawful state
pub mod FlawlessStates
-- one chunk more of a packing
pub mod Packing
-- containers that are long enough and have their marks have chunks
pub mod MarkedContainers
-- files that open have a first flaw, or none
pub mod FoundFlaws
-- the first flaw is one
pub mod OneFlaw
-- the reference counts of a state are those of its book
pub mod References
-- a run leads from a lawful state to a lawful state, and gives back what was taken in
pub mod Passes
-- the worked stores are lawful states
pub mod StateExamples
-- a worked verdict of opening for each kind of damage
pub mod OpeningExamples
-- worked texts of an audit, and a worked flaw of each kind
pub mod AuditExamples
