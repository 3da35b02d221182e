pub mod Candidates
pub mod Positions
pub mod Words
