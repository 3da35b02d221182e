-- the bits of a word of a map
pub mod WordBits
