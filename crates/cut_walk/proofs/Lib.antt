-- a cut by the map is the next cut of the input, and how a list of cuts grows
pub mod WalkLemmas
