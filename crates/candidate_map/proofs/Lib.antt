-- a set of positions: what lies in it, and the empty one
pub mod SetLemmas
-- the words that keep a set: a bit that is read, set, or the next from a position
pub mod WordLemmas
-- the words of two maps put together, word by word
pub mod OrLemmas
-- maps that hold the candidates of an input, when the input goes on
pub mod CandidateLemmas
