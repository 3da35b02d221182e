-- the windows of a text, and how a window moves
mod Windows
-- one position more: whether it is a candidate, and what a scan has added with it
mod Adding
-- two ranges side by side, and how ranges join
mod Halves
-- a map that was empty has the candidates of the text
mod Maps
-- segments, the turns of a worker, and the maps of several workers
mod Shares
