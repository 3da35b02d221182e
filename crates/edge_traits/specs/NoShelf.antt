-- What contracts know of a shelf with nothing on it.
use Rattle.std.specs.Prelude.{ℕ}
use Rattle.edge_traits.specs.declared.no_shelf.NoShelf.{NoShelf}

-- how often it has been called, at most 2^64 - 1
abbrev pub no_shelf_faults : NoShelf → ℕ
no_shelf_faults shelf = shelf.faults
