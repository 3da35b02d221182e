-- The calls of a shelf in memory that fail.
use Rattle.std.specs.Prelude.{ℕ, ◌<◌, All, List, [], ◌∷◌, Option, Some, None, nat_eq, if◌then◌else◌}
use Rattle.edge_traits.specs.declared.shelf_plan.ShelfFail.{ShelfFail}

-- what the call of this number keeps, if it is to fail; the first entry of the number decides
abbrev pub fail_at : List ShelfFail → ℕ → Option ℕ
fail_at [] number = None
fail_at (fail ∷ failing) number = if nat_eq fail.call number then Some fail.kept else fail_at failing number

-- each call that is to fail has been made: its number is below that of the next call
abbrev pub ArePast : List ShelfFail → ℕ → Type 0
ArePast failing next = All (λ fail. fail.call < next) failing
