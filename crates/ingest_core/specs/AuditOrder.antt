-- What the look of an audit for chunks out of order finds.
use Rattle.std.specs.Prelude.{◌≡◌, ℕ, ◌+◌, ◌-◌, ◌≤◌, List, length, take, slice_index_or}
use Rattle.std.specs.List.{count_by, range_with_len}
use Rattle.sd_base.specs.Books.{BookState}
use Rattle.sd_base.specs.Firsts.{IsFirstFailingPlace}
use Rattle.sd_base.specs.Flaws.{IsInOrder, names_chunk, places_and_end}
use Rattle.sd_base.specs.declared.damage.Damage.{Damage}
use Rattle.sd_base.specs.declared.damage.Damage.TheVariants.{Order}

-- how many chunks have occurred before a place of a recipe: those of earlier sessions, and those of
-- the new ones that the recipe names at an earlier place
abbrev pub occurred_at : ℕ → List ℕ → ℕ → ℕ → ℕ
occurred_at known recipe total place =
    known + count_by (λ n. names_chunk (take place recipe) n) (range_with_len known (total - known))

-- the entry at the place is not above the number of chunks that have occurred before it, and at the
-- end all have
abbrev pub IsPlaceInOrder : ℕ → List ℕ → ℕ → ℕ → Type 0
IsPlaceInOrder known recipe total place = slice_index_or recipe place total ≤ occurred_at known recipe total place

-- the first place of a session of a book that is out of order
pub record IsFirstOutOfOrder (book : BookState) (damage : Damage) : Type 0 where
  pub session : ℕ
  pub place : ℕ
  pub first : IsFirstFailingPlace (length book.sessions) (places_and_end book) (IsInOrder book) session place
  pub equals : damage ≡ Order session place
