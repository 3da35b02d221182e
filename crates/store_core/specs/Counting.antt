-- What a store keeps of its reference counts: one count a chunk, of the places of its live sessions.
use Rattle.std.specs.Prelude.{◌≡◌, ℕ, ◌≤◌, List, [], length, option_map, unwrap_or}
use Rattle.std.specs.List.{slice_get, sum}
use Rattle.ref_ledger.specs.Counts.{count_at}
use Rattle.sd_base.specs.Books.{chunks_in}
use Rattle.sd_base.specs.References.{book_places_if_live, live_book_places, occurrences}
use Rattle.sd_base.specs.declared.record.Session.{Session}

-- the recipe of a session of a number, or no places if there is none
abbrev pub recipe_at : List Session → ℕ → List ℕ
recipe_at sessions k = unwrap_or (option_map (λ session. session.entry.recipe) (slice_get sessions k)) []

-- its recipe if it is live, and no places otherwise
abbrev pub places_at : List Session → ℕ → List ℕ
places_at sessions k = unwrap_or (option_map book_places_if_live (slice_get sessions k)) []

-- the count of each chunk is the number of places that name it
pub record CountPlaces (places counts : List ℕ) : Type 0 where
  pub counted : (i : ℕ) → count_at counts i ≡ occurrences i places
  pub total : sum counts ≡ length places

-- each chunk of sessions has a count, which is the number of places of live sessions that name it
pub record AreCounted (sessions : List Session) (counts : List ℕ) : Type 0 where
  pub places : CountPlaces (live_book_places sessions) counts
  pub enough : length (chunks_in sessions) ≤ length counts
