-- How often live sessions name each stored chunk: from a state, or from the sessions of a book. All
-- rules here are this project's own.
use Rattle.std.specs.Prelude.{ℕ, nat_lt, ◌==◌, if◌then◌else◌, List, [], length, Option, Some, None}
use Rattle.std.specs.List.{count_by, flat_map}
use Rattle.sd_base.specs.Books.{chunks_in}
use Rattle.sd_base.specs.States.{State, StoredSession, recipe_of, sessions_in, stored_chunks}
use Rattle.sd_base.specs.declared.record.Session.{Session}

-- how often a number is in a list
abbrev pub occurrences : ℕ → List ℕ → ℕ
occurrences n numbers = count_by (λ m. m == n) numbers

-- the chunks of a session by their numbers, one for each place, if the session is live
abbrev pub places_if_live : State → StoredSession → List ℕ
places_if_live state session = if session.live then recipe_of state session else []

-- the chunks of all live sessions by their numbers, one for each place
abbrev pub live_places : State → List ℕ
live_places state = flat_map (places_if_live state) (sessions_in state)

-- the reference count of chunk i: the number of places of live sessions that name it
abbrev pub reference_count : State → ℕ → ℕ
reference_count state i = occurrences i (live_places state)

-- the reference count of stored chunk i, or `None` if there is no such chunk
abbrev pub references_in_state : State → ℕ → Option ℕ
references_in_state state i = if nat_lt i (length (stored_chunks state)) then Some (reference_count state i) else None

-- the recipe of a session of a book, if the session is live
abbrev pub book_places_if_live : Session → List ℕ
book_places_if_live session = if session.live then session.entry.recipe else []

-- the recipes of all live sessions of a book, one after another
abbrev pub live_book_places : List Session → List ℕ
live_book_places sessions = flat_map book_places_if_live sessions

-- the reference count of chunk i of a book, or `None` if there is no such chunk
abbrev pub references_in_book : List Session → ℕ → Option ℕ
references_in_book sessions i =
    if nat_lt i (length (chunks_in sessions)) then Some (occurrences i (live_book_places sessions)) else None
