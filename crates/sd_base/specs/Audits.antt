-- What an audit tells of a store without a flaw. All rules here are this project's own.
use Rattle.std.specs.Prelude.{ℕ, List, [], ◌∷◌, ◌++◌, length, codes}
use Rattle.std.specs.Fmt.{decimal}
use Rattle.std.specs.List.{count_by}
use Rattle.sd_base.specs.Books.{BookState, chunks_in}
use Rattle.sd_base.specs.Opening.{needed_sizes}
use Rattle.sd_base.specs.Packing.{packing}
use Rattle.sd_base.specs.States.{State, live_sessions, sessions_in, stored_chunks}

-- how many sessions of a store are live, how many were taken in, and how many chunks and containers
-- it has
pub record StoreCounts : Type 0 where
  pub live : ℕ
  pub ingested : ℕ
  pub chunks : ℕ
  pub containers : ℕ

-- the counts of a state
abbrev pub counts_of_state : State → StoreCounts
counts_of_state state = record {
  live = length (live_sessions state);
  ingested = length (sessions_in state);
  chunks = length (stored_chunks state);
  containers = length (packing (stored_chunks state));
}

-- the counts of a book
abbrev pub counts_of_book : BookState → StoreCounts
counts_of_book book = record {
  live = count_by (λ session. session.live) book.sessions;
  ingested = length book.sessions;
  chunks = length (chunks_in book.sessions);
  containers = length (needed_sizes book);
}

-- the text of `audit`
abbrev pub audit_text : StoreCounts → List ℕ
audit_text counts =
    codes "ok " ++ decimal counts.live ++ codes " live " ++ decimal counts.ingested ++ codes " ingested "
    ++ decimal counts.chunks ++ codes " chunks " ++ decimal counts.containers ++ codes " containers" ++ 10 ∷ []
