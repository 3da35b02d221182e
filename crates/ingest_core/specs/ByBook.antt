-- What an ingest does over files that open, whether or not they hold a lawful state: it goes by the
-- committed records of the book.
use Rattle.std.specs.Prelude.{◌≡◌, ◌⊎◌, ◌≤◌, ◌<◌, ◌+◌, ℕ, nat_le, nat_lt, List, length, Option, Some, None, is_some, true, if◌then◌else◌, Result, IfErr, IfOk, IfSome, IsErrAnd}
use Rattle.ingest_core.specs.Faults.{Fails, IsOfOffers, outcome_of}
use Rattle.ingest_core.specs.declared.fault.IngestFault.{IngestFault}
use Rattle.ingest_core.specs.declared.summary.Summary.{Summary}
use Rattle.sd_base.specs.Books.{BookState, live_session, places_in}
use Rattle.sd_base.specs.Cutting.{chunks_of}
use Rattle.sd_base.specs.Opening.{Opened}
use Rattle.sd_base.specs.declared.limits.TheConstants.{MAX_INPUT, MAX_PLACES, MAX_SESSIONS}
use Rattle.sd_base.specs.declared.outcome.Outcome.{Outcome}
use Rattle.sd_base.specs.declared.outcome.Outcome.TheVariants.{InputTooLong, NameTaken, TooManyPlaces, TooManySessions}

-- a session of this name may be added to the book, as far as its name and the number of sessions go
pub record IsOpenTo (book : BookState) (name : List ℕ) : Type 0 where
  pub free : live_session book.sessions name ≡ None
  pub few : length book.sessions < MAX_SESSIONS

-- no session of this name is added to the book: a live session has the name, or there are as many
-- sessions as there may be
abbrev pub IsBookClosedTo : BookState → List ℕ → Type 0
IsBookClosedTo book name = (is_some (live_session book.sessions name) ≡ true) ⊎ (MAX_SESSIONS ≤ length book.sessions)

-- why an input is not taken in under a name, as far as the names, sessions and places of the book
-- go, if it is not
abbrev pub refusal_by_book : Opened → List ℕ → List ℕ → Option Outcome
refusal_by_book opened name input =
    if is_some (live_session opened.book.sessions name) then Some NameTaken
    else if nat_le MAX_SESSIONS (length opened.book.sessions) then Some TooManySessions
    else if nat_lt MAX_INPUT (length input) then Some InputTooLong
    else if nat_lt MAX_PLACES (places_in opened.book.sessions + length (chunks_of opened.head.params input)) then Some TooManyPlaces
    else None

-- An ingest of an input under a name over files that open so.
pub record IngestsByBook (opened : Opened) (name input : List ℕ) (result : Result Summary IngestFault) : Type 0 where
  -- It is refused as the book says, unless a device failed or memory ran out.
  pub refused : IfSome (refusal_by_book opened name input)
      (λ outcome. IsErrAnd result (λ fault. Fails fault ⊎ (outcome_of fault ≡ outcome)))
  -- If the book does not refuse it, only chunks are refused: there are too many, or the bytes of a
  -- stored one are damaged.
  pub accepted : refusal_by_book opened name input ≡ None → IfErr result IsOfOffers
  -- The numbers of a session that is taken in.
  pub numbers : IfOk result (λ summary. (summary.session ≡ length opened.book.sessions)
      × (summary.bytes ≡ length input) × (summary.places ≡ length (chunks_of opened.head.params input)))
