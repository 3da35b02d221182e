-- Why the definition refuses an ingest, from the numbers that decide it.
use Rattle.std.proofs.Common.{◌≡◌, ℕ, ◌+◌, ◌<◌, ◌≤◌, true, List, [], ◌∷◌, ◌++◌, None, Some, length, refl, ap, ◌∙◌, arith, append-nil, length-append}
use Rattle.std.proofs.lemmas.Bool.{le-leb, le-ltb, lt-leb, lt-ltb}
use Rattle.std.specs.Prelude.{is_some}
use Rattle.sd_base.specs.Cutting.{chunks_between, chunks_of, cuts_of}
use Rattle.sd_base.specs.Distinct.{distinct}
use Rattle.sd_base.specs.OnePass.{refusal_of_ingest}
use Rattle.sd_base.specs.States.{State, ingested, live_session_named, placed_chunks, sessions_in, stored_chunks, with_session}
use Rattle.sd_base.specs.declared.limits.TheConstants.{MAX_CHUNKS, MAX_INPUT, MAX_PLACES, MAX_SESSIONS}
use Rattle.sd_base.specs.declared.outcome.Outcome.TheVariants.{InputTooLong, NameTaken, TooManyChunks, TooManyPlaces, TooManySessions}
use Rattle.sd_base.proofs.States.{placed_chunks-append}

-- there are as many chunks as cuts
pub count-between : (input : List ℕ) (s : ℕ) (cuts : List ℕ) → length (chunks_between input s cuts) ≡ length cuts
count-between input s [] = refl
count-between input s (cut ∷ cuts) = let later = count-between input cut cuts in omega (arith, later)

module _ (state : State) (name input : List ℕ) where
  abbrev chunks : List (List ℕ)
  chunks = chunks_of state.params input

  -- the chunks of the state with the session
  pub placed-with : placed_chunks (with_session state name input).events ≡ placed_chunks state.events ++ chunks
  placed-with =
      placed_chunks-append state.events (ingested name chunks ∷ [])
      ∙ ap (λ own. placed_chunks state.events ++ own) (append-nil chunks)

  pub stored-with : stored_chunks (with_session state name input) ≡ distinct (placed_chunks state.events ++ chunks)
  stored-with = ap distinct placed-with

  -- how many they are
  pub count-with : length (placed_chunks (with_session state name input).events)
      ≡ length (placed_chunks state.events) + length (cuts_of state.params input)
  count-with =
      ap length placed-with ∙ length-append (placed_chunks state.events) chunks
      ∙ ap (λ n. length (placed_chunks state.events) + n) (count-between input 0 (cuts_of state.params input))

  -- a live session has the name
  pub refused-taken : is_some (live_session_named (sessions_in state) name) ≡ true →
      refusal_of_ingest state name input ≡ Some NameTaken
  refused-taken taken = rw taken refl

  -- no live session has the name
  module _ (free : live_session_named (sessions_in state) name ≡ None) where
    pub refused-sessions : MAX_SESSIONS ≤ length (sessions_in state) →
        refusal_of_ingest state name input ≡ Some TooManySessions
    refused-sessions many = rw (free, le-leb MAX_SESSIONS (length (sessions_in state)) many) refl

    -- and there are fewer sessions than there may be
    module _ (few : length (sessions_in state) < MAX_SESSIONS) where
      pub refused-long : MAX_INPUT < length input → refusal_of_ingest state name input ≡ Some InputTooLong
      refused-long long =
          rw (free, lt-leb MAX_SESSIONS (length (sessions_in state)) few, lt-ltb MAX_INPUT (length input) long) refl

      -- and the input is short enough
      module _ (fits : length input ≤ MAX_INPUT) where
        pub refused-places : MAX_PLACES < length (placed_chunks (with_session state name input).events) →
            refusal_of_ingest state name input ≡ Some TooManyPlaces
        refused-places many =
            rw (
              free,
              lt-leb MAX_SESSIONS (length (sessions_in state)) few,
              le-ltb MAX_INPUT (length input) fits,
              lt-ltb MAX_PLACES (length (placed_chunks (with_session state name input).events)) many,
            ) refl

        -- and there are few enough places
        module _ (room : length (placed_chunks (with_session state name input).events) ≤ MAX_PLACES) where
          pub refused-chunks : MAX_CHUNKS < length (stored_chunks (with_session state name input)) →
              refusal_of_ingest state name input ≡ Some TooManyChunks
          refused-chunks many =
              rw (
                free,
                lt-leb MAX_SESSIONS (length (sessions_in state)) few,
                le-ltb MAX_INPUT (length input) fits,
                le-ltb MAX_PLACES (length (placed_chunks (with_session state name input).events)) room,
                lt-ltb MAX_CHUNKS (length (stored_chunks (with_session state name input))) many,
              ) refl

          pub refused-not : length (stored_chunks (with_session state name input)) ≤ MAX_CHUNKS →
              refusal_of_ingest state name input ≡ None
          refused-not few_chunks =
              rw (
                free,
                lt-leb MAX_SESSIONS (length (sessions_in state)) few,
                le-ltb MAX_INPUT (length input) fits,
                le-ltb MAX_PLACES (length (placed_chunks (with_session state name input).events)) room,
                le-ltb MAX_CHUNKS (length (stored_chunks (with_session state name input))) few_chunks,
              ) refl
