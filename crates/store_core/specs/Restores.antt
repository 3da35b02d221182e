-- What is written of a session that is restored.
use Rattle.std.specs.Prelude.{◌≡◌, ◌≢◌, ◌⊎◌, ◌↔◌, ℕ, ◌<◌, ◌≤◌, nat_le, List, [], ◌++◌, length, take, slice_index_or, Option, None, unwrap_or, option_map, OnOk, OnErr, Result, Err}
use Rattle.std.specs.Option.{option_and_then}
use Rattle.std.specs.List.{All, flat_map, position, slice_get}
use Rattle.edge_traits.specs.Sink.{Appends, AppendsPrefix}
use Rattle.sd_base.specs.Books.{live_session}
use Rattle.sd_base.specs.States.{State, bytes_of_session, live_session_named, sessions_in}
use Rattle.sd_base.specs.declared.damage.Damage.{Damage}
use Rattle.sd_base.specs.declared.file.File.{File}
use Rattle.store_core.specs.Offers.{IsReadDamaged}
use Rattle.store_core.specs.StoreStates.{StoreState, chunk_as_read, chunks_of_store, kept_chunk}
use Rattle.store_core.specs.declared.fault.StoreFault.{StoreFault}
use Rattle.store_core.specs.declared.fault.StoreFault.TheVariants.{Damaged, NoSession, OutOfMemory, ShelfFault, SinkFault}

-- how restoring a session may be refused
abbrev pub OnlyRestores : {T : Type 0} → Result T StoreFault → Type 0
OnlyRestores result =
    (result ≡ Err NoSession) ⊎ ((damage : Damage) × (result ≡ Err (Damaged damage))) ⊎ (result ≡ Err ShelfFault)
    ⊎ (result ≡ Err SinkFault) ⊎ (result ≡ Err OutOfMemory)

-- the recipe of the live session of a name, or no places if there is none
abbrev pub recipe_named : StoreState → List ℕ → List ℕ
recipe_named store name =
    let sessions = store.opened.book.sessions in
    let found = option_and_then (slice_get sessions) (live_session sessions name) in
    unwrap_or (option_map (λ session. session.entry.recipe) found) []

-- the first place of a recipe at which no chunk of the store is named
abbrev pub unknown_place : StoreState → List ℕ → Option ℕ
unknown_place store recipe = position (λ n. nat_le (length (chunks_of_store store)) n) recipe

-- the bytes of chunks as they are read, one after another
abbrev pub bytes_as_read : (File → List ℕ) → StoreState → List ℕ → List ℕ
bytes_as_read files store recipe = flat_map (chunk_as_read files store) recipe

module _ (name_of : List ℕ → List ℕ) (files : File → List ℕ) (store : StoreState) where
  -- the bytes of chunk n, as they are read, have the name that is kept
  abbrev pub IsIntact : ℕ → Type 0
  IsIntact n = name_of (chunk_as_read files store n) ≡ (kept_chunk store n).name

  -- each chunk of a recipe is intact, and exactly their bytes were written
  pub record RestoresAll (recipe : List ℕ) (before after : Option (List ℕ)) : Type 0 where
    pub intact : All IsIntact recipe
    pub written : Appends before after (bytes_as_read files store recipe)

  -- the chunks of some first places of a recipe are intact, and a prefix of their bytes was written
  pub record RestoresPart (recipe : List ℕ) (before after : Option (List ℕ)) : Type 0 where
    pub places : ℕ
    pub within : places ≤ length recipe
    pub intact : All IsIntact (take places recipe)
    pub written : AppendsPrefix before after (bytes_as_read files store (take places recipe))

  -- Each chunk of a recipe is intact. What was written, with what is held back now, is what was held
  -- back before, with the bytes of these chunks.
  pub record HoldsBack (recipe held : List ℕ) (before after : Option (List ℕ)) (now : List ℕ) : Type 0 where
    pub intact : All IsIntact recipe
    pub piece : List ℕ
    pub written : Appends before after piece
    pub rest : piece ++ now ≡ held ++ bytes_as_read files store recipe

  -- the chunks of some first places of a recipe are intact, and a prefix of what was held back before,
  -- with their bytes, was written
  pub record HoldsBackPart (recipe held : List ℕ) (before after : Option (List ℕ)) : Type 0 where
    pub places : ℕ
    pub within : places ≤ length recipe
    pub intact : All IsIntact (take places recipe)
    pub written : AppendsPrefix before after (held ++ bytes_as_read files store (take places recipe))

  -- this is the damage of the first chunk of a recipe that is not intact, and exactly the bytes of
  -- the places before it were written
  pub record FindsDamage (recipe : List ℕ) (damage : Damage) (before after : Option (List ℕ)) : Type 0 where
    pub place : ℕ
    pub within : place < length recipe
    pub restored : RestoresAll (take place recipe) before after
    pub damaged : IsReadDamaged name_of files store (slice_index_or recipe place 0) damage

-- the bytes of the live session of a name, or none if there is no such session
abbrev pub session_bytes : State → List ℕ → List ℕ
session_bytes state name =
    let found = option_and_then (slice_get (sessions_in state)) (live_session_named (sessions_in state) name) in
    unwrap_or (option_map bytes_of_session found) []

-- The bytes of the live session of this name in the state were written, or a prefix of them if the
-- call was refused. No damage is found.
pub record RestoresState {T : Type 0} (state : State) (name : List ℕ) (result : Result T StoreFault)
    (before after : Option (List ℕ)) : Type 0 where
  pub no_session : (result ≡ Err NoSession) ↔ (live_session_named (sessions_in state) name ≡ None)
  pub undamaged : (damage : Damage) → result ≢ Err (Damaged damage)
  pub restored : OnOk result (Appends before after (session_bytes state name))
  pub prefix : OnErr result (AppendsPrefix before after (session_bytes state name))
