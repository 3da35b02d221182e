-- What becomes of the chunks of an input, of which the distinct ones are offered to a store.
use Rattle.std.specs.Prelude.{[], ◌≡◌, ◌⊎◌, ◌≤◌, ◌<◌, ◌++◌, ℕ, List, length, true, Option, IfSome, Result, Err}
use Rattle.std.specs.List.{All, concat}
use Rattle.store_core.specs.Faults.{IsOfChunk}
use Rattle.sd_base.specs.Books.{bytes_named, chunks_in}
use Rattle.sd_base.specs.Distinct.{distinct}
use Rattle.sd_base.specs.States.{State, placed_chunks, stored_chunks}
use Rattle.sd_base.specs.Stores.{HoldState}
use Rattle.sd_base.specs.declared.damage.Damage.{Damage}
use Rattle.sd_base.specs.declared.file.File.{File}
use Rattle.sd_base.specs.declared.limits.TheConstants.{MAX_CHUNKS}
use Rattle.store_core.specs.CleanFiles.{AreCleanWith}
use Rattle.store_core.specs.Commits.{OnlyFails, recipe_chunks}
use Rattle.store_core.specs.Recipes.{IsInOrder}
use Rattle.store_core.specs.StoreStates.{StandsFor, StoreState, chunks_of_store}
use Rattle.store_core.specs.declared.fault.StoreFault.{StoreFault}
use Rattle.store_core.specs.declared.fault.StoreFault.TheVariants.{Damaged, TooManyChunks}

-- The distinct chunks of a list were offered to a store that had none offered before, and the
-- recipe has the number of each chunk. This holds whatever the shelf holds.
pub record AreOffered (first : StoreState) (chunks : List (List ℕ)) (recipe : List ℕ) (now : StoreState) : Type 0 where
  pub opened : now.opened ≡ first.opened
  pub sound : now.sound ≡ true
  pub count : length recipe ≡ length chunks
  pub in_order : IsInOrder (length (chunks_in first.opened.book.sessions)) recipe (length (chunks_of_store now))
  pub sums : bytes_named (chunks_of_store now) recipe ≡ length (concat chunks)
  pub short : All (λ chunk. chunk.length ≤ first.opened.head.params.max) now.offered

-- A store stands for a state with some chunks offered, and the recipe names these chunks. If the
-- files had nothing but the state before, they have nothing but the state and the offered chunks.
pub record StandsWith (name_of : List ℕ → List ℕ) (before : File → List ℕ) (store : StoreState) (files : File → List ℕ)
    (state : State) (chunks : List (List ℕ)) (recipe : List ℕ) : Type 0 where
  pub offered : List (List ℕ)
  pub stands : StandsFor name_of store files state offered
  pub names : recipe_chunks state offered recipe ≡ chunks
  pub few : length (stored_chunks state ++ offered) ≤ MAX_CHUNKS
  pub clean : AreCleanWith name_of before state [] → AreCleanWith name_of files state offered

-- how chunks may be refused
abbrev pub OnlyRefuses : {T : Type 0} → Result T StoreFault → Type 0
OnlyRefuses result =
    ((damage : Damage) × (result ≡ Err (Damaged damage)) × IsOfChunk damage) ⊎ (result ≡ Err TooManyChunks)
    ⊎ OnlyFails result

-- How chunks are refused by a store that stands for a state.
pub record AreRefused {T : Type 0} (name_of : List ℕ → List ℕ) (state : State) (chunks : List (List ℕ))
    (after : Option (File → List ℕ)) (result : Result T StoreFault) : Type 0 where
  -- There are too many with those of the state, or the shelf failed, or memory ran out.
  pub why : ((result ≡ Err TooManyChunks) × (MAX_CHUNKS < length (distinct (placed_chunks state.events ++ chunks))))
      ⊎ OnlyFails result
  -- The files still hold the state.
  pub held : IfSome after (λ files. HoldState name_of files state)
