-- Files of a store that have no byte too many.
use Rattle.std.specs.Prelude.{◌≡◌, ◌≢◌, ℕ, List, [], ◌++◌, Option, slice_index_or}
use Rattle.container_pack.specs.Containers.{HasOnly}
use Rattle.edge_traits.specs.Shelf.{content}
use Rattle.sd_base.specs.Packing.{packing}
use Rattle.sd_base.specs.States.{State, stored_chunks}
use Rattle.sd_base.specs.Stores.{HoldState, IsCommittedAlone}
use Rattle.sd_base.specs.declared.file.File.{File}
use Rattle.sd_base.specs.declared.file.File.TheVariants.{Container}

-- the containers of this generation are these and no others: a further file is empty
abbrev pub ContainersAre : Option (File → List ℕ) → ℕ → List (List ℕ) → Type 0
ContainersAre files generation containers =
    (k : ℕ) → HasOnly (content files (Container generation k)) (slice_index_or containers k [])

-- The files hold a state, and nothing else except the chunks that were offered: the containers of
-- the state's generation are the packing of its chunks followed by those offered, and each other
-- file has its committed bytes and no more.
pub record AreCleanWith (name_of : List ℕ → List ℕ) (files : File → List ℕ) (state : State)
    (offered : List (List ℕ)) : Type 0 where
  pub holds : HoldState name_of files state
  pub containers : (k : ℕ) →
      files (Container state.generation k) ≡ slice_index_or (packing (stored_chunks state ++ offered)) k []
  pub others : (file : File) → ((k : ℕ) → file ≢ Container state.generation k) →
      IsCommittedAlone name_of state file (files file)
