-- A commit leaves clean files clean.
use Rattle.std.proofs.Common.{◌≡◌, inl, inr, ℕ, ◌==◌, List, [], length, refl, sym, subst, append-nil}
use Rattle.std.specs.Prelude.{Err, IfSome, None, Ok, OnOk, Option, Result, Some, slice_index_or}
use Rattle.std.proofs.lemmas.Bool.{cases_Bool, eqb-false}
use Rattle.sd_base.specs.Books.{bytes_named, chunks_in}
use Rattle.sd_base.specs.Packing.{packing}
use Rattle.sd_base.specs.States.{State, stored_chunks}
use Rattle.sd_base.specs.Stores.{HoldStateAlone, IsCommittedAlone}
use Rattle.sd_base.specs.declared.file.File.TheVariants.{Container}
use Rattle.store_core.specs.CleanFiles.{AreCleanWith}
use Rattle.store_core.specs.Commits.{CommitsIngest, committed_state, session_record}
use Rattle.store_core.specs.Recipes.{IsInOrder}
use Rattle.store_core.specs.StoreStates.{StandsFor, StoreState, chunks_of_store}
use Rattle.store_core.specs.declared.fault.StoreFault.{StoreFault}
use Rattle.store_core.proofs.CommitLemmas.{committed-alone, committed-held, in-order, ingest-done, named-bytes}
use Rattle.store_core.proofs.RecordLemmas.{Bytes}

-- files that hold a state alone are clean with nothing offered
pub clean-with-none : (name_of : List ℕ → List ℕ) (files : Bytes) (state : State) → HoldStateAlone name_of files state →
    AreCleanWith name_of files state []
clean-with-none name_of files state clean = record {
  holds = clean.holds;
  containers = λ k.
      subst (λ (chunks : List (List ℕ)). files (Container state.generation k) ≡ slice_index_or (packing chunks) k [])
      (sym (append-nil (stored_chunks state)))
      (own-container name_of files state k (clean.alone (Container state.generation k)));
  others = λ file apart. clean.alone file;
} where
  own-container : (name_of : List ℕ → List ℕ) (files : Bytes) (state : State) (k : ℕ) →
      IsCommittedAlone name_of state (Container state.generation k) (files (Container state.generation k)) →
      files (Container state.generation k) ≡ slice_index_or (packing (stored_chunks state)) k []
  own-container name_of files state k alone = elim (cases_Bool (state.generation == state.generation)) [
    | inl own ↦ rw own at alone
    | inr other ↦ absurd (eqb-false state.generation state.generation other refl)
  ]

-- a store that stood for a state and had clean files has clean files after a commit
pub commit-clean : (name_of : List ℕ → List ℕ) (store : StoreState) (before after : Option Bytes)
    (recipe name : List ℕ) (size : ℕ) (result : Result ℕ StoreFault) →
    IsInOrder (length (chunks_in store.opened.book.sessions)) recipe (length (chunks_of_store store)) →
    bytes_named (chunks_of_store store) recipe ≡ size →
    OnOk result (CommitsIngest store (session_record store name size recipe) before after) →
    (state : State) (offered : List (List ℕ)) → IfSome before (λ had. StandsFor name_of store had state offered →
    AreCleanWith name_of had state offered →
    OnOk result (IfSome after (λ has. HoldStateAlone name_of has (committed_state state offered name recipe))))
commit-clean name_of store None after recipe name size result order sum done state offered = tt
commit-clean name_of store (Some had) after recipe name size (Err fault) order sum done state offered = λ stands clean. tt
commit-clean name_of store (Some had) None recipe name size (Ok k) order sum done state offered = λ stands clean. tt
commit-clean name_of store (Some had) (Some has) recipe name size (Ok k) order sum done state offered = λ stands clean.
    let known = in-order name_of store had has state offered stands recipe name size order in
    let total = named-bytes name_of store had state offered stands recipe size sum in
    let ingest = ingest-done name_of store had has state offered stands recipe name size done in
    record {
      holds = committed-held name_of store had has state offered recipe name size stands known total ingest;
      alone = committed-alone name_of store had has state offered recipe name size stands known total ingest clean;
    }
