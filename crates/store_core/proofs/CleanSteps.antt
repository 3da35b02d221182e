-- What an offer leaves of the files of a store that stands for a state: they hold the state, and are
-- as clean as they were.
use Rattle.std.proofs.Common.{◌≡◌, ◌≢◌, ℕ, ◌≤◌, List, [], ◌∷◌, ◌++◌, length, map, sym, ap, subst, ◌∙◌, append-nil, append_assoc}
use Rattle.std.specs.Prelude.{Err, IfSome, None, Ok, OnOk, Result, Some}
use Rattle.std.specs.List.{All}
use Rattle.container_pack.specs.Containers.{ContainersBegin}
use Rattle.edge_traits.specs.Shelf.{SameFiles, content}
use Rattle.sd_base.specs.Distinct.{new_chunks}
use Rattle.sd_base.specs.Opening.{Opened}
use Rattle.sd_base.specs.Packing.{packing}
use Rattle.sd_base.specs.States.{State, stored_chunks}
use Rattle.sd_base.specs.Stores.{HoldState, IsCommittedAlone}
use Rattle.sd_base.specs.declared.file.File.{File}
use Rattle.sd_base.specs.declared.file.File.TheVariants.{Container}
use Rattle.store_core.specs.CleanFiles.{AreCleanWith, ContainersAre}
use Rattle.store_core.specs.Offers.{IsLeastSame, IsNewBelow}
use Rattle.store_core.specs.StoreFields.{lengths_of}
use Rattle.store_core.specs.StoreStates.{StandsFor, StoreState, chunks_of_store}
use Rattle.store_core.specs.declared.fault.StoreFault.{StoreFault}
use Rattle.store_core.proofs.CleanLemmas.{exact-begin}
use Rattle.store_core.proofs.OfferLemmas.{held-on, lengths-named, stands-chunks, stands-count, stands-least, stands-none}
use Rattle.store_core.proofs.StoreLemmas.{Told, held-is, same-told}

-- ---- what an append says of a store before it

-- containers that begin with the packing of the store's chunks still do
abbrev pub StillPacked : StoreState → Told → Told → Type 0
StillPacked store before after =
    (chunks : List (List ℕ)) → map length chunks ≡ lengths_of (chunks_of_store store) →
    ContainersBegin before store.opened.head.generation (packing chunks) →
    ContainersBegin after store.opened.head.generation (packing chunks)

-- containers that are the packing of the store's chunks are that of these and one more
abbrev pub PacksOneMore : (chunk : List ℕ) → Result ℕ StoreFault → StoreState → Told → Told → Type 0
PacksOneMore chunk r store before after =
    (chunks : List (List ℕ)) → map length chunks ≡ lengths_of (chunks_of_store store) →
    ContainersAre before store.opened.head.generation (packing chunks) →
    OnOk r (ContainersAre after store.opened.head.generation (packing (chunks ++ chunk ∷ [])))

-- no other file changes
abbrev pub OnlyContainers : StoreState → Told → Told → Type 0
OnlyContainers store before after =
    (f : File) → ((k : ℕ) → f ≢ Container store.opened.head.generation k) → content after f ≡ content before f

-- a fact of the store and its files after a call that changed neither is one of them before it
pub as-before : (P : StoreState → Told → Told → Type 0) (store mid : StoreState) (old ready now : Told) →
    mid ≡ store → SameFiles old ready → P mid ready now → P store old now
as-before P store mid old ready now kept same fact =
    subst (λ (s : StoreState). P s old now) kept (subst (λ (t : Told). P mid t now) (same-told old ready same) fact)

-- ---- a store that stands for a state

module _ (name_of : List ℕ → List ℕ) (store : StoreState) (state : State) (offered : List (List ℕ)) where
  abbrev all : List (List ℕ)
  all = stored_chunks state ++ offered

  generation-is : (files : File → List ℕ) → StandsFor name_of store files state offered →
      store.opened.head.generation ≡ state.generation
  generation-is files stands = ap (λ (o : Opened). o.head.generation) stands.opened

  lengths-are : (files : File → List ℕ) → StandsFor name_of store files state offered →
      map length all ≡ lengths_of (chunks_of_store store)
  lengths-are files stands =
      sym (lengths-named name_of all) ∙ sym (ap lengths_of (stands-chunks name_of store files state offered stands))

  others-are : (before after : File → List ℕ) → StandsFor name_of store before state offered →
      OnlyContainers store (Some before) (Some after) →
      (f : File) → ((k : ℕ) → f ≢ Container state.generation k) → after f ≡ before f
  others-are before after stands others = λ f apart.
      held-is (others f (λ k is. apart k (is ∙ ap (λ g. Container g k) (generation-is before stands))))

  -- the files hold the state after each append
  pub held-after : (old now : Told) → StillPacked store old now → OnlyContainers store old now →
      IfSome old (λ before. StandsFor name_of store before state offered → IfSome now (λ after. HoldState name_of after state))
  held-after None now begin others = tt
  held-after (Some before) None begin others = λ stands. tt
  held-after (Some before) (Some after) begin others = λ stands.
      let generation = generation-is before stands in
      held-on name_of before after state offered stands.held
      (subst (λ g. ContainersBegin (Some after) g (packing all)) generation
      (begin all (lengths-are before stands)
      (subst (λ g. ContainersBegin (Some before) g (packing all)) (sym generation) stands.begin)))
      (others-are before after stands others)

  -- and as long as no file changes
  pub held-same : (old now : Told) → SameFiles old now →
      IfSome old (λ before. StandsFor name_of store before state offered → IfSome now (λ after. HoldState name_of after state))
  held-same None now same = tt
  held-same (Some before) now same = λ stands.
      subst (λ (t : Told). IfSome t (λ after. HoldState name_of after state)) (sym (same-told (Some before) now same)) stands.held

  module _ (chunk : List ℕ) (some : All (λ n. 1 ≤ n) (lengths_of (chunks_of_store store))) where
    abbrev pub AreCleanAfter : (File → List ℕ) → Type 0
    AreCleanAfter after = AreCleanWith name_of after state (offered ++ new_chunks all (chunk ∷ []))

    -- a chunk that is the same was there
    pub clean-found : (i : ℕ) (old now : Told) → SameFiles old now →
        IfSome old (λ files. IsLeastSame name_of files store chunk i) →
        IfSome old (λ before. StandsFor name_of store before state offered → AreCleanWith name_of before state offered →
        IfSome now AreCleanAfter)
    clean-found i None now same least = tt
    clean-found i (Some files) now same least = λ stands clean.
        let found = stands-least name_of store files state offered stands some chunk i least in
        subst (λ (t : Told). IfSome t AreCleanAfter) (sym (same-told (Some files) now same))
        (subst (λ (more : List (List ℕ)). AreCleanWith name_of files state (offered ++ more)) (sym found.1)
        (subst (λ (more : List (List ℕ)). AreCleanWith name_of files state more) (sym (append-nil offered)) clean))

    -- the chunk was appended
    clean-appended : (before after : File → List ℕ) → StandsFor name_of store before state offered →
        AreCleanWith name_of before state offered →
        ContainersAre (Some after) store.opened.head.generation (packing (all ++ chunk ∷ [])) →
        OnlyContainers store (Some before) (Some after) → AreCleanWith name_of after state (offered ++ chunk ∷ [])
    clean-appended before after stands clean exact others =
        let more = offered ++ chunk ∷ [] in
        let same = others-are before after stands others in
        let now : ContainersAre (Some after) state.generation (packing (stored_chunks state ++ more)) =
        subst (λ g. ContainersAre (Some after) g (packing (stored_chunks state ++ more))) (generation-is before stands)
        (subst (λ (chunks : List (List ℕ)). ContainersAre (Some after) store.opened.head.generation (packing chunks))
        (append_assoc (stored_chunks state) offered (chunk ∷ [])) exact) in
        record {
          holds = held-on name_of before after state more stands.held
              (exact-begin (Some after) state.generation (packing (stored_chunks state ++ more)) now) same;
          containers = now;
          others = λ f apart.
              subst (λ (bytes : List ℕ). IsCommittedAlone name_of state f bytes) (sym (same f apart)) (clean.others f apart);
        }

    pub clean-new : (r : Result ℕ StoreFault) (old now : Told) →
        IfSome old (λ files. IsNewBelow name_of files store chunk (length (chunks_of_store store))) →
        PacksOneMore chunk r store old now → OnlyContainers store old now →
        IfSome old (λ before. StandsFor name_of store before state offered → AreCleanWith name_of before state offered →
        OnOk r (IfSome now AreCleanAfter))
    clean-new r None now none exact others = tt
    clean-new (Err e) (Some before) now none exact others = λ stands clean. tt
    clean-new (Ok i) (Some before) None none exact others = λ stands clean. tt
    clean-new (Ok i) (Some before) (Some after) none exact others = λ stands clean.
        let generation = generation-is before stands in
        let facts = stands-none name_of store before state offered stands some chunk
        (subst (λ k. IsNewBelow name_of before store chunk k) (stands-count name_of store before state offered stands) none) in
        subst (λ (more : List (List ℕ)). AreCleanWith name_of after state (offered ++ more)) (sym facts.2)
        (clean-appended before after stands clean
        (exact all (lengths-are before stands)
        (subst (λ g. ContainersAre (Some before) g (packing all)) (sym generation) clean.containers)) others)
