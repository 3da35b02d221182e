-- The two ways in which a chunk is offered to a store that stands for a state.
use Rattle.std.proofs.Common.{◌≡◌, inl, inr, ℕ, ◌<◌, ◌≤◌, Bool, false, List, [], ◌∷◌, ◌++◌, length, map, refl, sym, ap, subst, ◌∙◌, append-nil}
use Rattle.std.specs.Prelude.{◌≢◌, IfSome, IfOk, OnOk, OnErr, None, Some, Ok, Err, Result}
use Rattle.std.specs.List.{All}
use Rattle.container_pack.specs.Containers.{ContainersBegin}
use Rattle.edge_traits.specs.Shelf.{SameFiles, content}
use Rattle.sd_base.specs.Distinct.{AreDifferent, first_index, is_among, new_chunks}
use Rattle.sd_base.specs.Opening.{Opened}
use Rattle.sd_base.specs.Packing.{packing}
use Rattle.sd_base.specs.States.{State, stored_chunks}
use Rattle.sd_base.specs.declared.damage.Damage.{Damage}
use Rattle.sd_base.specs.declared.file.File.{File}
use Rattle.sd_base.specs.declared.file.File.TheVariants.{Container}
use Rattle.sd_base.specs.declared.limits.TheConstants.{MAX_CHUNKS}
use Rattle.store_core.specs.Offers.{IsFoundDamaged, IsLeastSame, IsNewBelow, IsOffered, IsRefused, OnlyOffers, with_offer}
use Rattle.store_core.specs.StoreFields.{lengths_of}
use Rattle.store_core.specs.StoreStates.{StandsFor, StoreState, chunks_of_store}
use Rattle.store_core.specs.declared.fault.StoreFault.{StoreFault}
use Rattle.store_core.specs.declared.fault.StoreFault.TheVariants.{Damaged, TooManyChunks}
use Rattle.store_core.proofs.OfferLemmas.{lengths-named, stands-appended, stands-chunks, stands-count, stands-least, stands-none, stands-sound, stands-undamaged}
use Rattle.store_core.proofs.StoreLemmas.{Told, held-is, same-told, told_map}

module _ (name_of : List ℕ → List ℕ) (store new : StoreState) (old now : Told) (chunk : List ℕ)
    (some : All (λ n. 1 ≤ n) (lengths_of (chunks_of_store store))) (state : State) (offered : List (List ℕ)) where
  abbrev all : List (List ℕ)
  all = stored_chunks state ++ offered

  -- one that is the same was there
  pub offered-found : (i : ℕ) → new ≡ store → SameFiles old now → IfSome old (λ files. IsLeastSame name_of files store chunk i) →
      IfSome old (λ before. StandsFor name_of store before state offered → IsOffered name_of state offered chunk i new now)
  offered-found = go old refl where
    go : (told : Told) → told ≡ old → (i : ℕ) → new ≡ store → SameFiles old now → IfSome told (λ files. IsLeastSame name_of files store chunk i) →
        IfSome told (λ before. StandsFor name_of store before state offered → IsOffered name_of state offered chunk i new now)
    go None is i unchanged same least = tt
    go (Some files) is i unchanged same least = λ stands.
        let found = stands-least name_of store files state offered stands some chunk i least in (
          found.0,
          subst (λ (t : Told). IfSome t (λ f. StandsFor name_of new f state (offered ++ new_chunks all (chunk ∷ []))))
              (is ∙ sym (same-told old now same))
              (subst (λ (s : StoreState). StandsFor name_of s files state (offered ++ new_chunks all (chunk ∷ []))) (sym unchanged)
              (subst (λ (more : List (List ℕ)). StandsFor name_of store files state (offered ++ more)) (sym found.1)
              (subst (λ (more : List (List ℕ)). StandsFor name_of store files state more) (sym (append-nil offered)) stands))),
        )

-- what a file has in both, if it has the same in both
same-file : (file : File) (before after : File → List ℕ) (told : Told) → told ≡ Some before →
    content (Some after) file ≡ content told file → after file ≡ before file
same-file file before after told is same = held-is (same ∙ ap (λ (t : Told). content t file) is)

module _ (name_of : List ℕ → List ℕ) (store mid new : StoreState) (old ready now : Told) (chunk name : List ℕ)
    (named_so : name ≡ name_of chunk) (kept : mid ≡ store) (same : SameFiles old ready)
    (some : All (λ n. 1 ≤ n) (lengths_of (chunks_of_store store))) (state : State) (offered : List (List ℕ))
    (r : Result ℕ StoreFault)
    (number : IfOk r (λ i. (i ≡ length (chunks_of_store mid)) × (i < MAX_CHUNKS)))
    (added : OnOk r (new ≡ with_offer mid (record { length = length chunk; name = name })))
    (packed : (chunks : List (List ℕ)) → map length chunks ≡ lengths_of (chunks_of_store mid) →
    ContainersBegin ready mid.opened.head.generation (packing chunks) →
    OnOk r (ContainersBegin now mid.opened.head.generation (packing (chunks ++ chunk ∷ []))))
    (others : (f : File) → ((k : ℕ) → f ≢ Container mid.opened.head.generation k) → content now f ≡ content ready f) where
  abbrev known : List (List ℕ)
  known = stored_chunks state ++ offered

  -- it is new, and was appended
  pub offered-new : IfSome old (λ files. IsNewBelow name_of files store chunk (length (chunks_of_store store))) →
      IfSome old (λ before. StandsFor name_of store before state offered → IfOk r (λ i. IsOffered name_of state offered chunk i new now))
  offered-new = go old refl where
    go : (told : Told) → told ≡ old → IfSome told (λ files. IsNewBelow name_of files store chunk (length (chunks_of_store store))) →
        IfSome told (λ before. StandsFor name_of store before state offered → IfOk r (λ i. IsOffered name_of state offered chunk i new now))
    go None is none = tt
    go (Some files) is none = λ stands.
        let count = stands-count name_of store files state offered stands in
        let facts = stands-none name_of store files state offered stands some chunk
        (subst (λ k. IsNewBelow name_of files store chunk k) count none) in
        let told_ready : ready ≡ Some files = same-told old ready same ∙ sym is in
        let generation : mid.opened.head.generation ≡ state.generation =
        ap (λ (s : StoreState). s.opened.head.generation) kept ∙ ap (λ (o : Opened). o.head.generation) stands.opened in
        let lengths : map length known ≡ lengths_of (chunks_of_store mid) =
        sym (lengths-named name_of known) ∙ sym (ap lengths_of (stands-chunks name_of store files state offered stands))
        ∙ ap (λ (s : StoreState). lengths_of (chunks_of_store s)) (sym kept) in
        let begin : OnOk r (ContainersBegin now mid.opened.head.generation (packing (known ++ chunk ∷ []))) = packed known lengths
        (subst (λ (t : Told). ContainersBegin t mid.opened.head.generation (packing known)) (sym told_ready)
        (subst (λ g. ContainersBegin (Some files) g (packing known)) (sym generation) stands.begin)) in
        at_end files stands facts told_ready generation count r now refl number added begin others where
          at_end : (files : File → List ℕ) → (stands : StandsFor name_of store files state offered) →
              (first_index known chunk ≡ length known) × (is_among known chunk ≡ false) × (new_chunks known (chunk ∷ []) ≡ chunk ∷ [])
              × AreDifferent (known ++ chunk ∷ []) →
              ready ≡ Some files → mid.opened.head.generation ≡ state.generation → length (chunks_of_store store) ≡ length known →
              (q : Result ℕ StoreFault) (told : Told) → told ≡ now → IfOk q (λ i. (i ≡ length (chunks_of_store mid)) × (i < MAX_CHUNKS)) →
              OnOk q (new ≡ with_offer mid (record { length = length chunk; name = name })) →
              OnOk q (ContainersBegin now mid.opened.head.generation (packing (known ++ chunk ∷ []))) →
              ((f : File) → ((k : ℕ) → f ≢ Container mid.opened.head.generation k) → content now f ≡ content ready f) →
              IfOk q (λ i. IsOffered name_of state offered chunk i new now)
          at_end files stands facts told_ready generation count (Err e) told is_now number added begin others = tt
          at_end files stands facts told_ready generation count (Ok i) told is_now number added begin others = (
            number.0 ∙ ap (λ (s : StoreState). length (chunks_of_store s)) kept ∙ count ∙ sym facts.0,
            subst (λ (t : Told). IfSome t (λ f. StandsFor name_of new f state (offered ++ new_chunks known (chunk ∷ [])))) is_now
                (after told is_now),
          ) where
            after : (t : Told) → t ≡ now → IfSome t (λ f. StandsFor name_of new f state (offered ++ new_chunks known (chunk ∷ [])))
            after None is_now = tt
            after (Some f) is_now =
                subst (λ (more : List (List ℕ)). StandsFor name_of new f state (offered ++ more)) (sym facts.2)
                (subst (λ (s : StoreState). StandsFor name_of s f state (offered ++ chunk ∷ []))
                (ap (λ (n : List ℕ). with_offer store (record { length = length chunk; name = n })) (sym named_so)
                ∙ ap (λ (s : StoreState). with_offer s (record { length = length chunk; name = name })) (sym kept) ∙ sym added)
                (stands-appended name_of store files f state offered chunk stands facts.3
                (subst (λ g. ContainersBegin (Some f) g (packing (known ++ chunk ∷ []))) generation
                (subst (λ (u : Told). ContainersBegin u mid.opened.head.generation (packing (known ++ chunk ∷ []))) (sym is_now) begin))
                (λ file apart. same-file file files f ready told_ready
                (ap (λ (u : Told). content u file) is_now ∙ others file (λ k same_one. apart k (same_one ∙ ap (λ g. Container g k) generation))))))

-- the containers begin with one chunk more, as the store and its files were before the search
pub packed-passed : (store mid : StoreState) (old ready now : Told) (chunk : List ℕ) → mid ≡ store → SameFiles old ready →
    (r : Result ℕ StoreFault) → ((chunks : List (List ℕ)) → map length chunks ≡ lengths_of (chunks_of_store mid) →
    ContainersBegin ready mid.opened.head.generation (packing chunks) →
    OnOk r (ContainersBegin now mid.opened.head.generation (packing (chunks ++ chunk ∷ [])))) →
    (chunks : List (List ℕ)) → map length chunks ≡ lengths_of (chunks_of_store store) →
    ContainersBegin old store.opened.head.generation (packing chunks) →
    IfOk r (λ i. i ≡ length (chunks_of_store store) → ContainersBegin now store.opened.head.generation (packing (chunks ++ chunk ∷ [])))
packed-passed store mid old ready now chunk kept same (Err e) packed chunks lengths begin = tt
packed-passed store mid old ready now chunk kept same (Ok i) packed chunks lengths begin = λ next.
    let generation : mid.opened.head.generation ≡ store.opened.head.generation = ap (λ (s : StoreState). s.opened.head.generation) kept in
    subst (λ g. ContainersBegin now g (packing (chunks ++ chunk ∷ []))) generation
    (packed chunks (lengths ∙ ap (λ (s : StoreState). lengths_of (chunks_of_store s)) (sym kept))
    (subst (λ (t : Told). ContainersBegin t mid.opened.head.generation (packing chunks)) (sym (same-told old ready same))
    (subst (λ g. ContainersBegin old g (packing chunks)) (sym generation) begin)))

-- whether the store is sound does not matter
sound_too : (name_of : List ℕ → List ℕ) (store : StoreState) (b : Bool) (state : State) (offered : List (List ℕ)) (chunk : List ℕ)
    (now : Told) (r : Result ℕ StoreFault) → IfOk r (λ i. IsOffered name_of state offered chunk i store now) →
    IfOk r (λ i. IsOffered name_of state offered chunk i (record store { sound = b }) now)
sound_too name_of store b state offered chunk now (Err e) done = tt
sound_too name_of store b state offered chunk now (Ok i) done =
    (done.0, told_map now (λ f. stands-sound name_of store f state (offered ++ new_chunks (stored_chunks state ++ offered) (chunk ∷ [])) b) done.1)

pub offered-sound : (name_of : List ℕ → List ℕ) (first store : StoreState) (b : Bool) (state : State) (offered : List (List ℕ)) (chunk : List ℕ)
    (old now : Told) (r : Result ℕ StoreFault) →
    IfSome old (λ before. StandsFor name_of first before state offered → IfOk r (λ i. IsOffered name_of state offered chunk i store now)) →
    IfSome old (λ before. StandsFor name_of first before state offered →
    IfOk r (λ i. IsOffered name_of state offered chunk i (record store { sound = b }) now))
offered-sound name_of first store b state offered chunk old now r done =
    told_map old (λ before offers stands. sound_too name_of store b state offered chunk now r (offers stands)) done

-- if the store stands for a state, an offer finds no damage, and there are too many chunks only if
-- this is none of them
pub refused-stands : (Z : Type 0) (name_of : List ℕ → List ℕ) (store : StoreState) (told : Told) (chunk : List ℕ)
    (some : All (λ n. 1 ≤ n) (lengths_of (chunks_of_store store))) (state : State) (offered : List (List ℕ)) (r : Result ℕ StoreFault) →
    OnErr r (OnlyOffers r × Z) →
    ((damage : Damage) → r ≡ Err (Damaged damage) → IfSome told (λ files. IsFoundDamaged name_of files store chunk damage)) →
    (r ≡ Err TooManyChunks →
    (length (chunks_of_store store) ≡ MAX_CHUNKS) × IfSome told (λ files. IsNewBelow name_of files store chunk MAX_CHUNKS)) →
    IfSome told (λ before. StandsFor name_of store before state offered → OnErr r (IsRefused state offered chunk r))
refused-stands Z name_of store None chunk some state offered r refused damaged too_many = tt
refused-stands Z name_of store (Some files) chunk some state offered (Ok i) refused damaged too_many = λ stands. tt
refused-stands Z name_of store (Some files) chunk some state offered (Err e) refused damaged too_many = λ stands. elim refused.0 [
  | inl found ↦ absurd (stands-undamaged name_of store files state offered stands some chunk found.0 (damaged found.0 found.1))
  | inr (inl many) ↦
      let full = too_many many in
      let count = stands-count name_of store files state offered stands in
      let all : length (stored_chunks state ++ offered) ≡ MAX_CHUNKS = sym count ∙ full.0 in
      inl (
        many,
        all,
        (stands-none name_of store files state offered stands some chunk
            (subst (λ k. IsNewBelow name_of files store chunk k) (sym all) full.1)).1,
      )
  | inr (inr fails) ↦ inr fails
]
