-- The search for a chunk by its name.
use Rattle.std.proofs.Common.{◌≡◌, ℕ, ◌+◌, ◌<◌, true, false, List, [], length, get_or, Some, None, sym, subst, ◌∙◌, arith, inl, inr}
use Rattle.std.specs.List.{position}
use Rattle.std.specs.Str.{bytes_eq}
use Rattle.std.proofs.lemmas.Bool.{cases_lt}
use Rattle.std.proofs.lemmas.List.{get_or-map, length-map}
use Rattle.std.proofs.lemmas.List.Quantifiers.{position-Some}
use Rattle.std.proofs.lemmas.List.Sums.{fails_before_first}
use Rattle.std.proofs.lemmas.Slice.Eq.{bytes_eq-Decides}
use Rattle.sd_base.specs.declared.file.File.{File}
use Rattle.sd_base.specs.declared.record.NewChunk.{NewChunk}
use Rattle.store_core.specs.Offers.{IsIntactIfNamed, IsNewBelow, IsSame}
use Rattle.store_core.specs.StoreFields.{names_of}
use Rattle.store_core.specs.StoreStates.{StoreState, chunks_of_store, kept_chunk}
use Rattle.store_core.proofs.NameIndexLemmas.{none_is}

module _ (name_of : List ℕ → List ℕ) (files : File → List ℕ) (store : StoreState) (chunk name : List ℕ) (named : name ≡ name_of chunk) where
  names : List (List ℕ)
  names = names_of (chunks_of_store store)

  -- the name is found at the number of a chunk that has it
  has_name : (j : ℕ) → j < length (chunks_of_store store) → (kept_chunk store j).name ≡ name_of chunk →
      bytes_eq name (get_or (names_of (chunks_of_store store)) j []) ≡ true
  has_name j within same =
      (bytes_eq-Decides name (get_or (names_of (chunks_of_store store)) j [])).1
      (named ∙ sym same ∙ sym (get_or-map (λ (c : NewChunk). c.name) (chunks_of_store store) j _ _ within))

  -- if no chunk below a number has the name, the chunk is new below it
  none-new : (k : ℕ) → ((j : ℕ) → j < k → (kept_chunk store j).name ≡ name_of chunk → ⊥) → IsNewBelow name_of files store chunk k
  none-new k other = record {
    none = λ j lt same. other j lt same.name;
    intact = λ j lt is. absurd (other j lt is);
  }

  pub none-named : position (bytes_eq name) (names_of (chunks_of_store store)) ≡ None →
      IsNewBelow name_of files store chunk (length (chunks_of_store store))
  none-named is = none-new (length (chunks_of_store store)) (λ j lt same.
      let all = names_of (chunks_of_store store) in
      let last = none_is (bytes_eq name) all is in
      let clash : true ≡ false = sym (has_name j lt same) ∙ fails_before_first (bytes_eq name) all j []
      (omega (arith, lt, last, length-map (chunks_of_store store) (λ (c : NewChunk). c.name))) in
      absurd cc)

  pub none-below : (k : ℕ) → position (bytes_eq name) (names_of (chunks_of_store store)) ≡ Some k → IsNewBelow name_of files store chunk k
  none-below k is = none-new k (λ j lt same.
      let all = names_of (chunks_of_store store) in
      let at = position-Some (bytes_eq name) all k [] is in
      let within : j < length (chunks_of_store store) = omega (arith, lt, at.0, length-map (chunks_of_store store) (λ (c : NewChunk). c.name)) in
      let clash : true ≡ false = sym (has_name j within same) ∙ at.2 j lt in
      absurd cc)

  -- one more that is not the same, and is intact
  pub none-next : (k : ℕ) → IsNewBelow name_of files store chunk k → (IsSame name_of files store chunk k → ⊥) →
      IsIntactIfNamed name_of files store chunk k → IsNewBelow name_of files store chunk (k + 1)
  none-next k new not_this intact = record {
    none = λ j lt same.
        elim (cases_lt j k) [
          | inl below ↦ new.none j below same
          | inr above ↦ not_this (subst (λ i. IsSame name_of files store chunk i) (omega (arith, lt, above)) same)
        ];
    intact = λ j lt.
        elim (cases_lt j k) [
          | inl below ↦ new.intact j below
          | inr above ↦ subst (λ i. IsIntactIfNamed name_of files store chunk i) (omega (arith, lt, above)) intact
        ];
  }
