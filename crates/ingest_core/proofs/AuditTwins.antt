-- Stored chunks with equal bytes have equal names, so the look at earlier chunks of the same name finds
-- the first that a chunk equals.
use Rattle.std.proofs.Common.{◌≡◌, ◌≢◌, ℕ, ◌+◌, ◌<◌, Bool, true, false, cond, List, [], length, map, slice_index_or, ap, sym, subst, refl, ◌∙◌, arith, inl, inr, IfSome, IsTrue, nat_eq}
use Rattle.std.specs.Prelude.{Option, None, Some, not, ◌↔◌}
use Rattle.std.specs.Str.{bytes_eq}
use Rattle.std.proofs.lemmas.Bool.{cases_lt, eq-eqb}
use Rattle.std.proofs.lemmas.List.{get_or-map}
use Rattle.std.proofs.lemmas.Slice.Eq.{bytes_eq-Decides}
use Rattle.container_pack.specs.declared.spot.Spot.{Spot}
use Rattle.edge_traits.specs.Shelf.{SameFiles}
use Rattle.ingest_core.proofs.AuditBatches.{same-stored}
use Rattle.ingest_core.proofs.AuditChunks.{count-of}
use Rattle.ingest_core.specs.AuditChunks.{AreKeptNames, AreStored, kept_at, lengths_kept}
use Rattle.ingest_core.specs.AuditTwins.{HasSeen, IsEarlierTwin, IsFirstTwin, short_name}
use Rattle.sd_base.proofs.InOrder.{among-at, first_index-new}
use Rattle.sd_base.proofs.Recipes.{chunk_at-first_index}
use Rattle.sd_base.specs.Distinct.{first_index}
use Rattle.sd_base.specs.Firsts.{HoldsBelow}
use Rattle.sd_base.specs.Flaws.{IsNew}
use Rattle.sd_base.specs.declared.damage.Damage.{Damage}
use Rattle.sd_base.specs.declared.damage.Damage.TheVariants.{Twin}
use Rattle.sd_base.specs.declared.file.File.{File}
use Rattle.sd_base.specs.declared.record.NewChunk.{NewChunk}

-- chunks i and j have the same bytes
abbrev pub AreEqual : List (List ℕ) → ℕ → ℕ → Type 0
AreEqual stored i j = slice_index_or stored i [] ≡ slice_index_or stored j []

-- the first n chunks differ from chunk i
abbrev pub DifferTo : List (List ℕ) → ℕ → ℕ → Type 0
DifferTo stored i n = HoldsBelow n (λ k. slice_index_or stored k [] ≢ slice_index_or stored i [])

-- one number more
pub below-next : (P : ℕ → Type 0) (n : ℕ) → HoldsBelow n P → P n → HoldsBelow (n + 1) P
below-next P n before here k below = elim (cases_lt k n) [
  | inl first ↦ before k first
  | inr last ↦ let at : n ≡ k = omega (arith, last, below) in subst P at here
]

module _ (name_of : List ℕ → List ℕ) (generation : ℕ) (spots : List Spot) (kept : List NewChunk) (stored : List (List ℕ)) where
  -- this follows if the files, as far as they are known, have the chunks, and the names of these are kept
  abbrev pub IfThere : Option (File → List ℕ) → Type 0 → Type 0
  IfThere told Fact =
      IfSome told (λ files. AreStored files generation spots kept stored → AreKeptNames kept (map name_of stored) → Fact)

  -- what follows without the names
  pub there-bytes : (told : Option (File → List ℕ)) (A : Type 0) →
      IfSome told (λ files. AreStored files generation spots kept stored → A) → IfThere told A
  there-bytes None A holds = tt
  there-bytes (Some files) A holds = λ are named. holds are

  -- what follows from the lengths and the names alone
  pub there : (told : Option (File → List ℕ)) (A : Type 0) →
      (map length stored ≡ lengths_kept kept → AreKeptNames kept (map name_of stored) → A) → IfThere told A
  there None A then = tt
  there (Some files) A then = λ are named. then are.lengths named

  -- what follows from two facts
  pub there-both : (told : Option (File → List ℕ)) (A B C : Type 0) →
      (map length stored ≡ lengths_kept kept → A → B → C) → IfThere told A → IfThere told B → IfThere told C
  there-both None A B C then one other = tt
  there-both (Some files) A B C then one other = λ are named. then are.lengths (one are named) (other are named)

  -- what follows after a call that changed no file, followed before it
  pub there-before : (before after : Option (File → List ℕ)) → SameFiles before after → (A : Type 0) → IfThere after A → IfThere before A
  there-before before after same A holds =
      same-stored before after same (AreKeptNames kept (map name_of stored) → A) generation spots kept stored holds

  module _ (lengths : map length stored ≡ lengths_kept kept) (named : AreKeptNames kept (map name_of stored)) where
    -- equal chunks have equal names
    pub same-name : (i j : ℕ) → i < length kept → j < length kept → AreEqual stored i j → (kept_at kept i).name ≡ (kept_at kept j).name
    same-name i j within other same =
        let count = count-of stored kept lengths in
        sym (named i within)
        ∙ get_or-map name_of stored i [] [] (omega (arith, within, count))
        ∙ ap name_of same
        ∙ sym (get_or-map name_of stored j [] [] (omega (arith, other, count)))
        ∙ named j other

    -- a chunk whose short name was not seen is new
    pub unseen-new : (seen : ℕ → Bool) (i : ℕ) → i < length kept → HasSeen seen kept i →
        true ≡ not (seen (short_name (kept_at kept i).name)) → IsNew stored i
    unseen-new seen i within before unseen j below same =
        let short : short_name (kept_at kept j).name ≡ short_name (kept_at kept i).name =
        ap short_name (same-name j i (omega (arith, within, below)) within same) in
        let had : seen (short_name (kept_at kept i).name) ≡ true = ap seen (sym short) ∙ before j below in
        let clash : true ≡ false = unseen ∙ ap not had in
        absurd cc

-- chunks whose names differ are no twins
pub names-differ : (name_of : List ℕ → List ℕ) (generation : ℕ) (spots : List Spot) (kept : List NewChunk) (stored : List (List ℕ))
    (told : Option (File → List ℕ)) (i j : ℕ) → i < length kept → j < length kept →
    true ≡ not (bytes_eq (kept_at kept i).name (kept_at kept j).name) →
    IfThere name_of generation spots kept stored told (IsTrue false ↔ AreEqual stored i j)
names-differ name_of generation spots kept stored told i j within other differ =
    there name_of generation spots kept stored told (IsTrue false ↔ AreEqual stored i j) (λ lengths named. (
      λ is. absurd cc,
      λ same.
          let equal : bytes_eq (kept_at kept i).name (kept_at kept j).name ≡ true =
          (bytes_eq-Decides (kept_at kept i).name (kept_at kept j).name).1
          (same-name name_of generation spots kept stored lengths named i j within other same) in
          let clash : true ≡ false = differ ∙ ap not equal in
          absurd cc,
    ))

-- bytes that are read tell whether chunks are equal
pub bytes-tell : (stored : List (List ℕ)) (i j : ℕ) (first second : List ℕ) (same : Bool) → same ≡ bytes_eq first second →
    first ≡ slice_index_or stored i [] → second ≡ slice_index_or stored j [] → IsTrue same ↔ AreEqual stored i j
bytes-tell stored i j first second same is one other = (
  λ equal. sym one ∙ (bytes_eq-Decides first second).0 (sym is ∙ equal) ∙ other,
  λ equal. is ∙ (bytes_eq-Decides first second).1 (one ∙ equal ∙ sym other),
)

-- one chunk more that is no twin
pub differ-next : (stored : List (List ℕ)) (i n : ℕ) (same : Bool) → same ≡ false → DifferTo stored i n →
    (IsTrue same ↔ AreEqual stored n i) → DifferTo stored i (n + 1)
differ-next stored i n same is before tells =
    below-next (λ k. slice_index_or stored k [] ≢ slice_index_or stored i []) n before
    (λ equal. let clash : true ≡ false = sym (tells.1 equal) ∙ is in absurd cc)

-- the first chunk that is a twin
pub twin-first : (stored : List (List ℕ)) (i n : ℕ) (same : Bool) → same ≡ true → n < i → i < length stored → DifferTo stored i n →
    (IsTrue same ↔ AreEqual stored n i) → IsEarlierTwin stored i (Some n)
twin-first stored i n same is below within before tells =
    let equal : AreEqual stored n i = tells.0 is in (
      below,
      sym (first_index-new stored n (omega (arith, below, within)) (λ j early again. before j early (again ∙ equal)))
          ∙ ap (first_index stored) equal,
    )

-- a chunk with an earlier twin is not new
pub twin-fails : (stored : List (List ℕ)) (i first : ℕ) → i < length stored → IsEarlierTwin stored i (Some first) → IsNew stored i → ⊥
twin-fails stored i first within twin new =
    new first twin.0
    (ap (λ k. slice_index_or stored k []) twin.1
    ∙ chunk_at-first_index stored (slice_index_or stored i []) (among-at stored i within))

-- the twin that is found first
pub first-twin : (stored : List (List ℕ)) (i first : ℕ) (damage : Damage) → i < length stored → HoldsBelow i (IsNew stored) →
    IsEarlierTwin stored i (Some first) → Twin first i ≡ damage → IsFirstTwin stored damage
first-twin stored i first damage within before twin is = record {
  place = i;
  first = record {
    within = within;
    before = before;
    fails = twin-fails stored i first within twin;
  };
  equals = sym is ∙ ap (λ n. Twin n i) twin.1;
}

-- a short name is seen by either way
either : (b : Bool) → cond b true true ≡ true
either true = refl
either false = refl

-- one short name more that was seen
pub seen-next : (old new : ℕ → Bool) (kept : List NewChunk) (n : ℕ) → HasSeen old kept n →
    ((q : ℕ) → new q ≡ cond (nat_eq (short_name (kept_at kept n).name) q) true (old q)) → HasSeen new kept (n + 1)
seen-next old new kept n before updates =
    below-next (λ i. IsTrue (new (short_name (kept_at kept i).name))) n
    (λ i below.
    let q : ℕ = short_name (kept_at kept i).name in
    updates q ∙ ap (λ was. cond (nat_eq (short_name (kept_at kept n).name) q) true was) (before i below)
    ∙ either (nat_eq (short_name (kept_at kept n).name) q))
    (let q : ℕ = short_name (kept_at kept n).name in
    updates q ∙ ap (λ same. cond same true (old q)) (eq-eqb q q refl))
