-- All chunks, a batch after the other, and the chunks that the containers of a store have.
use Rattle.std.proofs.Common.{◌≡◌, inl, inr, ℕ, ◌+◌, ◌-◌, ◌<◌, ◌≤◌, List, [], take, drop, length, map, slice_index_or, ap, sym, subst, ◌∙◌, arith, IfSome}
use Rattle.std.specs.Prelude.{Option, None, Some}
use Rattle.std.specs.List.{All, slice_range}
use Rattle.std.proofs.lemmas.List.{drop-map, get_or-drop, get_or-take, length-drop, length-map, length-take, take-map}
use Rattle.std.proofs.lemmas.Bool.{cases_lt}
use Rattle.container_pack.specs.declared.spot.Spot.{Spot}
use Rattle.edge_traits.specs.Shelf.{SameFiles}
use Rattle.ingest_core.specs.AuditChunks.{AreKeptNames, AreStored, IsKeptName, IsMisnamed, kept_at, lengths_kept, spot_at}
use Rattle.sd_base.specs.Firsts.{HoldsBelow}
use Rattle.sd_base.specs.declared.damage.Damage.{Damage}
use Rattle.sd_base.specs.declared.damage.Damage.TheVariants.{Chunk}
use Rattle.sd_base.specs.declared.file.File.{File}
use Rattle.sd_base.specs.declared.file.File.TheVariants.{Container, Head}
use Rattle.sd_base.specs.declared.record.NewChunk.{NewChunk}

-- an item of a range
pub range-at : {X : Type 0} (xs : List X) (a b i : ℕ) (d : X) → i < b - a → slice_index_or (slice_range xs a b) i d ≡ slice_index_or xs (a + i) d
range-at xs a b i d within = get_or-take (b - a) (drop a xs) i d within ∙ get_or-drop a xs i d

range-map : {X Y : Type 0} (f : X → Y) (xs : List X) (a b : ℕ) → map f (slice_range xs a b) ≡ slice_range (map f xs) a b
range-map {X} {Y} f xs a b =
    sym (take-map f (b - a) (drop a xs)) ∙ ap (λ (ys : List Y). take (b - a) ys) (sym (drop-map f a xs))

pub range-count : {X : Type 0} (xs : List X) (a b : ℕ) → b ≤ length xs → length (slice_range xs a b) ≡ b - a
range-count xs a b within =
    let rest = length-drop a xs in
    let part = length-take (b - a) (drop a xs) in
    omega (arith, rest, part, within)

-- what holds of all lengths holds of those of a range
pub range-all : (P : ℕ → Type 0) (kept : List NewChunk) (a b : ℕ) → b ≤ length kept → All P (lengths_kept kept) →
    All P (lengths_kept (slice_range kept a b))
range-all P kept a b within all k d below =
    let f : NewChunk → ℕ = λ (chunk : NewChunk). chunk.length in
    let same = range-map f kept a b in
    let count = length-map kept f in
    let part = length-map (slice_range kept a b) f in
    let size = range-count kept a b within in
    subst P (sym (ap (λ (ns : List ℕ). slice_index_or ns k d) same ∙ range-at (map f kept) a b k d (omega (arith, below, part, size))))
    (all (a + k) d (omega (arith, below, part, size, count, within)))

module _ (kept : List NewChunk) (names : List (List ℕ)) (a b : ℕ) (within : b ≤ length kept)
    (before : HoldsBelow a (IsKeptName kept names)) where
  no_chunk : NewChunk
  no_chunk = record { length = 0; name = [] }

  -- a name of a range
  from-range : (i : ℕ) → i < b - a → IsKeptName (slice_range kept a b) (slice_range names a b) i → IsKeptName kept names (a + i)
  unfolding no_chunk
  from-range i below is =
      sym (range-at names a b i [] below) ∙ is ∙ ap (λ (chunk : NewChunk). chunk.name) (range-at kept a b i no_chunk below)

  to-range : (i : ℕ) → i < b - a → IsKeptName kept names (a + i) → IsKeptName (slice_range kept a b) (slice_range names a b) i
  unfolding no_chunk
  to-range i below is =
      range-at names a b i [] below ∙ is ∙ sym (ap (λ (chunk : NewChunk). chunk.name) (range-at kept a b i no_chunk below))

  below-range : (i : ℕ) → i < length (slice_range kept a b) → i < b - a
  below-range i below = let size = range-count kept a b within in omega (arith, below, size)

  -- the names of one batch more
  pub names-next : AreKeptNames (slice_range kept a b) (slice_range names a b) → HoldsBelow b (IsKeptName kept names)
  names-next here k below = elim (cases_lt k a) [
    | inl first ↦ before k first
    | inr past ↦
        let size = range-count kept a b within in
        let at : a + (k - a) ≡ k = omega (arith, past) in
        subst (IsKeptName kept names) at (from-range (k - a) (omega (arith, past, below))
        (here (k - a) (omega (arith, past, below, size))))
  ]

  -- the first name that is another, in the batch and of all
  pub misnamed-next : (damage : Damage) → IsMisnamed (slice_range kept a b) (slice_range names a b) a damage →
      IsMisnamed kept names 0 damage
  unfolding no_chunk
  misnamed-next damage found =
      let place = found.place in
      let size = range-count kept a b within in
      let inside = below-range place found.first.within in
      record {
        place = a + place;
        first = record {
          within = omega (arith, inside, within);
          before = λ k below. elim (cases_lt k a) [
            | inl first ↦ before k first
            | inr past ↦
                let at : a + (k - a) ≡ k = omega (arith, past) in
                subst (IsKeptName kept names) at (from-range (k - a) (omega (arith, past, below, inside))
                (found.first.before (k - a) (omega (arith, past, below))))
          ];
          fails = λ is. found.first.fails (to-range place inside is);
        };
        equals = found.equals
            ∙ ap (λ n. Chunk n (kept_at (slice_range kept a b) place).name (slice_index_or (slice_range names a b) place [])) (omega arith)
            ∙ ap (λ (chunk : NewChunk). Chunk (0 + (a + place)) chunk.name (slice_index_or (slice_range names a b) place [])) (range-at kept a b place no_chunk inside)
            ∙ ap (λ (name : List ℕ). Chunk (0 + (a + place)) (kept_at kept (a + place)).name name) (range-at names a b place [] inside);
      }

no_spot : Spot
no_spot = record { container = 0; offset = 0 }

no_kept : NewChunk
no_kept = record { length = 0; name = [] }

-- a range of stored chunks
pub range-stored : (files : File → List ℕ) (generation : ℕ) (spots : List Spot) (kept : List NewChunk) (stored : List (List ℕ))
    (a b : ℕ) → b ≤ length kept → AreStored files generation spots kept stored →
    AreStored files generation (slice_range spots a b) (slice_range kept a b) (slice_range stored a b)
unfolding no_spot no_kept
range-stored files generation spots kept stored a b within are =
    let f : NewChunk → ℕ = λ (chunk : NewChunk). chunk.length in
    let read : Spot → NewChunk → List ℕ = λ spot chunk. take chunk.length (drop spot.offset (files (Container generation spot.container))) in
    record {
      lengths = range-map length stored a b ∙ ap (λ (ns : List ℕ). slice_range ns a b) are.lengths ∙ sym (range-map f kept a b);
      bytes = λ i below.
          let size = range-count kept a b within in
          let inside : i < b - a = omega (arith, below, size) in
          ap (λ (chunk : NewChunk). read (spot_at (slice_range spots a b) i) chunk) (range-at kept a b i no_kept inside)
          ∙ ap (λ (spot : Spot). read spot (kept_at kept (a + i))) (range-at spots a b i no_spot inside)
          ∙ are.bytes (a + i) (omega (arith, inside, within))
          ∙ sym (range-at stored a b i [] inside);
    }

some-in : List ℕ → Option (List ℕ) → List ℕ
some-in other None = other
some-in other (Some bytes) = bytes

-- what follows from stored chunks after a call that changed no file, followed from them before it
pub same-stored : (before after : Option (File → List ℕ)) → SameFiles before after → (C : Type 0) (generation : ℕ)
    (spots : List Spot) (kept : List NewChunk) (stored : List (List ℕ)) →
    IfSome after (λ files. AreStored files generation spots kept stored → C) →
    IfSome before (λ files. AreStored files generation spots kept stored → C)
unfolding some-in
same-stored None after same C generation spots kept stored holds = tt
same-stored (Some before) None same C generation spots kept stored holds = let clash = same Head in absurd cc
same-stored (Some before) (Some after) same C generation spots kept stored holds = λ are.
    holds (record {
      lengths = are.lengths;
      bytes = λ i within.
          let file : File = Container generation (spot_at spots i).container in
          let is : after file ≡ before file = ap (some-in []) (same file) in
          ap (λ (bytes : List ℕ). take (kept_at kept i).length (drop (spot_at spots i).offset bytes)) is ∙ are.bytes i within;
    })

module _ (name_of : List ℕ → List ℕ) (generation : ℕ) (spots : List Spot) (kept : List NewChunk) (stored : List (List ℕ)) where
  -- the names of the first chunks are those that are kept
  abbrev pub AreNamedTo : Option (File → List ℕ) → ℕ → Type 0
  AreNamedTo told n =
      IfSome told (λ files. AreStored files generation spots kept stored → HoldsBelow n (IsKeptName kept (map name_of stored)))

  pub batch-next : (told : Option (File → List ℕ)) (a b : ℕ) → b ≤ length kept → AreNamedTo told a →
      IfSome told (λ files. AreStored files generation (slice_range spots a b) (slice_range kept a b) (slice_range stored a b)
      → AreKeptNames (slice_range kept a b) (map name_of (slice_range stored a b))) → AreNamedTo told b
  batch-next None a b within before here = tt
  batch-next (Some files) a b within before here = λ are.
      names-next kept (map name_of stored) a b within (before are)
      (subst (AreKeptNames (slice_range kept a b)) (range-map name_of stored a b)
      (here (range-stored files generation spots kept stored a b within are)))

  pub batch-fails : (told : Option (File → List ℕ)) (a b : ℕ) (damage : Damage) → b ≤ length kept → AreNamedTo told a →
      IfSome told (λ files. AreStored files generation (slice_range spots a b) (slice_range kept a b) (slice_range stored a b)
      → IsMisnamed (slice_range kept a b) (map name_of (slice_range stored a b)) a damage) →
      IfSome told (λ files. AreStored files generation spots kept stored → IsMisnamed kept (map name_of stored) 0 damage)
  batch-fails None a b damage within before here = tt
  batch-fails (Some files) a b damage within before here = λ are.
      misnamed-next kept (map name_of stored) a b within (before are) damage
      (subst (λ (names : List (List ℕ)). IsMisnamed (slice_range kept a b) names a damage) (range-map name_of stored a b)
      (here (range-stored files generation spots kept stored a b within are)))

  pub all-named : (told : Option (File → List ℕ)) (n : ℕ) → length kept ≤ n → AreNamedTo told n →
      IfSome told (λ files. AreStored files generation spots kept stored → AreKeptNames kept (map name_of stored))
  all-named None n past before = tt
  all-named (Some files) n past before = λ are k below. before are k (omega (arith, past, below))
