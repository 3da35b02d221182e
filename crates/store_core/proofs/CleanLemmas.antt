-- Containers with no byte too many, and one more chunk.
use Rattle.std.proofs.Common.{◌≡◌, ◌≢◌, inl, inr, ℕ, ◌≤◌, List, [], ◌∷◌, ◌++◌, length, map, sym, subst, ◌∙◌, arith}
use Rattle.std.specs.Prelude.{Option, slice_index_or}
use Rattle.std.proofs.lemmas.Bool.{cases_eq, cases_lt}
use Rattle.std.proofs.lemmas.List.{get_or_past}
use Rattle.container_pack.specs.Containers.{ContainersBegin, HasOnly}
use Rattle.container_pack.specs.Packer.{IsBehind, StandsBehind, generation_of, next_file, next_spot}
use Rattle.container_pack.specs.declared.packer.Packer.{Packer}
use Rattle.container_pack.specs.declared.spot.Spot.{Spot}
use Rattle.container_pack.proofs.PackerLemmas.{Container-apart, pushed_behind}
use Rattle.container_pack.proofs.PushLemmas.{Pushed}
use Rattle.container_pack.proofs.ShelfLemmas.{Begins-only}
use Rattle.edge_traits.specs.Shelf.{ChangesOnly, content}
use Rattle.sd_base.specs.Packing.{packing}
use Rattle.sd_base.specs.declared.file.File.{File}
use Rattle.sd_base.specs.declared.file.File.TheVariants.{Container}
use Rattle.store_core.specs.CleanFiles.{ContainersAre}
use Rattle.store_core.specs.StoreFields.{ArePlaced, lengths_of}
use Rattle.store_core.specs.StoreStates.{StoreState, chunks_of_store}
use Rattle.store_core.specs.declared.name_index.NameIndex.{NameIndex}
use Rattle.store_core.proofs.StoreLemmas.{Told}

-- files that are the containers begin with them
pub exact-begin : (files : Told) (generation : ℕ) (containers : List (List ℕ)) → ContainersAre files generation containers →
    ContainersBegin files generation containers
exact-begin files generation containers exact = λ k within.
    Begins-only (content files (Container generation k)) (slice_index_or containers k []) (exact k)

-- one more chunk changes one container alone
exact-pushed : (before after : Told) (generation : ℕ) (old new : List (List ℕ)) (spot : Spot) (chunk : List ℕ) →
    ContainersAre before generation old → Pushed old new spot chunk →
    HasOnly (content after (Container generation spot.container)) (slice_index_or new spot.container []) →
    ((f : File) → f ≢ Container generation spot.container → content after f ≡ content before f) → ContainersAre after generation new
exact-pushed before after generation old new spot chunk exact pushed only others = λ k. elim (cases_eq k spot.container) [
  | inl same ↦
      subst (λ (n : ℕ). HasOnly (content after (Container generation n)) (slice_index_or new n [])) (sym same) only
  | inr apart ↦
      let stays : slice_index_or new k [] ≡ slice_index_or old k [] = elim (cases_lt k spot.container) [
        | inl below ↦ pushed.others k below
        | inr past ↦
            get_or_past new k [] (omega (arith, past, apart, pushed.count))
            ∙ sym (get_or_past old k [] (omega (arith, past, apart, pushed.no_more)))
      ] in
      subst (λ (held : Option (List ℕ)). HasOnly held (slice_index_or new k []))
      (sym (others (Container generation k) (Container-apart generation k spot.container apart)))
      (subst (λ (all : List ℕ). HasOnly (content before (Container generation k)) all) (sym stays) (exact k))
]

-- the same of a store that appends a chunk
pub exact-appended : (store : StoreState) (lie : List Spot) (packer : Packer) (index : NameIndex) →
    ArePlaced (chunks_of_store store) store.opened.head.generation lie packer index → (before after : Told) (chunk : List ℕ) →
    1 ≤ length chunk → (spot : Spot) → spot ≡ next_spot packer (length chunk) →
    ((chunks : List (List ℕ)) → StandsBehind packer before chunks →
    HasOnly (content after (Container (generation_of packer) spot.container))
    (slice_index_or (packing (chunks ++ chunk ∷ [])) spot.container [])) →
    ChangesOnly (next_file packer (length chunk)) before after → (chunks : List (List ℕ)) →
    map length chunks ≡ lengths_of (chunks_of_store store) →
    ContainersAre before store.opened.head.generation (packing chunks) →
    ContainersAre after store.opened.head.generation (packing (chunks ++ chunk ∷ []))
exact-appended store lie packer index placed before after chunk some spot at ends others chunks lengths exact =
    let more = packing (chunks ++ chunk ∷ []) in
    let behind : IsBehind packer (map length chunks) = subst (λ (ns : List ℕ). IsBehind packer ns) (sym lengths) placed.behind in
    let own : ContainersAre before (generation_of packer) (packing chunks) =
    subst (λ g. ContainersAre before g (packing chunks)) (sym placed.generation) exact in
    let stands : StandsBehind packer before chunks = record {
      behind = behind;
      begin = exact-begin before (generation_of packer) (packing chunks) own;
    } in
    subst (λ g. ContainersAre after g more) placed.generation
    (exact-pushed before after (generation_of packer) (packing chunks) more (next_spot packer (length chunk)) chunk own
    (pushed_behind packer before chunks chunk some behind)
    (subst (λ (s : Spot). HasOnly (content after (Container (generation_of packer) s.container)) (slice_index_or more s.container []))
    at (ends chunks stands)) others)

-- containers that begin with some chunks begin with these and the one that is appended
pub packed-appended : (store : StoreState) (lie : List Spot) (packer next : Packer) (index : NameIndex) →
    ArePlaced (chunks_of_store store) store.opened.head.generation lie packer index → (before after : Told) (chunk : List ℕ) →
    generation_of next ≡ generation_of packer →
    ((chunks : List (List ℕ)) → StandsBehind packer before chunks → StandsBehind next after (chunks ++ chunk ∷ [])) →
    (chunks : List (List ℕ)) → map length chunks ≡ lengths_of (chunks_of_store store) →
    ContainersBegin before store.opened.head.generation (packing chunks) →
    ContainersBegin after store.opened.head.generation (packing (chunks ++ chunk ∷ []))
packed-appended store lie packer next index placed before after chunk same packed chunks lengths begin =
    let stands : StandsBehind packer before chunks = record {
      behind = subst (λ (ns : List ℕ). IsBehind packer ns) (sym lengths) placed.behind;
      begin = subst (λ g. ContainersBegin before g (packing chunks)) (sym placed.generation) begin;
    } in
    subst (λ g. ContainersBegin after g (packing (chunks ++ chunk ∷ []))) (same ∙ placed.generation) (packed chunks stands).begin
