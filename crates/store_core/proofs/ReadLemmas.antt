-- A chunk of a store as it is read.
use Rattle.std.proofs.Common.{◌≡◌, ◌<◌, arith, ℕ, List, length, take, drop, ap, subst, ◌∙◌}
use Rattle.std.specs.Prelude.{Err, IfOk, IfSome, Ok, Result, None, Some, slice_index_or}
use Rattle.container_pack.specs.declared.spot.Spot.{Spot}
use Rattle.edge_traits.specs.Shelf.{IsReadAt, content}
use Rattle.sd_base.specs.declared.file.File.TheVariants.{Container}
use Rattle.sd_base.specs.declared.record.NewChunk.{NewChunk}
use Rattle.store_core.specs.StoreStates.{StoreState, chunks_of_store, chunk_as_read, kept_chunk, spot_of_chunk}
use Rattle.store_core.specs.StoreFields.{ArePlaced}
use Rattle.store_core.specs.declared.name_index.NameIndex.{NameIndex}
use Rattle.container_pack.specs.declared.packer.Packer.{Packer}
use Rattle.std.proofs.lemmas.List.{get_or_default}
use Rattle.store_core.proofs.FieldLemmas.{places-count}
use Rattle.store_core.proofs.StoreLemmas.{Told}

-- what was read at the spot of a chunk is the chunk as it is read
pub read-is : (told : Told) (store : StoreState) (i : ℕ) (spot : Spot) (kept : NewChunk) (read : List ℕ) →
    spot ≡ spot_of_chunk store i → kept ≡ kept_chunk store i →
    IsReadAt (content told (Container store.opened.head.generation spot.container)) spot.offset kept.length read →
    IfSome told (λ files. read ≡ chunk_as_read files store i)
read-is None store i spot kept read at is given = tt
read-is (Some files) store i spot kept read at is given =
    given
    ∙ ap (λ (s : Spot). take kept.length (drop s.offset (files (Container store.opened.head.generation s.container)))) at
    ∙ ap (λ (c : NewChunk). take c.length (drop (spot_of_chunk store i).offset
    (files (Container store.opened.head.generation (spot_of_chunk store i).container)))) is

pub read-is_ok : (told : Told) (store : StoreState) (i : ℕ) (spot : Spot) (kept : NewChunk) {A E : Type 0} (items : A → List ℕ)
    (r : Result A E) (generation : ℕ) → generation ≡ store.opened.head.generation → spot ≡ spot_of_chunk store i → kept ≡ kept_chunk store i →
    IfOk r (λ read. IsReadAt (content told (Container generation spot.container)) spot.offset kept.length (items read)) →
    IfOk r (λ read. IfSome told (λ files. items read ≡ chunk_as_read files store i))
read-is_ok told store i spot kept items (Ok read) generation of at is given =
    read-is told store i spot kept (items read) at is
    (subst (λ (g : ℕ). IsReadAt (content told (Container g spot.container)) spot.offset kept.length (items read)) of given)
read-is_ok told store i spot kept items (Err e) generation of at is given = tt

-- the spot that is kept of a chunk is its own
pub spot-is : (store : StoreState) (lie : List Spot) (packer : Packer) (index : NameIndex) (i : ℕ) (spot : Spot) →
    ArePlaced (chunks_of_store store) store.opened.head.generation lie packer index → i < length (chunks_of_store store) →
    spot ≡ slice_index_or lie i spot → spot ≡ spot_of_chunk store i
spot-is store lie packer index i spot placed within is =
    is ∙ get_or_default lie i spot (record { container = 0; offset = 0 })
    (omega (arith, within, places-count (chunks_of_store store) store.opened.head.generation lie packer index placed))
    ∙ ap (λ (l : List Spot). slice_index_or l i (record { container = 0; offset = 0 })) placed.spots
