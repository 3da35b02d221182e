use Rattle.std.proofs.Common.{rules, ◌≡◌, ◌∙◌, ◌≤◌, ℕ, List, IfSome, ap, length, map, sym, subst}
use Rattle.std.specs.Prelude.{Err, Ok, OnOk, Result}
use Rattle.container_pack.specs.Spots.{LieAt, spots_of}
use Rattle.container_pack.specs.declared.spot.Spot.{Spot}
use Rattle.ingest_core.proofs.AuditContainers.{spots-count}
use Rattle.ingest_core.proofs.AuditContents.{AreCutBy, misnamed-flaw, no-flaw, session-flaw, twin-flaw}
use Rattle.ingest_core.specs.AuditChunks.{AreKeptNames, AreStored, lengths_kept}
use Rattle.ingest_core.specs.AuditCuts.{AreCutsOfAll}
use Rattle.ingest_core.specs.AuditTwins.{IsFirstTwin}
use Rattle.sd_base.proofs.Ranges.{IsValid-numbers_of}
use Rattle.sd_base.specs.Books.{chunks_in}
use Rattle.sd_base.specs.Flaws.{AreFlawless, AreInOrder, AreNew, HaveChunks}
use Rattle.sd_base.specs.Packing.{packing}
use Rattle.sd_base.specs.Params.{numbers_of}
use Rattle.sd_base.specs.declared.limits.TheConstants.{MAX_CHUNKS}
use Rattle.sd_base.specs.declared.record.NewChunk.{NewChunk}
use Rattle.ingest_core.specs.declared.auditing.chunk_cuts.ChunkCuts.{ChunkCuts}
use Rattle.std.specs.List.{All}
use Rattle.store_core.proofs.StoreLemmas.{Told, same-told}
use Rattle.store_core.specs.declared.fault.StoreFault.TheVariants.{Damaged}
use Rattle.ingest_core.proofs.auditing.contents.check_contents.Goals as goal

-- what follows from two facts of a success
ok-both : {T E : Type 0} (r : Result T E) (A B C : Type 0) → (A → B → C) → OnOk r A → OnOk r B → OnOk r C
ok-both (Ok x) A B C then one other = then one other
ok-both (Err e) A B C then one other = tt

pub places-requires-clause-within_limit : goal.places-requires-clause-within_limit
places-requires-clause-within_limit g c = c.requires.within_limit

pub check_chunks-requires-clause-within_limit : goal.check_chunks-requires-clause-within_limit
check_chunks-requires-clause-within_limit g c κs within =
    subst (λ (n : ℕ). n ≤ MAX_CHUNKS) (ap (λ (ks : List NewChunk). length ks) (sym c.chunks-kept.ensures)) c.book.ensures.chunk_limit

pub check_chunks-requires-clause-spots : goal.check_chunks-requires-clause-spots
check_chunks-requires-clause-spots g c κs within =
    let kept = c.chunks-kept.result.now in
    let same : chunks_in c.args.store.now.opened.book.sessions ≡ kept = sym (c.chunks-kept.ensures ∙ ap (λ book. chunks_in book.sessions) c.book.ensures.book) in
    spots-count kept c.deref.result.now
    (c.deref.ensures.value ∙ c.in_ok-spots.ensures.spots ∙ ap spots_of (c.requires.lengths ∙ ap lengths_kept same))

pub check_twins-requires-clause-within_limit : goal.check_twins-requires-clause-within_limit
check_twins-requires-clause-within_limit g c κs within =
    subst (λ (n : ℕ). n ≤ MAX_CHUNKS) (ap (λ (ks : List NewChunk). length ks) (sym c.chunks-kept.ensures)) c.book.ensures.chunk_limit

pub check_twins-requires-clause-spots : goal.check_twins-requires-clause-spots
check_twins-requires-clause-spots g c κs within =
    let kept = c.chunks-kept.result.now in
    let same : chunks_in c.args.store.now.opened.book.sessions ≡ kept = sym (c.chunks-kept.ensures ∙ ap (λ book. chunks_in book.sessions) c.book.ensures.book) in
    spots-count kept c.deref-2.result.now
    (c.deref-2.ensures.value ∙ c.in_ok-spots.ensures.spots ∙ ap spots_of (c.requires.lengths ∙ ap lengths_kept same))

pub returns-in_err-cuts-clause-damaged : goal.returns-in_err-cuts-clause-damaged
returns-in_err-cuts-clause-damaged g c chunks damage is =
    let told = g.F.Shelf.files c.args.shelf.now in
    let name_of = g.N.Namer.name_of in
    let opened = c.args.store.now.opened in
    let kept = c.chunks-kept.result.now in
    let generation = c.generation-generation.result in
    let of : opened.head.generation ≡ generation = sym c.generation-generation.ensures.generation in
    let same : chunks_in opened.book.sessions ≡ kept = sym (c.chunks-kept.ensures ∙ ap (λ book. chunks_in book.sessions) c.book.ensures.book) in
    let lengths : lengths_kept kept ≡ c.args.lengths.now = sym (c.requires.lengths ∙ ap lengths_kept same) in
    let spots = c.deref.result.now in
    let lie : (chunks : List (List ℕ)) → map length chunks ≡ lengths_kept kept → LieAt (packing chunks) spots chunks =
    λ chunks are. subst (λ (at : List Spot). LieAt (packing chunks) at chunks) (sym c.deref.ensures.value)
    (c.in_ok-spots.ensures.in_packing chunks (are ∙ lengths)) in
    let was : c.check_chunks.result ≡ Err (Damaged damage) = search rules in
    misnamed-flaw name_of opened chunks generation of spots kept same (lie chunks) told damage
    (c.check_chunks.ensures.damaged chunks damage was)

pub returns-in_err-check_twins-clause-damaged : goal.returns-in_err-check_twins-clause-damaged
returns-in_err-check_twins-clause-damaged g c chunks damage is =
    let told = g.F.Shelf.files c.args.shelf.now in
    let name_of = g.N.Namer.name_of in
    let opened = c.args.store.now.opened in
    let kept = c.chunks-kept.result.now in
    let generation = c.generation-generation.result in
    let of : opened.head.generation ≡ generation = sym c.generation-generation.ensures.generation in
    let same : chunks_in opened.book.sessions ≡ kept = sym (c.chunks-kept.ensures ∙ ap (λ book. chunks_in book.sessions) c.book.ensures.book) in
    let lengths : lengths_kept kept ≡ c.args.lengths.now = sym (c.requires.lengths ∙ ap lengths_kept same) in
    let spots = c.deref-2.result.now in
    let lie : (chunks : List (List ℕ)) → map length chunks ≡ lengths_kept kept → LieAt (packing chunks) spots chunks =
    λ chunks are. subst (λ (at : List Spot). LieAt (packing chunks) at chunks) (sym c.deref-2.ensures.value)
    (c.in_ok-spots.ensures.in_packing chunks (are ∙ lengths)) in
    let named : IfSome told (λ files. AreStored files generation spots kept chunks → AreKeptNames kept (map name_of chunks)) =
    subst (λ (at : List Spot). IfSome told (λ files. AreStored files generation at kept chunks → AreKeptNames kept (map name_of chunks)))
    (c.deref.ensures.value ∙ sym c.deref-2.ensures.value) (c.in_ok-cuts.ensures.named chunks) in
    let was : c.check_twins.result ≡ Err (Damaged damage) = search rules in
    let back = same-told told (g.F.Shelf.files c.check_chunks.new.shelf) c.in_ok-cuts.ensures.reads.same_files in
    twin-flaw name_of opened chunks generation of spots kept same (lie chunks) told damage named
    (subst (λ (held : Told). IfSome held (λ files. AreStored files generation spots kept chunks → AreKeptNames kept (map name_of chunks) → IsFirstTwin chunks damage))
    back (c.check_twins.ensures.damaged name_of chunks damage was))

pub returns-clause-flawless : goal.returns-clause-flawless
returns-clause-flawless g c chunks =
    let told = g.F.Shelf.files c.args.shelf.now in
    let name_of = g.N.Namer.name_of in
    let opened = c.args.store.now.opened in
    let kept = c.chunks-kept.result.now in
    let generation = c.generation-generation.result in
    let of : opened.head.generation ≡ generation = sym c.generation-generation.ensures.generation in
    let same : chunks_in opened.book.sessions ≡ kept = sym (c.chunks-kept.ensures ∙ ap (λ book. chunks_in book.sessions) c.book.ensures.book) in
    let lengths : lengths_kept kept ≡ c.args.lengths.now = sym (c.requires.lengths ∙ ap lengths_kept same) in
    let spots = c.deref-2.result.now in
    let lie : (chunks : List (List ℕ)) → map length chunks ≡ lengths_kept kept → LieAt (packing chunks) spots chunks =
    λ chunks are. subst (λ (at : List Spot). LieAt (packing chunks) at chunks) (sym c.deref-2.ensures.value)
    (c.in_ok-spots.ensures.in_packing chunks (are ∙ lengths)) in
    let named : IfSome told (λ files. AreStored files generation spots kept chunks → AreKeptNames kept (map name_of chunks)) =
    subst (λ (at : List Spot). IfSome told (λ files. AreStored files generation at kept chunks → AreKeptNames kept (map name_of chunks)))
    (c.deref.ensures.value ∙ sym c.deref-2.ensures.value) (c.in_ok-cuts.ensures.named chunks) in
    let back = same-told told (g.F.Shelf.files c.check_chunks.new.shelf) c.in_ok-cuts.ensures.reads.same_files in
    let different : IfSome told (λ files. AreStored files generation spots kept chunks → AreKeptNames kept (map name_of chunks) → AreNew chunks) =
    subst (λ (held : Told). IfSome held (λ files. AreStored files generation spots kept chunks → AreKeptNames kept (map name_of chunks) → AreNew chunks))
    back (c.in_ok-check_twins.ensures.different name_of chunks) in
    let rules-params = c.new-rules.result.params in
    let params = numbers_of rules-params in
    let is-params : params ≡ opened.head.params = c.new-rules.ensures.params ∙ c.params.ensures.params in
    let valid = IsValid-numbers_of rules-params in
    let cuts = c.deref-3.result.now in
    let cut : IfSome told (λ files. AreStored files generation spots kept chunks → AreCutsOfAll params chunks cuts) =
    subst (λ (all : List ChunkCuts). IfSome told (λ files. AreStored files generation spots kept chunks → AreCutsOfAll params chunks all))
    (sym c.deref-3.ensures.value)
    (subst (λ (at : List Spot). IfSome told (λ files. AreStored files generation at kept chunks → AreCutsOfAll params chunks c.in_ok-cuts.cuts.items))
    (c.deref.ensures.value ∙ sym c.deref-2.ensures.value) (c.in_ok-cuts.ensures.cut chunks)) in
    let some = subst (All (λ n. 1 ≤ n)) c.requires.lengths c.requires.none_empty in
    ok-both c.check_sessions.result (AreInOrder c.book-2.result.now) (AreCutBy c.book-2.result.now params chunks cuts)
    (IfSome told (λ files. HaveChunks files opened chunks → AreFlawless name_of opened chunks))
    (no-flaw name_of opened chunks generation of spots kept same (lie chunks) some params is-params valid
    c.book-2.result.now c.book-2.ensures.book cuts told named different cut)
    c.check_sessions.ensures.ordered (c.check_sessions.ensures.cut params chunks)

pub returns-clause-damaged : goal.returns-clause-damaged
returns-clause-damaged g c chunks damage is =
    let told = g.F.Shelf.files c.args.shelf.now in
    let name_of = g.N.Namer.name_of in
    let opened = c.args.store.now.opened in
    let kept = c.chunks-kept.result.now in
    let generation = c.generation-generation.result in
    let of : opened.head.generation ≡ generation = sym c.generation-generation.ensures.generation in
    let same : chunks_in opened.book.sessions ≡ kept = sym (c.chunks-kept.ensures ∙ ap (λ book. chunks_in book.sessions) c.book.ensures.book) in
    let lengths : lengths_kept kept ≡ c.args.lengths.now = sym (c.requires.lengths ∙ ap lengths_kept same) in
    let spots = c.deref-2.result.now in
    let lie : (chunks : List (List ℕ)) → map length chunks ≡ lengths_kept kept → LieAt (packing chunks) spots chunks =
    λ chunks are. subst (λ (at : List Spot). LieAt (packing chunks) at chunks) (sym c.deref-2.ensures.value)
    (c.in_ok-spots.ensures.in_packing chunks (are ∙ lengths)) in
    let named : IfSome told (λ files. AreStored files generation spots kept chunks → AreKeptNames kept (map name_of chunks)) =
    subst (λ (at : List Spot). IfSome told (λ files. AreStored files generation at kept chunks → AreKeptNames kept (map name_of chunks)))
    (c.deref.ensures.value ∙ sym c.deref-2.ensures.value) (c.in_ok-cuts.ensures.named chunks) in
    let back = same-told told (g.F.Shelf.files c.check_chunks.new.shelf) c.in_ok-cuts.ensures.reads.same_files in
    let different : IfSome told (λ files. AreStored files generation spots kept chunks → AreKeptNames kept (map name_of chunks) → AreNew chunks) =
    subst (λ (held : Told). IfSome held (λ files. AreStored files generation spots kept chunks → AreKeptNames kept (map name_of chunks) → AreNew chunks))
    back (c.in_ok-check_twins.ensures.different name_of chunks) in
    let rules-params = c.new-rules.result.params in
    let params = numbers_of rules-params in
    let is-params : params ≡ opened.head.params = c.new-rules.ensures.params ∙ c.params.ensures.params in
    let valid = IsValid-numbers_of rules-params in
    let cuts = c.deref-3.result.now in
    let cut : IfSome told (λ files. AreStored files generation spots kept chunks → AreCutsOfAll params chunks cuts) =
    subst (λ (all : List ChunkCuts). IfSome told (λ files. AreStored files generation spots kept chunks → AreCutsOfAll params chunks all))
    (sym c.deref-3.ensures.value)
    (subst (λ (at : List Spot). IfSome told (λ files. AreStored files generation at kept chunks → AreCutsOfAll params chunks c.in_ok-cuts.cuts.items))
    (c.deref.ensures.value ∙ sym c.deref-2.ensures.value) (c.in_ok-cuts.ensures.cut chunks)) in
    let some = subst (All (λ n. 1 ≤ n)) c.requires.lengths c.requires.none_empty in
    session-flaw name_of opened chunks generation of spots kept same (lie chunks) some params is-params valid
    c.book-2.result.now c.book-2.ensures.book cuts told damage named different cut
    (c.check_sessions.ensures.damaged params chunks damage is)
