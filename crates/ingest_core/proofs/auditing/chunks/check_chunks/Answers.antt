use Rattle.std.proofs.Common.{rules, arith, ◌≡◌, ◌≤◌, ◌++◌, ℕ, List, map, length, length-append, ap, subst, sym, ◌∙◌}
use Rattle.std.specs.Prelude.{Err}
use Rattle.std.specs.List.{slice_range}
use Rattle.ingest_core.proofs.AuditBatches.{all-named, batch-fails, batch-next, range-all, range-count, same-stored}
use Rattle.ingest_core.proofs.BatchCuts.{AreReadTo, read-all, read-next}
use Rattle.ingest_core.specs.AuditChunks.{AreKeptNames, IsMisnamed}
use Rattle.ingest_core.specs.AuditCuts.{AreCutsOfAll}
use Rattle.ingest_core.specs.declared.auditing.chunk_cuts.ChunkCuts.{ChunkCuts}
use Rattle.sd_base.specs.Params.{numbers_of}
use Rattle.store_core.specs.declared.fault.StoreFault.TheVariants.{Damaged}
use Rattle.ingest_core.proofs.auditing.chunks.check_chunks.Goals as goal

pub check_batch-requires-clause-none_empty : goal.check_batch-requires-clause-none_empty
check_batch-requires-clause-none_empty g c κs within =
    range-all (λ n. 1 ≤ n) c.args.kept.now c.loop-first.first c.batch_end-end.result c.batch_end-end.ensures.within
    c.requires.none_empty

pub returns-in_err-found-clause-damaged : goal.returns-in_err-found-clause-damaged
returns-in_err-found-clause-damaged g c stored damage is =
    let told = g.F.Shelf.files c.args.shelf.now in
    let name_of = g.N.Namer.name_of in
    let kept = c.args.kept.now in
    let spots = c.args.spots.now in
    let a : ℕ = c.loop-first.first in
    let b : ℕ = c.batch_end-end.result in
    let part : List (List ℕ) = slice_range stored a b in
    let was : c.check_batch.result ≡ Err (Damaged damage) = search rules in
    batch-fails name_of c.args.generation spots kept stored told a b damage c.batch_end-end.ensures.within
    (c.loop-first.invariant.named stored)
    (same-stored told (g.F.Shelf.files c.loop-first.shelf) c.loop-first.invariant.reads.same_files
    (IsMisnamed (slice_range kept a b) (map name_of part) a damage) c.args.generation (slice_range spots a b) (slice_range kept a b) part
    (c.check_batch.ensures.damaged part damage was))

pub loop-first-preserved : goal.loop-first-preserved
loop-first-preserved g c =
    let told = g.F.Shelf.files c.args.shelf.now in
    let name_of = g.N.Namer.name_of in
    let params = numbers_of c.args.rules.now.params in
    let kept = c.args.kept.now in
    let spots = c.args.spots.now in
    let a : ℕ = c.loop-first.first in
    let b : ℕ = c.batch_end-end.result in
    let cuts = c.loop-first.cuts.items in
    let found = c.in_ok-found.found.items in
    let more : c.extend_from_slice.new.self.items ≡ cuts ++ found =
    c.in_ok-extend_from_slice.ensures.items ∙ ap (λ (l : List ChunkCuts). cuts ++ l) c.deref.ensures.value in
    let batch = range-count kept a b c.batch_end-end.ensures.within in
    let some = c.batch_end-end.ensures.some in
    let was = c.loop-first.invariant.one_each in
    let now = c.in_ok-found.ensures.one_each in
    record {
      reads = search rules;
      within = c.batch_end-end.ensures.within;
      one_each = ap length more ∙ length-append cuts found ∙ omega (arith, batch, some, was, now);
      named = λ stored.
          let part : List (List ℕ) = slice_range stored a b in
          batch-next name_of c.args.generation spots kept stored told a b c.batch_end-end.ensures.within
          (c.loop-first.invariant.named stored)
          (same-stored told (g.F.Shelf.files c.loop-first.shelf) c.loop-first.invariant.reads.same_files
          (AreKeptNames (slice_range kept a b) (map name_of part)) c.args.generation (slice_range spots a b) (slice_range kept a b) part
          (c.in_ok-found.ensures.named part));
      cut = λ stored.
          let part : List (List ℕ) = slice_range stored a b in
          subst (λ (all : List ChunkCuts). AreReadTo params c.args.generation spots kept stored told all b) (sym more)
          (read-next params c.args.generation spots kept stored told a b cuts found c.batch_end-end.ensures.within was
          (c.loop-first.invariant.cut stored)
          (same-stored told (g.F.Shelf.files c.loop-first.shelf) c.loop-first.invariant.reads.same_files
          (AreCutsOfAll params part found) c.args.generation (slice_range spots a b) (slice_range kept a b) part
          (c.in_ok-found.ensures.cut part)));
    }

pub returns-clause-one_each : goal.returns-clause-one_each
returns-clause-one_each g c =
    let was = c.loop-first.invariant.one_each in
    let within = c.loop-first.invariant.within in
    omega (arith, was, within)

pub returns-clause-named : goal.returns-clause-named
returns-clause-named g c stored =
    all-named g.N.Namer.name_of c.args.generation c.args.spots.now c.args.kept.now stored (g.F.Shelf.files c.args.shelf.now)
    c.loop-first.first (omega arith) (c.loop-first.invariant.named stored)

pub returns-clause-cut : goal.returns-clause-cut
returns-clause-cut g c stored =
    let was = c.loop-first.invariant.one_each in
    let within = c.loop-first.invariant.within in
    read-all (numbers_of c.args.rules.now.params) c.args.generation c.args.spots.now c.args.kept.now stored
    (g.F.Shelf.files c.args.shelf.now) c.loop-first.first c.loop-first.cuts.items (omega arith) (omega (arith, was, within))
    (c.loop-first.invariant.cut stored)
