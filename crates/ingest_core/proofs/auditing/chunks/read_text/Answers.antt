use Rattle.std.proofs.Common.{rules, arith, ◌≡◌, ◌+◌, ◌<◌, ◌++◌, ℕ, List, length, take, drop}
use Rattle.std.specs.Prelude.{Err}
use Rattle.store_core.specs.declared.fault.StoreFault.TheVariants.{Damaged}
use Rattle.ingest_core.proofs.AuditChunks.{bytes-next, finds-passed, text-all, text-next, text-whole}
use Rattle.ingest_core.proofs.AuditMarks.{same-told}
use Rattle.ingest_core.specs.AuditChunks.{kept_at, spot_at}
use Rattle.sd_base.specs.declared.file.File.TheVariants.{Container}
use Rattle.ingest_core.proofs.auditing.chunks.read_text.Goals as goal

pub loop-place-preserved : goal.loop-place-preserved
loop-place-preserved g c =
    let told = g.F.Shelf.files c.args.shelf.now in
    let place = c.loop-place.place in
    let kept = c.args.kept.now in
    let spots = c.args.spots.now in
    let size : ℕ = (kept_at kept place).length in
    let offset : ℕ = (spot_at spots place).offset in
    let old : List ℕ = c.loop-place.text.items in
    let new : List ℕ = c.read_onto.new.text.items in
    let within : place < length kept = omega arith in
    let read = same-told told (g.F.Shelf.files c.loop-place.shelf) (Container c.args.generation (spot_at spots place).container)
    (λ (bytes : List ℕ). new ≡ old ++ take size (drop offset bytes))
    c.loop-place.invariant.reads.same_files c.in_ok-read_onto.ensures.bytes in
    let left = bytes-next kept place within in
    let longer : length new ≡ length old + size = c.in_ok-read_onto.ensures.size in
    let before = c.loop-place.invariant.size in
    record {
      reads = search rules;
      size = omega (arith, left, longer, before);
      text = λ stored. text-next c.args.generation spots kept stored told place old new within
          (c.loop-place.invariant.text stored) read;
    }

pub returns-clause-text : goal.returns-clause-text
returns-clause-text g c stored =
    text-all c.args.generation c.args.spots.now c.args.kept.now stored (g.F.Shelf.files c.args.shelf.now) c.loop-place.place
    c.loop-place.text.items (omega arith) (c.loop-place.invariant.text stored)

pub returns-in_err-read_onto-clause-whole : goal.returns-in_err-read_onto-clause-whole
returns-in_err-read_onto-clause-whole g c stored damage is =
    let told = g.F.Shelf.files c.args.shelf.now in
    let place = c.loop-place.place in
    let kept = c.args.kept.now in
    let spots = c.args.spots.now in
    let size : ℕ = (kept_at kept place).length in
    let offset : ℕ = (spot_at spots place).offset in
    let was : c.read_onto.result ≡ Err (Damaged damage) = search rules in
    text-whole c.args.generation spots kept stored told place (omega arith)
    (same-told told (g.F.Shelf.files c.loop-place.shelf) (Container c.args.generation (spot_at spots place).container)
    (λ (bytes : List ℕ). length (take size (drop offset bytes)) < size)
    c.loop-place.invariant.reads.same_files (c.read_onto.ensures.short damage was))

pub returns-in_err-read_onto-clause-refused : goal.returns-in_err-read_onto-clause-refused
returns-in_err-read_onto-clause-refused g c =
    finds-passed c.read_onto.result c.in_err-read_onto.field-0.0 c.from_residual.result c.in_err-read_onto.was
    c.from_residual.ensures.1 c.read_onto.ensures.refused
