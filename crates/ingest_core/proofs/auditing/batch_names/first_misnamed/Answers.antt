use Rattle.std.proofs.Common.{◌≡◌, ◌+◌, ◌∙◌, List, [], ℕ, ap, arith, slice_index_or, sym}
use Rattle.chunk_names.specs.Shares.{chunk_at}
use Rattle.ingest_core.proofs.BatchNames.{name-in}
use Rattle.ingest_core.specs.AuditChunks.{kept_at, names_in}
use Rattle.sd_base.specs.declared.damage.Damage.TheVariants.{Chunk}
use Rattle.ingest_core.proofs.auditing.batch_names.first_misnamed.Goals as goal

pub returns : goal.returns
returns g c =
    let name_of = g.N.Namer.name_of in
    let names = names_in name_of c.args.text.now c.args.ends.now in
    let place = c.in_ok-place.place in
    let bytes = chunk_at c.args.text.now 0 c.args.ends.now place in
    let first = c.in_ok-place.ensures.place in
    let within = first.within in
    let named : c.name.result ≡ slice_index_or names place [] =
    c.name.ensures.name ∙ ap name_of {y = bytes} c.chunk.ensures.chunk
    ∙ sym (name-in name_of c.args.text.now c.args.ends.now place (omega (arith, within, c.requires.one_each))) in
    record {
      first = record {
        place = place;
        first = first;
        equals = ap (λ (name : List ℕ). Chunk (c.args.number + place) (kept_at c.args.kept.now place).name name) named;
      };
    }
