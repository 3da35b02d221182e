use Rattle.std.proofs.Common.{◌≡◌, ◌-◌, ◌<◌, length, arith, sym, subst}
use Rattle.std.specs.Prelude.{MatchOption}
use Rattle.rayon.proofs.ToStd.{nat_range-All}
use Rattle.sd_base.specs.Cutting.{RiseWithin}
use Rattle.sd_base.specs.Firsts.{IsFirstFailing}
use Rattle.ingest_core.proofs.BatchNames.{first-said}
use Rattle.ingest_core.specs.AuditChunks.{AreKeptNames, IsKeptName, names_in}
use Rattle.ingest_core.proofs.auditing.batch_names.misnamed_place.Goals as goal

pub position_first-requires-clause-items : goal.position_first-requires-clause-items
position_first-requires-clause-items g c κs within =
    let ends = c.into_par_iter.ensures in
    let text = length c.args.text.now in
    let same = c.requires.one_each in
    rw (c.with_min_len.ensures.base, ends.0, ends.1)
    (nat_range-All (λ i. RiseWithin 0 text c.args.ends.now × (i < length c.args.ends.now) × (i < length c.args.kept.now)) 0
    (length c.args.kept.now) (λ i low high. (c.requires.rise, omega (arith, high, same), high)))

pub returns : goal.returns
returns g c =
    let name_of = g.N.Namer.name_of in
    let text = c.args.text.now in
    let ends = c.args.ends.now in
    let kept = c.args.kept.now in
    let range = c.into_par_iter.ensures in
    let whole : length kept - 0 ≡ length kept = omega arith in
    let found = rw (c.with_min_len.ensures.base, range.0, range.1, whole) at c.position_first.ensures in
    record {
      place = subst (λ place. MatchOption place (AreKeptNames kept (names_in name_of text ends))
          (IsFirstFailing (length kept) (IsKeptName kept (names_in name_of text ends)))) (sym found.4)
          (first-said name_of text ends kept c.requires.one_each found.1 (omega arith) (rw found.2 at found.3));
    }
