use Rattle.std.proofs.Common.{rules, arith, ◌≡◌}
use Rattle.ingest_core.proofs.AuditMarks.{all-marked, first-unmarked, AreMarkedTo, same-told}
use Rattle.sd_base.specs.declared.file.File.TheVariants.{Container}
use Rattle.ingest_core.specs.AuditMarks.{MayBeUnmarked}
use Rattle.store_core.specs.declared.fault.StoreFault.TheVariants.{Damaged}
use Rattle.std.specs.Prelude.{Err}
use Rattle.ingest_core.proofs.auditing.marks.check_marks.Goals as goal

pub returns-in_err-check_mark-clause-damaged : goal.returns-in_err-check_mark-clause-damaged
returns-in_err-check_mark-clause-damaged g c opened of count damage is =
    let told = g.F.Shelf.files c.args.shelf.now in
    let number = c.loop-number.number in
    let was : c.check_mark.result ≡ Err (Damaged damage) = search rules in
    first-unmarked opened told c.args.generation c.args.containers number damage of count (omega arith)
    c.loop-number.invariant.before
    (same-told told (g.F.Shelf.files c.loop-number.shelf) (Container c.args.generation number) (MayBeUnmarked number damage)
    c.loop-number.invariant.reads.same_files (c.check_mark.ensures.damaged damage was))

pub returns-clause-marked : goal.returns-clause-marked
returns-clause-marked g c opened of count =
    let told = g.F.Shelf.files c.args.shelf.now in
    let all : AreMarkedTo opened told c.args.generation c.args.containers =
    λ k within. c.loop-number.invariant.before k (omega (arith, within)) in
    all-marked opened told c.args.generation c.args.containers of count all
