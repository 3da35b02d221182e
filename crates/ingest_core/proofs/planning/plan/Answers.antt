-- The cuts rise, so each chunk has a name and the lines are those of the chunks.
use Rattle.std.proofs.Common.{◌≡◌, ◌∙◌, ℕ, List, IfOk, ap, arith, length, map, subst, sym}
use Rattle.std.proofs.lemmas.List.{length-map}
use Rattle.sd_base.proofs.Rising.{RiseWithin-cuts_of}
use Rattle.sd_base.specs.Cutting.{RiseWithin, chunks_between}
use Rattle.sd_base.specs.Params.{numbers_of}
use Rattle.sd_base.specs.declared.limits.TheConstants.{MAX_INPUT}
use Rattle.ingest_core.proofs.PlanLemmas.{lines-are, rise_higher}
use Rattle.ingest_core.proofs.Refusals.{count-between}
use Rattle.ingest_core.specs.Plans.{lines_of, lines_to}
use Rattle.ingest_core.specs.declared.line.Line.{Line}
use Rattle.ingest_core.proofs.planning.plan.Goals as goal

pub name_all-requires-clause-rise : goal.name_all-requires-clause-rise
name_all-requires-clause-rise g c κs within =
    rw (c.deref.ensures.value, c.in_ok-cuts.ensures.cuts)
    (RiseWithin-cuts_of (numbers_of c.args.params.now) c.args.text.now (omega arith) c.args.params.now.ordered)

pub lines_of_names-requires-clause-rise : goal.lines_of_names-requires-clause-rise
lines_of_names-requires-clause-rise g c =
    rw (c.deref-2.ensures.value, c.in_ok-cuts.ensures.cuts)
    (rise_higher 0 (length c.args.text.now) MAX_INPUT _ c.requires.fits
    (RiseWithin-cuts_of (numbers_of c.args.params.now) c.args.text.now (omega arith) c.args.params.now.ordered))

pub lines_of_names-requires-clause-named : goal.lines_of_names-requires-clause-named
lines_of_names-requires-clause-named g c =
    let text = c.args.text.now in
    let cuts = c.deref.result.now in
    ap length (c.deref-3.ensures.value ∙ c.in_ok-names.ensures.names)
    ∙ length-map (chunks_between text 0 cuts) g.N.Namer.name_of
    ∙ count-between text 0 cuts
    ∙ ap length (c.deref.ensures.value ∙ sym c.deref-2.ensures.value)

pub returns : goal.returns
returns g c =
    let name_of = g.N.Namer.name_of in
    let text = c.args.text.now in
    let cuts = c.in_ok-cuts.cuts.items in
    let rise = RiseWithin-cuts_of (numbers_of c.args.params.now) text (omega arith) c.args.params.now.ordered in
    let are = c.in_ok-cuts.ensures.cuts in
    let named = c.deref-3.ensures.value ∙ c.in_ok-names.ensures.names
    ∙ ap (λ (cs : List ℕ). map name_of (chunks_between text 0 cs)) c.deref.ensures.value in
    let same =
    ap (λ (cs : List ℕ). lines_to 0 cs c.deref-3.result.now) c.deref-2.ensures.value
    ∙ ap (λ (ns : List (List ℕ)). lines_to 0 cuts ns) named
    ∙ lines-are name_of text 0 cuts (subst (RiseWithin 0 (length text)) (sym are) rise)
    ∙ ap (λ (cs : List ℕ). lines_of name_of 0 (chunks_between text 0 cs)) are in
    record {
      lines = subst (λ (all : List Line). IfOk c.lines_of_names.result (λ lines. lines.items ≡ all)) same
          c.lines_of_names.ensures.lines;
    }
