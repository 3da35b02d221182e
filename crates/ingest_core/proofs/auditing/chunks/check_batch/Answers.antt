use Rattle.std.proofs.Common.{rules, arith, ◌≡◌, ◌∙◌, ℕ, List, ap, length, map, sym, subst, IfSome}
use Rattle.std.specs.Prelude.{Err}
use Rattle.std.specs.List.{concat}
use Rattle.store_core.proofs.StoreLemmas.{told_map}
use Rattle.store_core.specs.declared.fault.StoreFault.TheVariants.{Damaged}
use Rattle.ingest_core.proofs.AuditChunks.{batch-named, ends-count, ends-rise}
use Rattle.ingest_core.proofs.BatchCuts.{cuts-read}
use Rattle.ingest_core.proofs.Refusals.{count-between}
use Rattle.ingest_core.specs.AuditChunks.{AreKeptNames, AreStored, IsMisnamed, ends_from, names_in}
use Rattle.sd_base.specs.Params.{numbers_of}
use Rattle.sd_base.specs.declared.damage.Damage.{Damage}
use Rattle.ingest_core.proofs.auditing.chunks.check_batch.Goals as goal

pub first_misnamed-requires-clause-rise : goal.first_misnamed-requires-clause-rise
first_misnamed-requires-clause-rise g c κs within =
    let size = ap length c.deref.ensures.value ∙ c.in_ok-text.ensures.size in
    rw (c.deref-2.ensures.value, c.in_ok-ends.ensures.ends)
    (ends-rise c.args.kept.now 0 (length c.deref.result.now) c.requires.none_empty (omega (arith, size)))

pub first_misnamed-requires-clause-one_each : goal.first_misnamed-requires-clause-one_each
first_misnamed-requires-clause-one_each g c κs within =
    ap length (c.deref-2.ensures.value ∙ c.in_ok-ends.ensures.ends) ∙ ends-count 0 c.args.kept.now

pub cuts_of_batch-requires-clause-rise : goal.cuts_of_batch-requires-clause-rise
cuts_of_batch-requires-clause-rise g c κs within =
    let size = ap length c.deref-3.ensures.value ∙ c.in_ok-text.ensures.size in
    rw (c.deref-4.ensures.value, c.in_ok-ends.ensures.ends)
    (ends-rise c.args.kept.now 0 (length c.deref-3.result.now) c.requires.none_empty (omega (arith, size)))

pub returns-in-Some-clause-damaged : goal.returns-in-Some-clause-damaged
returns-in-Some-clause-damaged g c stored damage is =
    let name_of = g.N.Namer.name_of in
    let told = g.F.Shelf.files c.args.shelf.now in
    let kept = c.args.kept.now in
    let text : List ℕ = c.deref.result.now in
    let ends : List ℕ = c.deref-2.result.now in
    let cut : ends ≡ ends_from 0 kept = c.deref-2.ensures.value ∙ c.in_ok-ends.ensures.ends in
    let read : IfSome told (λ files. AreStored files c.args.generation c.args.spots.now kept stored → text ≡ concat stored) =
    subst (λ (t : List ℕ). IfSome told (λ files. AreStored files c.args.generation c.args.spots.now kept stored → t ≡ concat stored))
    (sym c.deref.ensures.value) (c.in_ok-text.ensures.text stored) in
    let same : c.in-Some.damage ≡ damage = cc in
    batch-named name_of kept text ends cut (λ (all : List (List ℕ)). IsMisnamed kept all c.args.number damage)
    c.args.generation c.args.spots.now stored told read
    (subst (λ (d : Damage). IsMisnamed kept (names_in name_of text ends) c.args.number d) same c.in-Some.ensures.first)

pub returns-clause-named : goal.returns-clause-named
returns-clause-named g c stored =
    let name_of = g.N.Namer.name_of in
    let told = g.F.Shelf.files c.args.shelf.now in
    let kept = c.args.kept.now in
    let text : List ℕ = c.deref.result.now in
    let ends : List ℕ = c.deref-2.result.now in
    let cut : ends ≡ ends_from 0 kept = c.deref-2.ensures.value ∙ c.in_ok-ends.ensures.ends in
    let read : IfSome told (λ files. AreStored files c.args.generation c.args.spots.now kept stored → text ≡ concat stored) =
    subst (λ (t : List ℕ). IfSome told (λ files. AreStored files c.args.generation c.args.spots.now kept stored → t ≡ concat stored))
    (sym c.deref.ensures.value) (c.in_ok-text.ensures.text stored) in
    batch-named name_of kept text ends cut (AreKeptNames kept) c.args.generation c.args.spots.now stored told read
    c.in_default.ensures.first

pub returns-clause-one_each : goal.returns-clause-one_each
returns-clause-one_each g c =
    let text : List ℕ = c.deref-3.result.now in
    let ends : List ℕ = c.deref-4.result.now in
    c.in_ok-cuts_of_batch.ensures.cuts.one_each
    ∙ count-between text 0 ends
    ∙ ap length (c.deref-4.ensures.value ∙ c.in_ok-ends.ensures.ends)
    ∙ ends-count 0 c.args.kept.now

pub returns-clause-cut : goal.returns-clause-cut
returns-clause-cut g c stored =
    let told = g.F.Shelf.files c.args.shelf.now in
    let kept = c.args.kept.now in
    let text : List ℕ = c.deref-3.result.now in
    let ends : List ℕ = c.deref-4.result.now in
    let cut : ends ≡ ends_from 0 kept = c.deref-4.ensures.value ∙ c.in_ok-ends.ensures.ends in
    let read : IfSome told (λ files. AreStored files c.args.generation c.args.spots.now kept stored → text ≡ concat stored) =
    subst (λ (t : List ℕ). IfSome told (λ files. AreStored files c.args.generation c.args.spots.now kept stored → t ≡ concat stored))
    (sym c.deref-3.ensures.value) (c.in_ok-text.ensures.text stored) in
    cuts-read (numbers_of c.args.rules.now.params) c.args.generation c.args.spots.now kept stored told text ends
    c.in_ok-cuts_of_batch.field-0.items cut read c.in_ok-cuts_of_batch.ensures.cuts

pub returns-in_err-text-clause-damaged : goal.returns-in_err-text-clause-damaged
returns-in_err-text-clause-damaged g c stored damage is =
    let told = g.F.Shelf.files c.args.shelf.now in
    let was : c.read_text.result ≡ Err (Damaged damage) = search rules in
    told_map {P = λ files. AreStored files c.args.generation c.args.spots.now c.args.kept.now stored → ⊥}
    {Q = λ files. AreStored files c.args.generation c.args.spots.now c.args.kept.now stored
    → IsMisnamed c.args.kept.now (map g.N.Namer.name_of stored) c.args.number damage} told
    (λ files none are. absurd (none are)) (c.read_text.ensures.whole stored damage was)
