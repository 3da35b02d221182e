use Rattle.std.proofs.Common.{◌≡◌, ◌∙◌, ◌+◌, ℕ, Bool, ap, cond, nat_eq, not, subst, sym, true}
use Rattle.std.specs.Prelude.{Err, Ok, OnOk}
use Rattle.std.specs.HashSet.{contains}
use Rattle.ingest_core.proofs.AuditTwins.{seen-next, there, unseen-new}
use Rattle.ingest_core.specs.AuditTwins.{HasSeen}
use Rattle.sd_base.specs.Flaws.{IsNew}
use Rattle.ingest_core.proofs.auditing.twins.earlier_twin.Goals as goal

pub returns-then-branch-clause-twin : goal.returns-then-branch-clause-twin
returns-then-branch-clause-twin g c name_of stored =
    let kept = c.args.kept.now in
    let number = c.args.number in
    let seen : ℕ → Bool = contains nat_eq c.args.seen.now in
    there name_of c.args.generation c.args.spots.now kept stored (g.F.Shelf.files c.args.shelf.now) (IsNew stored number)
    (λ lengths named. unseen-new name_of c.args.generation c.args.spots.now kept stored lengths named seen number c.requires.within c.requires.seen
    (sym c.if-branch.true ∙ c.in_ok-insert.ensures.added ∙ ap (λ (short : ℕ). not (seen short)) c.short_name.ensures))

pub returns-then-branch-clause-seen : goal.returns-then-branch-clause-seen
returns-then-branch-clause-seen g c =
    let old : ℕ → Bool = contains nat_eq c.args.seen.now in
    let new : ℕ → Bool = contains nat_eq c.insert.new.self in
    seen-next old new c.args.kept.now c.args.number c.requires.seen
    (subst (λ (short : ℕ). (q : ℕ) → new q ≡ cond (nat_eq short q) true (old q)) c.short_name.ensures c.in_ok-insert.ensures.updates.0)

pub returns-clause-seen : goal.returns-clause-seen
returns-clause-seen g c =
    let old : ℕ → Bool = contains nat_eq c.args.seen.now in
    let new : ℕ → Bool = contains nat_eq c.insert.new.self in
    let next : HasSeen new c.args.kept.now (c.args.number + 1) =
    seen-next old new c.args.kept.now c.args.number c.requires.seen
    (subst (λ (short : ℕ). (q : ℕ) → new q ≡ cond (nat_eq short q) true (old q)) c.short_name.ensures c.in_ok-insert.ensures.updates.0) in
    elim (c.first_twin.result) as (λ r. OnOk r (HasSeen new c.args.kept.now (c.args.number + 1))) [ Ok found ↦ next | Err fault ↦ tt ]
