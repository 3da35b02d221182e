use Rattle.std.proofs.Common.{IfSome, subst}
use Rattle.std.specs.Prelude.{None, OnOk, Some}
use Rattle.ingest_core.proofs.AuditVerdicts.{finds-refused, finds-store, found-audits}
use Rattle.sd_base.specs.Flaws.{IsFlawOf}
use Rattle.sd_base.specs.Opening.{OpenAs}
use Rattle.store_core.proofs.StoreLemmas.{Told, same-told}
use Rattle.ingest_core.proofs.auditing.audit.Goals as goal

pub returns-in_err-store-clause-audits : goal.returns-in_err-store-clause-audits
returns-in_err-store-clause-audits g c =
    let namer = g.met.N.Namer g.world.𝓛 g.world.𝓜 g.world.𝓡 ((λ s x. x), (λ x. x), (λ x. x), λ x. x) in
    let told = g.F.Shelf.files c.args.shelf.now in
    let name_of = g.N.Namer.name_of in
    let q = c.from_residual.result in
    found-audits name_of namer.whole told q
    (finds-refused name_of told c.open.result c.in_err-store.field-0.0 q c.in_err-store.was c.from_residual.ensures.1
    c.open.ensures.refused c.open.ensures.no_store c.open.ensures.damaged)

pub returns-clause-audits : goal.returns-clause-audits
returns-clause-audits g c =
    let namer = g.met.N.Namer g.world.𝓛 g.world.𝓜 g.world.𝓡 ((λ s x. x), (λ x. x), (λ x. x), λ x. x) in
    let told = g.F.Shelf.files c.args.shelf.now in
    let name_of = g.N.Namer.name_of in
    let opened = c.in_ok-store.store.opened in
    let r = c.audit_store.result in
    let back = same-told told (g.F.Shelf.files c.open.new.shelf) c.in_ok-store.ensures.reads.same_files in
    found-audits name_of namer.whole told r
    (finds-store name_of told opened r c.in_ok-store.ensures.opened
    (subst (λ (held : Told). OnOk r (IfSome held (λ files. OpenAs files opened → IsFlawOf name_of files opened None))) back
    c.audit_store.ensures.flawless)
    c.audit_store.ensures.counts
    (λ damage is. subst (λ (held : Told). IfSome held (λ files. OpenAs files opened → IsFlawOf name_of files opened (Some damage))) back
    (c.audit_store.ensures.damaged damage is))
    c.audit_store.ensures.refused)
