use Rattle.std.proofs.Common.{ap, ◌∙◌}
use Rattle.std.proofs.Math.ListN.{set}
use Rattle.std.specs.Prelude.{false}
use Rattle.sd_base.specs.declared.record.Session.{Session}
use Rattle.session_book.proofs.Adding.{without_is_set, live_within}
use Rattle.session_book.proofs.book.mark_dropped.Goals as goal

pub returns : goal.returns
returns c =
    let old = c.args.sessions.now.items in
    ap (λ (session : Session). set old c.args.session (record { entry = session.entry; live = false })) c.index_mut.ensures.value
    ∙ without_is_set old c.args.session c.index_mut.result.now (live_within old c.args.session c.requires)
