use Rattle.std.proofs.Common.{length, arith, sym, ap, ◌∙◌}
use Rattle.rabin_window.specs.Window.{WindowView}
use Rattle.rabin_window.proofs.Ring.{length-oldest_first}
use Rattle.rabin_window.proofs.window.Window.value.Goals as goal

pub returns-clause-whole : goal.returns-clause-whole
returns-clause-whole c =
    ap (λ (r : WindowView). length r.bytes) (sym c.self.view_is)
    ∙ length-oldest_first c.self.inside.oldest c.self.inside.ring (omega (arith, c.self.invariant.in_ring, c.self.told)) ∙ c.self.told
