use Rattle.std.proofs.Common.{refl, sym, ◌∙◌, ap, arith}
use Rattle.sd_base.specs.Generator.{next_state}
use Rattle.sd_base.proofs.Generator.{bytes_after-zero, iterate-more}
use Rattle.edge_traits.proofs.Generated.{one_more_filled}
use Rattle.edge_traits.proofs.generator.fill.Goals as goal

pub loop-i-init : goal.loop-i-init
loop-i-init c = record { bytes = sym (bytes_after-zero c.args.state); last = refl }

pub loop-i-preserved : goal.loop-i-preserved
loop-i-preserved c = record {
  bytes = one_more_filled c.args.state c.loop-i.i c.loop-i.last c.state_after-last.result c.loop-i.into
      c.copy_from_slice.new.self _ c.loop-i.invariant.last c.state_after-last.ensures (c.copy_from_slice.ensures.after ∙ c.bytes_of.ensures)
      (omega arith) c.loop-i.invariant.bytes;
  last = c.state_after-last.ensures ∙ ap next_state c.loop-i.invariant.last ∙ sym (iterate-more c.loop-i.i c.args.state);
}
