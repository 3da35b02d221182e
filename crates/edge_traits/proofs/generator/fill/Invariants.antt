use Rattle.std.proofs.Common.{◌≡◌, ◌*◌, take}
use Rattle.std.specs.Fn.{iterate}
use Rattle.sd_base.specs.Generator.{bytes_after, next_state}
use Rattle.sd_base.specs.declared.limits.TheConstants.{STATE_BYTES}
use Rattle.edge_traits.proofs.generator.fill.Given as goal

abbrev pub invariant-loop-i : goal.invariant-loop-i
invariant-loop-i l = record {
  bytes : take (STATE_BYTES * l.i) l.into ≡ bytes_after l.state l.i;
  last : l.last ≡ iterate next_state l.i l.state;
}
