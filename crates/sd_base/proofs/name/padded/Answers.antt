use Rattle.std.proofs.Common.{refl}
use Rattle.sd_base.proofs.Names.{IsPadded-from_bytes}
use Rattle.sd_base.proofs.name.padded.Goals as goal

pub invariant_of-result : goal.invariant_of-result
invariant_of-result c = IsPadded-from_bytes _ _ _ c.requires c.copy_from_slice.ensures.after refl
