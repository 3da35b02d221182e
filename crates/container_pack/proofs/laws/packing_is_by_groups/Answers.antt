use Rattle.container_pack.proofs.GroupLemmas.{packing-by_groups}
use Rattle.container_pack.proofs.laws.packing_is_by_groups.Goals as goal

pub returns : goal.returns
returns c = packing-by_groups
