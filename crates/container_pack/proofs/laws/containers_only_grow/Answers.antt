use Rattle.container_pack.proofs.PackingLemmas.{packing-grows}
use Rattle.container_pack.proofs.laws.containers_only_grow.Goals as goal

pub returns : goal.returns
returns c = packing-grows
