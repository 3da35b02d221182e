use Rattle.sd_base.proofs.ContainerSizes.{sizes-packing}
use Rattle.sd_base.proofs.state_laws.container_sizes_are_by_lengths.Goals as goal

pub returns : goal.returns
returns c = sizes-packing
