use Rattle.container_pack.proofs.SpotLemmas.{spots_of-lie}
use Rattle.container_pack.proofs.laws.chunks_lie_at_their_spots.Goals as goal

pub returns : goal.returns
returns c = spots_of-lie
