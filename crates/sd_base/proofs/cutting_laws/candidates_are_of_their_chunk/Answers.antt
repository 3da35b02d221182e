use Rattle.sd_base.proofs.Cuttings.{is_candidate-part}
use Rattle.sd_base.proofs.cutting_laws.candidates_are_of_their_chunk.Goals as goal

pub returns : goal.returns
returns c = is_candidate-part
