use Rattle.sd_base.proofs.Recipes.{recipes_name_their_chunks}
use Rattle.sd_base.proofs.state_laws.recipes_name_their_chunks.Goals as goal

pub returns : goal.returns
returns c = recipes_name_their_chunks
