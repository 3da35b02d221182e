use Rattle.sd_base.proofs.Files.{clean-files_of}
use Rattle.sd_base.proofs.state_laws.each_state_has_its_files.Goals as goal

pub returns : goal.returns
returns c = clean-files_of
