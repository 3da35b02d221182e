use Rattle.backup_top.proofs.KeysSplit.{sides_of}
use Rattle.backup_top.proofs.keys.split_word.Goals as goal

pub returns : goal.returns
returns c = sides_of c.args.word.now c.split_once.result c.split_once.ensures.cases
