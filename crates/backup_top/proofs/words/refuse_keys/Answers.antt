use Rattle.std.proofs.Common.{string_bytes, sym}
use Rattle.backup_top.proofs.KeysFlaws.{first_is_bad}
use Rattle.backup_top.proofs.words.refuse_keys.Goals as goal

pub returns-in-len1-up : goal.returns-in-len1-up
returns-in-len1-up c = sym (first_is_bad string_bytes c.args.place c.args.words.now c.in-len1-up.len_at_least)
