use Rattle.std.proofs.Common.{◌≡◌, drop}
use Rattle.std.specs.List.{list_any}
use Rattle.sd_base.specs.Keys.{sets_key}
use Rattle.backup_top.specs.Words.{texts_of}
use Rattle.backup_top.proofs.keys.is_set.Given as goal

abbrev pub invariant-loop-word : goal.invariant-loop-word
invariant-loop-word l =
    list_any (sets_key l.name) (texts_of l.before)
    ≡ list_any (sets_key l.name) (texts_of (drop l.word-index l.before))
