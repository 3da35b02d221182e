use Rattle.std.proofs.Common.{◌≡◌, ◌+◌, ◌≤◌, [], take, drop}
use Rattle.sd_base.specs.Keys.{first_bad_word}
use Rattle.backup_top.specs.Words.{keys_of, settings_of, texts_of}
use Rattle.backup_top.proofs.KeysFlaws.{unset}
use Rattle.backup_top.proofs.settings.read_settings.Given as goal

abbrev pub invariant-loop-i : goal.invariant-loop-i
invariant-loop-i l = record {
  none : first_bad_word (keys_of l.keys) [] l.place (texts_of l.words)
      ≡ first_bad_word (keys_of l.keys) (texts_of (take l.i l.words)) (l.i + l.place) (texts_of (drop l.i l.words));
  left : l.i + unset (keys_of l.keys) (texts_of (take l.i l.words)) ≤ 7;
  set : l.settings ≡ settings_of (texts_of (take l.i l.words));
}
