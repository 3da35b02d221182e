use Rattle.std.proofs.Common.{◌≡◌, List, ℕ, None, ◌∙◌, ap, sym, get_or, take, string_bytes, arith}
use Rattle.sd_base.specs.Keys.{Key, bad_kind_of}
use Rattle.backup_top.specs.Words.{keys_of, settings_after, texts_of}
use Rattle.backup_top.proofs.KeysFlaws.{left_step, later_step}
use Rattle.backup_top.proofs.KeysValues.{set_step}
use Rattle.backup_top.proofs.settings.read_settings.Goals as goal

pub loop-i-preserved : goal.loop-i-preserved
loop-i-preserved c =
    let words = c.args.words.now in
    let keys : List Key = keys_of c.args.keys in
    let i = c.loop-i.i in
    let word = c.index-words-i.result in
    let text : c.as_str.result.now ≡ string_bytes (get_or words i word) =
    c.as_str.ensures.value ∙ ap string_bytes c.index-words-i.is in
    let none : bad_kind_of keys (texts_of (take i words)) (string_bytes (get_or words i word)) ≡ None =
    ap (bad_kind_of keys (texts_of (take i words))) (sym text) ∙ sym c.in_default.ensures.bad in
    record {
      none = c.loop-i.invariant.none
          ∙ later_step string_bytes keys c.args.place words i word c.loop-i-test.true none;
      left = omega (arith, left_step string_bytes keys words i word c.loop-i-test.true none);
      set = c.in_default.ensures.set ∙ ap (λ (t : List ℕ). settings_after t c.loop-i.settings) text
          ∙ ap (settings_after (string_bytes (get_or words i word))) c.loop-i.invariant.set
          ∙ sym (set_step string_bytes keys words i word c.loop-i-test.true none);
    }
