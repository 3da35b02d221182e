use Rattle.std.proofs.Common.{◌≡◌, List, ℕ, Some, ◌∙◌, ap, sym, subst, rules}
use Rattle.std.specs.List.{find, list_any}
use Rattle.std.specs.Str.{bytes_eq}
use Rattle.sd_base.specs.Keys.{Key, bad_kind_of_value, key_name_of, number_of, sets_key, value_of}
use Rattle.backup_top.specs.Keys.{key_spec_of}
use Rattle.backup_top.specs.Words.{key_of, keys_of, texts_of}
use Rattle.backup_top.proofs.KeysValues.{bad_kind_by_value, setting_set}
use Rattle.backup_top.proofs.settings.set_key.Goals as goal

pub returns-in_err-value-clause-bad : goal.returns-in_err-value-clause-bad
returns-in_err-value-clause-bad c =
    let key : Key = key_of c.in-Some-setting_named.setting in
    let keys : List Key = keys_of c.args.keys in
    let word = c.args.word.now in
    let before : List (List ℕ) = texts_of c.args.before.now in
    let named : key_name_of word ≡ key.name = sym c.in-Some.ensures.1 ∙ c.in-Some-setting_named.ensures.0 in
    let found : find (λ other. bytes_eq other.name (key_name_of word)) keys ≡ Some key =
    subst (λ (name : List ℕ). find (λ other. bytes_eq other.name name) keys ≡ Some key) c.in-Some.ensures.1 c.in-Some-setting_named.ensures.1 in
    let by_value = bad_kind_by_value keys key before word c.in-Some.ensures.0 named found in
    let made = ap (λ (k : Key). bad_kind_of_value (Some k) (list_any (sets_key k.name) before) (value_of word)) c.key.ensures in
    let text = ap (λ (t : List ℕ). bad_kind_of_value (Some (key_spec_of c.key.result)) (list_any (sets_key (key_spec_of c.key.result).name) before) t) c.in-Some.ensures.2 in
    let all = c.in_err-value.ensures.bad ∙ text ∙ made ∙ by_value in
    search rules

pub returns-clause-bad : goal.returns-clause-bad
returns-clause-bad c =
    let key : Key = key_of c.in-Some-setting_named.setting in
    let keys : List Key = keys_of c.args.keys in
    let word = c.args.word.now in
    let before : List (List ℕ) = texts_of c.args.before.now in
    let named : key_name_of word ≡ key.name = sym c.in-Some.ensures.1 ∙ c.in-Some-setting_named.ensures.0 in
    let found : find (λ other. bytes_eq other.name (key_name_of word)) keys ≡ Some key =
    subst (λ (name : List ℕ). find (λ other. bytes_eq other.name name) keys ≡ Some key) c.in-Some.ensures.1 c.in-Some-setting_named.ensures.1 in
    let by_value = bad_kind_by_value keys key before word c.in-Some.ensures.0 named found in
    let made = ap (λ (k : Key). bad_kind_of_value (Some k) (list_any (sets_key k.name) before) (value_of word)) c.key.ensures in
    let text = ap (λ (t : List ℕ). bad_kind_of_value (Some (key_spec_of c.key.result)) (list_any (sets_key (key_spec_of c.key.result).name) before) t) c.in-Some.ensures.2 in
    c.in_ok-value.ensures.bad ∙ text ∙ made ∙ by_value

pub returns-clause-set : goal.returns-clause-set
returns-clause-set c =
    let setting = c.in-Some-setting_named.setting in
    let word = c.args.word.now in
    let named : key_name_of word ≡ (key_of setting).name = sym c.in-Some.ensures.1 ∙ c.in-Some-setting_named.ensures.0 in
    let number =
    sym (ap (λ (k : Key). number_of k (value_of word)) c.key.ensures)
    ∙ ap (λ (t : List ℕ). number_of (key_spec_of c.key.result) t) (sym c.in-Some.ensures.2)
    ∙ c.in_ok-value.ensures.value in
    c.set.ensures ∙ sym (setting_set setting word c.in_ok-value.value c.args.settings.now named number)
