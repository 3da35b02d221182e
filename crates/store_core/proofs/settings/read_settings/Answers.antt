use Rattle.std.proofs.Common.{◌≡◌, false, true, sym, ◌∙◌}
use Rattle.std.proofs.lemmas.Slice.Eq.{bytes_eq-Decides}
use Rattle.store_core.proofs.SettingsLemmas.{settings-read}
use Rattle.store_core.proofs.settings.read_settings.Goals as goal

pub returns-else-eq-clause-none : goal.returns-else-eq-clause-none
returns-else-eq-clause-none c = λ raw valid same.
    let settings = settings-read raw c.raw_params-raw.result c.new.result c.in_ok-params.params
    (c.raw_params-raw.ensures.same raw valid same) c.new.ensures.made c.in_ok-params.ensures.value in
    let equal = (bytes_eq-Decides c.settings_of.result c.args.bytes.now).1 (c.settings_of.ensures.settings ∙ settings ∙ sym same) in
    let clash : false ≡ true = sym c.if-eq.false ∙ c.eq.ensures ∙ equal in
    absurd cc
