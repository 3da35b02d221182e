-- Parameters that were read from settings have these settings.
use Rattle.std.proofs.Common.{◌≡◌, ap, ◌∙◌}
use Rattle.std.specs.Prelude.{Option, Some, None, Result, Ok, Err, IfOk}
use Rattle.std.specs.Result.{result_ok}
use Rattle.sd_base.specs.Params.{numbers_of}
use Rattle.sd_base.specs.Settings.{settings_of}
use Rattle.sd_base.specs.declared.params.BadParams.{BadParams}
use Rattle.sd_base.specs.declared.params.Params.{Params}
use Rattle.sd_base.specs.declared.raw_params.RawParams.{RawParams}

-- the numbers of parameters, or these if there are none
numbers_in : RawParams → Option Params → RawParams
numbers_in raw (Some params) = numbers_of params
numbers_in raw None = raw

pub settings-read : (raw parsed : RawParams) (r : Result Params BadParams) (params : Params) →
    parsed ≡ raw → IfOk r (λ made. numbers_of made ≡ parsed) → Some params ≡ result_ok r → settings_of (numbers_of params) ≡ settings_of raw
unfolding numbers_in
settings-read raw parsed (Ok made) params same holds is =
    ap settings_of (ap (λ (o : Option Params). numbers_in raw o) is ∙ holds ∙ same)
settings-read raw parsed (Err bad) params same holds is = absurd cc
