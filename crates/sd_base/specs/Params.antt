-- The five numbers of a `Params`.
use Rattle.sd_base.specs.declared.params.Params.{Params}
use Rattle.sd_base.specs.declared.raw_params.RawParams.{RawParams}

-- the numbers in the form that the definitions of cutting take
abbrev pub numbers_of : Params → RawParams
numbers_of params = record {
  polynomial = params.polynomial;
  bits = params.bits;
  target = params.target;
  min = params.min;
  max = params.max;
}
