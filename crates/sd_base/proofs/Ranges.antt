-- Numbers are valid parameters if and only if none is refused.
use Rattle.std.proofs.Common.{◌≡◌, ◌^◌, ◌<◌, None, arith}
use Rattle.std.proofs.lemmas.Bool.Decides.{nat_tests}
use Rattle.sd_base.specs.Parameters.{IsValid, bad_parameter}
use Rattle.sd_base.specs.declared.raw_params.RawParams.{RawParams}
use Rattle.sd_base.specs.declared.params.Params.{Params}
use Rattle.sd_base.specs.Params.{numbers_of}

-- if numbers are valid, none is refused
pub bad_parameter-none : (raw : RawParams) → IsValid raw → bad_parameter raw ≡ None
bad_parameter-none raw valid = grind (arith, nat_tests)

-- if none of the numbers is refused, they are valid
pub IsValid-from_none : (raw : RawParams) → raw.polynomial < 2 ^ 64 → bad_parameter raw ≡ None → IsValid raw
IsValid-from_none raw fits none = record {
  polynomial = grind (arith, nat_tests);
  bits = grind (arith, nat_tests);
  target = grind (arith, nat_tests);
  min = grind (arith, nat_tests);
  max = grind (arith, nat_tests);
}

-- the numbers of a `Params` are valid
pub IsValid-numbers_of : (params : Params) → IsValid (numbers_of params)
IsValid-numbers_of params = record {
  polynomial = params.valid_polynomial;
  bits = (params.bits_not_zero, params.bits_within_limit);
  target = params.target_fits;
  min = params.min_holds_a_window;
  max = (params.ordered, params.max_within_limit);
}
