-- The settings of a store: the first bytes of its head. Numbers are unsigned and big-endian.
-- Bytes 7 and 28 to 31 are 0.
use Rattle.std.specs.Prelude.{ℕ, List, [], ◌∷◌, ◌++◌, codes, replicate}
use Rattle.std.specs.Int.{w32, w64, to_be_bytes}
use Rattle.sd_base.specs.declared.limits.TheConstants.{SETTINGS_VERSION, METHOD_RABIN}
use Rattle.sd_base.specs.declared.raw_params.RawParams.{RawParams}

-- the mark, the version byte, the method of cutting, and the parameters
abbrev pub settings_of : RawParams → List ℕ
settings_of params =
    codes "SSCH" ++ SETTINGS_VERSION ∷ METHOD_RABIN ∷ params.bits ∷ 0 ∷ [] ++ to_be_bytes w64 params.polynomial
    ++ to_be_bytes w32 params.target ++ to_be_bytes w32 params.min ++ to_be_bytes w32 params.max ++ replicate 4 0
