-- The bytes of the name of the session of `bulk`, put together.
use Rattle.std.proofs.Common.{◌≡◌, ℕ, List, ◌++◌, codes, ap, ◌∙◌, refl, subst}
use Rattle.std.specs.Fmt.{decimal}
use Rattle.std.specs.Prelude.{Err, IfOk, IsOk, None, Ok, Result}
use Rattle.std.specs.Result.{result_err}
use Rattle.sd_base.specs.Commands.{AreBlocks, IsSeed}
use Rattle.sd_base.specs.Generator.{bulk_name}
use Rattle.sd_base.specs.Names.{bad_name}
use Rattle.sd_base.specs.declared.name.BadName.{BadName}
use Rattle.sd_base.proofs.Generator.{bulk_name-is_name}
use Rattle.sd_base.proofs.Names.{IsName_is_no_refusal}

-- the name, from its bytes up to each of its parts
pub spelled : (seed blocks : ℕ) (first second third whole digits others : List ℕ) → first ≡ codes "bulk."
    → digits ≡ decimal seed → second ≡ first ++ digits → third ≡ second ++ codes "." → others ≡ decimal blocks
    → whole ≡ third ++ others → whole ≡ bulk_name seed blocks
unfolding bulk_name
spelled seed blocks first second third whole digits others prefix one up_to_seed up_to_dot other all =
    all
    ∙ ap (λ (l : List ℕ). third ++ l) other
    ∙ ap (λ (l : List ℕ). l ++ decimal blocks) up_to_dot
    ∙ ap (λ (l : List ℕ). l ++ codes "." ++ decimal blocks) up_to_seed
    ∙ ap (λ (l : List ℕ). first ++ l ++ codes "." ++ decimal blocks) one
    ∙ ap (λ (l : List ℕ). l ++ decimal seed ++ codes "." ++ decimal blocks) prefix

not_refused : {T E : Type 0} (result : Result T E) → result_err result ≡ None → IsOk result
not_refused (Ok value) none = refl
not_refused (Err bad) none = absurd cc

-- these bytes are read as a name
pub read_as_name : {T : Type 0} (seed blocks : ℕ) (bytes : List ℕ) (result : Result T BadName) → IsSeed seed → AreBlocks blocks
    → bytes ≡ bulk_name seed blocks → result_err result ≡ bad_name bytes → IsOk result
read_as_name seed blocks bytes result fits are is refused =
    not_refused result
    (refused ∙ ap bad_name is ∙ (IsName_is_no_refusal (bulk_name seed blocks)).0 (bulk_name-is_name seed blocks fits are))

pub value_read : {E : Type 0} (result : Result (List ℕ) E) (value bytes : List ℕ) → result ≡ Ok value
    → IfOk result (λ read. read ≡ bytes) → value ≡ bytes
value_read {E = E} result value bytes is made =
    subst (λ (r : Result (List ℕ) E). IfOk r (λ read. read ≡ bytes)) is made
