-- Bytes are a name if and only if they are not refused, and how a `Name` keeps them.
use Rattle.std.proofs.Common.{◌≡◌, ℕ, ◌++◌, List, length, take, drop, replicate, Bool, true, false, Some, None, arith, refl, ◌∙◌, length-append}
use Rattle.std.proofs.Math.Seq.{take-append_seam, drop-append_seam}
use Rattle.std.proofs.lemmas.Bool.{leb-true, le-leb, and_parts, and_from}
use Rattle.std.proofs.lemmas.List.{drop-replicate, length-replicate, length-drop}
use Rattle.std.proofs.lemmas.List.Sums.{AllPass-from_list_all, list_all-from_AllPass}
use Rattle.std.specs.Prelude.{◌↔◌, not, if◌then◌else◌}
use Rattle.sd_base.specs.declared.limits.TheConstants.{MAX_NAME}
use Rattle.sd_base.specs.declared.name.BadName.TheVariants.{Length, Letter}
use Rattle.sd_base.specs.Names.{IsName, bad_name, name_byte}
use Rattle.sd_base.specs.Padding.{IsPadded}

-- if neither refusal comes, both tests hold, and the other way round
tests_hold :
    (fits lettered : Bool) →
    (if not fits then Some Length else if not lettered then Some Letter else None) ≡ None →
    (fits ≡ true) × (lettered ≡ true)
tests_hold true true h = (refl, refl)
tests_hold true false h = absurd cc
tests_hold false lettered h = absurd cc

none_refused :
    (fits lettered : Bool) → fits ≡ true → lettered ≡ true →
    (if not fits then Some Length else if not lettered then Some Letter else None) ≡ None
none_refused true true _ _ = refl
none_refused true false _ h = absurd cc
none_refused false lettered h _ = absurd cc

-- bytes are a name if and only if they are not refused
pub IsName_is_no_refusal : (bytes : List ℕ) → IsName bytes ↔ (bad_name bytes ≡ None)
IsName_is_no_refusal bytes = (
  λ holds. none_refused _ _ (and_from _ _ (le-leb _ _ holds.not_empty) (le-leb _ _ holds.within_limit)) (and_from _ _ holds.first (list_all-from_AllPass name_byte bytes holds.letters)),
  λ none.
      let tests = tests_hold _ _ none in
      let bounds = and_parts _ _ tests.0 in
      let letters = and_parts _ _ tests.1 in
      record {
        not_empty = leb-true _ _ bounds.0;
        within_limit = leb-true _ _ bounds.1;
        first = letters.0;
        letters = AllPass-from_list_all name_byte bytes letters.1;
      },
)

-- bytes that are a name, with zeros after them, are what a `Name` keeps
pub IsPadded-from_bytes :
    (bytes front back : List ℕ) → bad_name bytes ≡ None → front ≡ bytes →
    back ≡ drop (length bytes) (replicate MAX_NAME 0) →
    IsPadded (record { padded = front ++ back; len = length bytes })
IsPadded-from_bytes bytes front back none same rest =
    let lawful : IsName bytes = (IsName_is_no_refusal bytes).1 none in
    let front_is : take (length bytes) (front ++ back) ≡ bytes = rw same (take-append_seam bytes back) in
    let back_is : drop (length bytes) (front ++ back) ≡ back = rw same (drop-append_seam bytes back) in
    record {
      lawful = rw front_is lawful;
      within = lawful.within_limit;
      whole = rw (same, rest, length-append {A = ℕ} bytes, length-drop {A = ℕ} (length bytes) (replicate MAX_NAME 0)) (omega (arith, lawful.within_limit, length-replicate {A = ℕ} MAX_NAME 0));
      zeros = back_is ∙ rest ∙ drop-replicate (length bytes) MAX_NAME 0;
    }
