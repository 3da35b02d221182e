-- The files of a store that is made.
use Rattle.std.proofs.Common.{◌≡◌, ◌≢◌, inl, inr, ℕ, ◌<◌, ◌==◌, Bool, true, false, List, [], ◌∷◌, ◌++◌, length, take, refl, sym, ap, subst, ◌∙◌, arith}
use Rattle.std.specs.Prelude.{IfSome, None, Some, if◌then◌else◌}
use Rattle.std.proofs.lemmas.Bool.{cases_eq}
use Rattle.container_pack.specs.Containers.{HasOnly}
use Rattle.edge_traits.specs.Shelf.{content}
use Rattle.sd_base.specs.Settings.{settings_of}
use Rattle.sd_base.specs.States.{new_state}
use Rattle.sd_base.specs.Stores.{HoldState, HoldStateAlone, IsCommittedAlone}
use Rattle.sd_base.specs.declared.file.File.{File}
use Rattle.sd_base.specs.declared.file.File.TheVariants.{Book, Container, Head, Seal}
use Rattle.sd_base.specs.declared.limits.TheConstants.{COMMIT_BYTE, OPEN_HEAD_LEN, SETTINGS_LEN}
use Rattle.sd_base.specs.declared.raw_params.RawParams.{RawParams}
use Rattle.store_core.specs.Stores.{LeavesNone}
use Rattle.store_core.proofs.StoreLemmas.{Told, held-is}

-- a call that leaves the head leaves no store where there was none
pub leaves-none : (old now : Told) → content now Head ≡ content old Head → LeavesNone old now
leaves-none None now same = tt
leaves-none (Some before) None same = λ short. tt
leaves-none (Some before) (Some after) same = λ short.
    subst (λ (bytes : List ℕ). length bytes < OPEN_HEAD_LEN) (sym (held-is same)) short

nothing-either : (b : Bool) → ◌≡◌ {A = List ℕ} (if b then [] else []) []
nothing-either true = refl
nothing-either false = refl

module _ (params : RawParams) (files : File → List ℕ) (head : files Head ≡ settings_of params ++ COMMIT_BYTE ∷ [])
    (seal : files (Seal 0) ≡ []) (name_of : List ℕ → List ℕ) where
  new-held : HoldState name_of files (new_state params)
  new-held = record {
    settings = ap (take SETTINGS_LEN) head;
    generation = ap length head;
    seal = ap length seal;
    book = (files (Book 0), refl);
    containers = λ k within. absurd (omega (arith, within));
  }

  -- the other files were empty, and are
  new-alone : ((f : File) → f ≢ Head → f ≢ Seal 0 → files f ≡ []) → (file : File) →
      IsCommittedAlone name_of (new_state params) file (files file)
  new-alone empty Head = ap length head
  new-alone empty (Seal g) =
      let none : files (Seal g) ≡ [] = elim (cases_eq g 0) [
        | inl own ↦ subst (λ n. files (Seal n) ≡ []) (sym own) seal
        | inr apart ↦ empty (Seal g) (λ is. absurd cc) (λ is. apart (cc is))
      ] in
      ap length (none ∙ sym (nothing-either (g == 0)))
  new-alone empty (Book g) = empty (Book g) (λ is. absurd cc) (λ is. absurd cc) ∙ sym (nothing-either (g == 0))
  new-alone empty (Container g k) =
      empty (Container g k) (λ is. absurd cc) (λ is. absurd cc) ∙ sym (nothing-either (g == 0))

-- a store that is made on empty files is clean
pub new-clean : (params : RawParams) (name_of : List ℕ → List ℕ) (old now : Told) →
    HasOnly (content now Head) (settings_of params ++ COMMIT_BYTE ∷ []) → HasOnly (content now (Seal 0)) [] →
    ((f : File) → f ≢ Head → f ≢ Seal 0 → content now f ≡ content old f) →
    IfSome old (λ before. ((file : File) → before file ≡ []) → IfSome now (λ after. HoldStateAlone name_of after (new_state params)))
new-clean params name_of None now head seal others = tt
new-clean params name_of (Some before) None head seal others = λ empty. tt
new-clean params name_of (Some before) (Some after) head seal others = λ empty. record {
  holds = new-held params after head seal name_of;
  alone = new-alone params after head seal name_of
      (λ f apart_head apart_seal. held-is (others f apart_head apart_seal) ∙ empty f);
}
