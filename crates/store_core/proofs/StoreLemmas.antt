-- The parts of the verdict of opening, put together.
use Rattle.std.proofs.Common.{◌≡◌, inl, inr, ℕ, ◌<◌, ◌≤◌, List, [], true, length, ap, refl, subst, sym, ◌∙◌}
use Rattle.std.proofs.Math.Path.{fun_ext}
use Rattle.std.specs.Prelude.{Err, IfSome, IsErrAnd, None, Ok, Option, Result, Some, slice_index_or}
use Rattle.edge_traits.specs.Shelf.{SameFiles}
use Rattle.sd_base.specs.Books.{BookState, IsBookDamage, IsReplay}
use Rattle.sd_base.specs.Opening.{HasHead, HeadState, IsHeadDamage, IsOpeningDamage, OpenAs, Opened, needed_sizes}
use Rattle.sd_base.specs.States.{IsLawful, State}
use Rattle.sd_base.specs.Stores.{GivesNames, HoldState}
use Rattle.sd_base.specs.declared.damage.Damage.{Damage}
use Rattle.sd_base.specs.declared.file.File.{File}
use Rattle.sd_base.specs.declared.file.File.TheVariants.{Book as BookFile, Container, Head, Seal}
use Rattle.store_core.specs.Containers.{IsFirstShort}
use Rattle.store_core.specs.StoreStates.{StandsFor, StoreState}
use Rattle.store_core.specs.declared.fault.StoreFault.{StoreFault}
use Rattle.store_core.specs.declared.fault.StoreFault.TheVariants.{Damaged}
use Rattle.store_core.proofs.OfferLemmas.{stands-opened}
use Rattle.store_core.proofs.OpeningLemmas.{err-is}

abbrev pub Told : Type 0
Told = Option (File → List ℕ)

abbrev pub HasBook : HeadState → BookState → (File → List ℕ) → Type 0
HasBook head book files = IsReplay head.params.max (files (BookFile head.generation)) (length (files (Seal head.generation))) book

abbrev pub HasDamage : HeadState → Damage → (File → List ℕ) → Type 0
HasDamage head damage files = IsBookDamage head.params.max (files (BookFile head.generation)) (length (files (Seal head.generation))) damage

abbrev pub HasSizes : ℕ → List ℕ → (File → List ℕ) → Type 0
HasSizes generation sizes files = (k : ℕ) → k < length sizes → slice_index_or sizes k 0 ≤ length (files (Container generation k))

pub head-damage : (told : Told) (damage : Damage) → IfSome told (λ files. IsHeadDamage files damage) → IfSome told (λ files. IsOpeningDamage files damage)
head-damage None damage found = tt
head-damage (Some files) damage found = inl found

pub committed-damage : (told : Told) (head : HeadState) (damage : Damage) → IfSome told (λ files. HasHead files head) →
    IfSome told (λ files. IsBookDamage head.params.max (files (BookFile head.generation)) (length (files (Seal head.generation))) damage) →
    IfSome told (λ files. IsOpeningDamage files damage)
committed-damage None head damage has_head found = tt
committed-damage (Some files) head damage has_head found = inr (inl (record { head = head; has_head = has_head; first = found }))

pub container-damage : (told : Told) (head : HeadState) (book : BookState) (damage : Damage) → IfSome told (λ files. HasHead files head) →
    IfSome told (HasBook head book) → IfSome told (λ files. IsFirstShort files head.generation (needed_sizes book) damage) →
    IfSome told (λ files. IsOpeningDamage files damage)
container-damage None head book damage has_head committed found = tt
container-damage (Some files) head book damage has_head committed found = inr (inr (record {
  opened = record { head = head; book = book };
  number = found.number;
  head = has_head;
  committed = committed;
  within = found.within;
  before = found.before;
  short = found.short;
  equals = found.equals;
}))

pub opened-as : (told : Told) (head : HeadState) (book : BookState) → IfSome told (λ files. HasHead files head) → IfSome told (HasBook head book) →
    IfSome told (λ files. (k : ℕ) → k < length (needed_sizes book) → slice_index_or (needed_sizes book) k 0 ≤ length (files (Container head.generation k))) →
    IfSome told (λ files. OpenAs files (record { head = head; book = book }))
opened-as None head book has_head committed long_enough = tt
opened-as (Some files) head book has_head committed long_enough = record { head = has_head; committed = committed; containers = long_enough }

-- a fault that is passed on is the one that came
pub damaged-passed : {S T : Type 0} (fault : StoreFault) (r : Result S StoreFault) (damage : Damage) → r ≡ Err (Damaged damage) →
    IsErrAnd r (λ e. e ≡ fault) → ◌≡◌ {A = Result T StoreFault} (Err fault) (Err (Damaged damage))
damaged-passed fault (Ok x) damage is same = absurd cc
damaged-passed {T = T} fault (Err e) damage is same =
    ap (λ f. let r : Result T StoreFault = Err f in r) (sym same ∙ err-is is)

held-in : List ℕ → Option (List ℕ) → List ℕ
held-in bytes (Some held) = held
held-in bytes None = bytes

pub held-is : {x y : List ℕ} → ◌≡◌ {A = Option (List ℕ)} (Some x) (Some y) → x ≡ y
unfolding held-in
held-is {x = x} is = ap (held-in x) is

-- shelves with the same files have the same observable files
pub same-told : (old now : Told) → SameFiles old now → now ≡ old
same-told None None same = refl
same-told None (Some now) same = let clash : Some (now Head) ≡ None = same Head in absurd cc
same-told (Some old) None same = let clash : None ≡ Some (old Head) = same Head in absurd cc
same-told (Some old) (Some now) same = ap (λ f. let o : Told = Some f in o) (fun_ext (λ file. held-is (same file)))

-- ---- facts of the files of a shelf that may be observable

pub if_told : {P : (File → List ℕ) → Type 0} (told : Told) → ((files : File → List ℕ) → P files) → IfSome told P
if_told None all = tt
if_told (Some files) all = all files

pub told_map : {P Q : (File → List ℕ) → Type 0} (told : Told) → ((files : File → List ℕ) → P files → Q files) → IfSome told P → IfSome told Q
told_map None all p = tt
told_map (Some files) all p = all files p

pub told_map2 : {P Q R : (File → List ℕ) → Type 0} (told : Told) → ((files : File → List ℕ) → P files → Q files → R files) →
    IfSome told P → IfSome told Q → IfSome told R
told_map2 None all p q = tt
told_map2 (Some files) all p q = all files p q

-- the store that opens on files with an observable state stands for it
pub open-stands : (name_of : List ℕ → List ℕ) (before after : Told) (state : State) (store : StoreState) (opened : Opened) →
    GivesNames name_of → store ≡ record { opened = opened; offered = []; sound = true } → after ≡ before →
    IfSome before (λ files. OpenAs files opened) →
    IfSome before (λ old. IsLawful state → HoldState name_of old state →
    IfSome after (λ new. StandsFor name_of store new state []))
open-stands name_of None after state store opened names is same opens = tt
open-stands name_of (Some old) after state store opened names is same opens = λ lawful holds.
    subst (λ (files : Told). IfSome files (λ new. StandsFor name_of store new state [])) (sym same)
    (subst (λ (s : StoreState). StandsFor name_of s old state []) (sym is)
    (stands-opened name_of old state opened names lawful holds opens))
