-- What a replay of the records that were read says of the files.
use Rattle.std.proofs.Common.{◌≡◌, inl, inr, ℕ, ◌+◌, List, [], ◌∷◌, ◌++◌, length, take, subst, sym, ap, ◌∙◌}
use Rattle.std.specs.Prelude.{◌↔◌, Err, IfSome, IsErrAnd, None, Ok, Option, Result, Some}
use Rattle.edge_traits.specs.Shelf.{content}
use Rattle.sd_base.specs.Books.{BookState, IsBookDamage, IsReplay, flaw_at, recipe_damage, recipe_flaw, sessions_of}
use Rattle.sd_base.specs.declared.damage.Damage.{Damage}
use Rattle.sd_base.specs.declared.file.File.{File}
use Rattle.sd_base.specs.declared.file.File.TheVariants.{Book as BookFile, Seal}
use Rattle.sd_base.specs.declared.record.NewChunk.{NewChunk}
use Rattle.sd_base.specs.declared.record.Session.{Session}
use Rattle.session_book.specs.Replaying.{IfDamaged}
use Rattle.session_book.specs.declared.replay.BookFault.{BookFault}
use Rattle.session_book.specs.declared.replay.BookFault.TheVariants as book
use Rattle.store_core.specs.Faults.{IsOfOpening, store_fault_of_book}
use Rattle.store_core.specs.declared.fault.StoreFault.{StoreFault}
use Rattle.store_core.specs.declared.fault.StoreFault.TheVariants as store
use Rattle.store_core.specs.BookFiles.{whole_len}
use Rattle.store_core.proofs.BookFiles.{damage-front, replay-front}

module _ (generation max records : ℕ) (read : List ℕ) where
  pub replay-files : (old now : Option (File → List ℕ)) (book : BookState) →
      IfSome (content old (Seal generation)) (λ bytes. records ≡ length bytes) → content now (BookFile generation) ≡ content old (BookFile generation) →
      IfSome (content now (BookFile generation)) (λ bytes. read ≡ take (whole_len records bytes) bytes) → IsReplay max read records book →
      IfSome old (λ files. IsReplay max (files (BookFile generation)) (length (files (Seal generation))) book)
  replay-files None now book sealed same front replay = tt
  replay-files (Some files) now book sealed same front replay =
      let here = subst (λ (o : Option (List ℕ)). IfSome o (λ bytes. read ≡ take (whole_len records bytes) bytes)) same front in
      subst (λ n. IsReplay max (files (BookFile generation)) n book) sealed
      (replay-front max records (files (BookFile generation)) book (subst (λ bytes. IsReplay max bytes records book) here replay))

  pub damage-files : (old now : Option (File → List ℕ)) (damage : Damage) →
      IfSome (content old (Seal generation)) (λ bytes. records ≡ length bytes) → content now (BookFile generation) ≡ content old (BookFile generation) →
      IfSome (content now (BookFile generation)) (λ bytes. read ≡ take (whole_len records bytes) bytes) → IsBookDamage max read records damage →
      IfSome old (λ files. IsBookDamage max (files (BookFile generation)) (length (files (Seal generation))) damage)
  damage-files None now damage sealed same front found = tt
  damage-files (Some files) now damage sealed same front found =
      let here = subst (λ (o : Option (List ℕ)). IfSome o (λ bytes. read ≡ take (whole_len records bytes) bytes)) same front in
      subst (λ n. IsBookDamage max (files (BookFile generation)) n damage) sealed
      (damage-front max records (files (BookFile generation)) damage (subst (λ bytes. IsBookDamage max bytes records damage) here found))

-- the damage in a fault, or this one if it has none
damage-in : Damage → StoreFault → Damage
damage-in d (store.Damaged found) = found
damage-in d _ = d

fault-in : {S : Type 0} → StoreFault → Result S StoreFault → StoreFault
fault-in e (Ok x) = e
fault-in e (Err found) = found

pub err-is : {S : Type 0} {e f : StoreFault} → ◌≡◌ {A = Result S StoreFault} (Err e) (Err f) → e ≡ f
unfolding fault-in
err-is {e = e} is = ap (fault-in e) is

-- the damage that the store returns is that of the replay
pub damage-of_fault : (B : Type 0) {S : Type 0} (fault : BookFault) (r : Result S StoreFault) (damage : Damage) (P : Damage → Type 0) →
    r ≡ Err (store.Damaged damage) → IsErrAnd r (λ e. e ≡ store_fault_of_book fault) →
    IfDamaged fault ((d : Damage) → (◌≡◌ {A = Result B BookFault} (Err fault) (Err (book.Damaged d))) ↔ P d) → P damage
unfolding damage-in
damage-of_fault B (book.Damaged d) (Ok x) damage P is gives found = absurd cc
damage-of_fault B (book.Damaged d) (Err e) damage P is gives found =
    let same : store.Damaged damage ≡ store.Damaged d = sym (err-is is) ∙ gives in
    let equal : d ≡ damage = ap (damage-in d) (sym same) in
    (found damage).0 (ap (λ x. let r : Result B BookFault = Err (book.Damaged x) in r) equal)
damage-of_fault B book.OutOfMemory (Ok x) damage P is gives found = absurd cc
damage-of_fault B book.OutOfMemory (Err e) damage P is gives found =
    let clash : store.Damaged damage ≡ store.OutOfMemory = sym (err-is is) ∙ gives in absurd cc

-- ---- what is wrong with a book is a damage that opening may find

flaw-kind : (k : ℕ) (flaw : Option ℕ) (later : Option Damage) (damage : Damage) →
    (later ≡ Some damage → IsOfOpening damage) → flaw_at k flaw later ≡ Some damage → IsOfOpening damage
flaw-kind k None later damage rest is = rest is
flaw-kind k (Some place) later damage rest is =
    subst (λ (found : Option Damage). IfSome found IsOfOpening) is tt

recipe-kind : (chunks : List NewChunk) (k : ℕ) (sessions : List Session) (damage : Damage) →
    recipe_damage chunks k sessions ≡ Some damage → IsOfOpening damage
recipe-kind chunks k [] damage is = absurd cc
recipe-kind chunks k (session ∷ sessions) damage is =
    let known = chunks ++ session.entry.fresh in
    flaw-kind k (recipe_flaw known session.entry) (recipe_damage known (k + 1) sessions) damage
    (recipe-kind known (k + 1) sessions damage) is

pub book-kind : (max : ℕ) (bytes : List ℕ) (n : ℕ) (damage : Damage) → IsBookDamage max bytes n damage → IsOfOpening damage
book-kind max bytes n damage (inl record_bad) = subst IsOfOpening (sym record_bad.equals) tt
book-kind max bytes n damage (inr recipe_bad) = recipe-kind [] 0 (sessions_of recipe_bad.records) damage recipe_bad.first
