-- What a call passes on of a call within it: what was done to a device, and a fault.
use Rattle.std.proofs.Common.{◌≡◌, inl, inr, ℕ, ◌≤◌, arith, ap, refl, sym, ◌∙◌}
use Rattle.std.specs.Prelude.{◌⊎◌, Bool, Err, IfOk, IsErr, IsErrAnd, List, Ok, OnErr, Option, Result}
use Rattle.edge_traits.specs.Faults.{Rose}
use Rattle.edge_traits.specs.declared.fault.EdgeFault.{EdgeFault}
use Rattle.edge_traits.specs.declared.fault.EdgeFault.TheVariants as edge
use Rattle.sd_base.specs.declared.file.File.{File}
use Rattle.store_core.specs.Commits.{OnlyFails}
use Rattle.store_core.specs.Faults.{store_fault_of}
use Rattle.store_core.specs.Shelves.{CountsFaults, OnlyReads}
use Rattle.store_core.specs.declared.fault.StoreFault.{StoreFault}
use Rattle.store_core.specs.declared.fault.StoreFault.TheVariants as store
use Rattle.store_core.proofs.OpeningLemmas.{err-is}

rose-later : (a b c : ℕ) → a ≤ b → Rose b c → Rose a c
rose-later a b c le (inl more) = inl (omega arith)
rose-later a b c le (inr most) = inr most

-- the facts of one call
pub counts-of : {F p : Type 0} (faults : F → ℕ) (faultless : F → Type 0) (a b : F) → (p → Rose (faults a) (faults b)) →
    faults a ≤ faults b → (faultless a → p → ⊥) → (faultless a → faults b ≡ faults a) → (faultless a → faultless b) →
    CountsFaults p faults faultless a b
counts-of faults faultless a b failed never_falls serves counts_none stays = record {
  failed = failed;
  never_falls = never_falls;
  faultless_serves = serves;
  faultless_counts_none = counts_none;
  stays_faultless = stays;
}

module _ {F : Type 0} {faults : F → ℕ} {faultless : F → Type 0} where
  -- a call that fails only if the other did
  pub counts-as : {p q : Type 0} {a b : F} → (q → p) → CountsFaults p faults faultless a b →
      CountsFaults q faults faultless a b
  counts-as fails counts = record {
    failed = λ is. counts.failed (fails is);
    never_falls = counts.never_falls;
    faultless_serves = λ never is. counts.faultless_serves never (fails is);
    faultless_counts_none = counts.faultless_counts_none;
    stays_faultless = counts.stays_faultless;
  }

  -- a call after one that did not fail
  pub counts-then : {p q : Type 0} {a b c : F} → CountsFaults p faults faultless a b → CountsFaults q faults faultless b c →
      CountsFaults q faults faultless a c
  counts-then {a = a} {b = b} {c = c} one two = record {
    failed = λ is. rose-later (faults a) (faults b) (faults c) one.never_falls (two.failed is);
    never_falls = omega (arith, one.never_falls, two.never_falls);
    faultless_serves = λ never. two.faultless_serves (one.stays_faultless never);
    faultless_counts_none = λ never. two.faultless_counts_none (one.stays_faultless never) ∙ one.faultless_counts_none never;
    stays_faultless = λ never. two.stays_faultless (one.stays_faultless never);
  }

  -- no call
  pub counts-none : {q : Type 0} {a : F} → (q → ⊥) → CountsFaults q faults faultless a a
  counts-none {a = a} never = record {
    failed = λ is. absurd (never is);
    never_falls = omega arith;
    faultless_serves = λ _. never;
    faultless_counts_none = λ _. refl;
    stays_faultless = λ same. same;
  }

  module _ {files : F → Option (File → List ℕ)} {loose : F → File → Bool} where
    pub reads-as : {p q : Type 0} {a b : F} → (q → p) → OnlyReads p files loose faults faultless a b →
        OnlyReads q files loose faults faultless a b
    reads-as fails reads = record {
      same_files = reads.same_files;
      same_loose = reads.same_loose;
      counts = counts-as fails reads.counts;
    }

    pub reads-then : {p q : Type 0} {a b c : F} → OnlyReads p files loose faults faultless a b →
        OnlyReads q files loose faults faultless b c → OnlyReads q files loose faults faultless a c
    reads-then one two = record {
      same_files = λ f. two.same_files f ∙ one.same_files f;
      same_loose = λ f. two.same_loose f ∙ one.same_loose f;
      counts = counts-then one.counts two.counts;
    }

    pub reads-none : {q : Type 0} {a : F} → (q → ⊥) → OnlyReads q files loose faults faultless a a
    reads-none never = record { same_files = λ f. refl; same_loose = λ f. refl; counts = counts-none never }

-- ---- a fault that is passed on by `?`

-- after a fault nothing is said of a value
pub none-ok : {T : Type 0} (P : T → Type 0) (r : Result T StoreFault) → IsErr r → IfOk r P
none-ok P (Ok x) is = absurd cc
none-ok P (Err e) is = tt

-- that of another call of the store
pub passed-is : {T : Type 0} (fault : StoreFault) (r : Result T StoreFault) → IsErrAnd r (λ e. e ≡ fault) → r ≡ Err fault
passed-is fault (Ok x) same = absurd same
passed-is {T = T} fault (Err e) same = ap (λ f. let r : Result T StoreFault = Err f in r) same

pub fault-passed : {S T : Type 0} {other : StoreFault} (fault : StoreFault) (r : Result T StoreFault) → IsErrAnd r (λ e. e ≡ fault) →
    r ≡ Err other → ◌≡◌ {A = Result S StoreFault} (Err fault) (Err other)
fault-passed {S = S} fault r same is =
    ap (λ f. let r : Result S StoreFault = Err f in r) (err-is (sym (passed-is fault r same) ∙ is))

-- that of a sink, or no memory
pub sink-unfailed : {T : Type 0} (r : Result T StoreFault) → OnErr r ((r ≡ Err store.SinkFault) ⊎ (r ≡ Err store.OutOfMemory)) →
    r ≡ Err store.ShelfFault → ⊥
sink-unfailed (Ok x) only is = absurd cc
sink-unfailed (Err e) (inl sink) is = let clash = sym sink ∙ is in absurd cc
sink-unfailed (Err e) (inr memory) is = let clash = sym memory ∙ is in absurd cc

-- that of a shelf
pub edge-passed : {S T : Type 0} {other : EdgeFault} (fault : EdgeFault) (r : Result T EdgeFault) → IsErrAnd r (λ e. e ≡ fault) →
    r ≡ Err other → ◌≡◌ {A = Result S EdgeFault} (Err fault) (Err other)
edge-passed fault (Ok x) same is = absurd same
edge-passed {S = S} {other = other} fault (Err e) same is =
    let found : e ≡ other = cc in ap (λ f. let r : Result S EdgeFault = Err f in r) (sym same ∙ found)

pub edge-failed : {S T : Type 0} (fault : EdgeFault) (r : Result T StoreFault) → IsErrAnd r (λ e. e ≡ store_fault_of fault) →
    r ≡ Err store.ShelfFault → ◌≡◌ {A = Result S EdgeFault} (Err fault) (Err edge.Failed)
edge-failed edge.Failed r same is = refl
edge-failed edge.OutOfMemory r same is = let clash = sym (passed-is store.OutOfMemory r same) ∙ is in absurd cc

-- that of a call that ran out of memory
pub memory-is : {T : Type 0} (r : Result T StoreFault) (fault : StoreFault) → IsErrAnd r (λ e. e ≡ store.OutOfMemory) →
    r ≡ Err fault → fault ≡ store.OutOfMemory
memory-is (Ok x) fault same is = absurd same
memory-is (Err e) fault same is = sym (err-is is) ∙ same

pub memory-fails : {T : Type 0} (r : Result T StoreFault) → IsErrAnd r (λ e. e ≡ store.OutOfMemory) → OnErr r (OnlyFails r)
memory-fails (Ok x) same = absurd same
memory-fails {T = T} (Err e) same = inr (ap (λ f. let r : Result T StoreFault = Err f in r) same)

pub memory-unfailed : {T : Type 0} (r : Result T StoreFault) → IsErrAnd r (λ e. e ≡ store.OutOfMemory) → r ≡ Err store.ShelfFault → ⊥
memory-unfailed r same is = let clash = memory-is r store.ShelfFault same is in absurd cc

pub memory-unsunk : {T : Type 0} (r : Result T StoreFault) → IsErrAnd r (λ e. e ≡ store.OutOfMemory) → r ≡ Err store.SinkFault → ⊥
memory-unsunk r same is = let clash = memory-is r store.SinkFault same is in absurd cc
