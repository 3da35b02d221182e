-- Faults that are passed on from call to call.
use Rattle.std.proofs.Common.{ℕ, ◌∙◌, arith, ◌≡◌, Err, ap, inl, inr, refl, subst, sym}
use Rattle.std.specs.Prelude.{IfErr, IsErrAnd, MatchResult, Ok, OnErr, Result}
use Rattle.edge_traits.specs.Faults.{Rose}
use Rattle.store_core.specs.Shelves.{CountsFaults}
use Rattle.edge_traits.specs.declared.source_reader.ReadFault.{ReadFault}
use Rattle.edge_traits.specs.declared.source_reader.ReadFault.TheVariants as read
use Rattle.ingest_core.specs.Faults.{Fails, IsOfChunks, IsOfReading, IsStoreFailure, ingest_fault_of}
use Rattle.ingest_core.specs.Offering.{OnlyRefuses}
use Rattle.ingest_core.specs.declared.fault.IngestFault.{IngestFault}
use Rattle.ingest_core.specs.declared.fault.IngestFault.TheVariants.{InputTooLong, SourceFault, Store}
use Rattle.store_core.specs.Commits.{OnlyFails}
use Rattle.store_core.specs.declared.fault.StoreFault.{StoreFault}
use Rattle.store_core.specs.declared.fault.StoreFault.TheVariants.{OutOfMemory, ShelfFault, TooManyPlaces}

-- the error of a result, or this one if it has none
error-in : {E : Type 0} → E → {T : Type 0} → Result T E → E
error-in other (Err error) = error
error-in other (Ok x) = other

-- equal results have equal errors, and equal errors make equal results
pub err-is : {S E : Type 0} {e f : E} → ◌≡◌ {A = Result S E} (Err e) (Err f) → e ≡ f
unfolding error-in
err-is {S} {E} {e} is = ap (λ (r : Result S E). error-in e r) is

pub err-of : (T : Type 0) {E : Type 0} {e f : E} → e ≡ f → ◌≡◌ {A = Result T E} (Err e) (Err f)
err-of T {E} is = ap (λ (x : E). let r : Result T E = Err x in r) is

-- a call that passes an error on returns it
pub passed-is : {T E : Type 0} (error : E) (q : Result T E) → IsErrAnd q (λ e. e ≡ error) → q ≡ Err error
passed-is error (Ok x) same = absurd same
passed-is {T} error (Err e) same = err-of T same

-- what holds of the error of a result holds of the error that it is
pub at-error : {S E : Type 0} (P : E → Type 0) (r : Result S E) (error : E) → r ≡ Err error → IfErr r P → P error
at-error {S} {E} P r error is holds = subst (λ (q : Result S E). IfErr q P) is holds

pub at-match : {S E : Type 0} (Q : S → Type 0) (P : E → Type 0) (r : Result S E) (error : E) → r ≡ Err error →
    MatchResult r Q P → P error
at-match Q P (Ok x) error is holds = absurd cc
at-match Q P (Err e) error is holds = subst P (err-is is) holds

-- what holds of an error holds of the result of a call that passes it on
pub passed-holds : {T E : Type 0} (P : E → Type 0) (q : Result T E) (error : E) → IsErrAnd q (λ e. e ≡ error) →
    P error → IfErr q P
passed-holds P (Ok x) error same holds = absurd same
passed-holds P (Err e) error same holds = subst P (sym same) holds

pub passed-match : {T E : Type 0} (Q : T → Type 0) (P : E → Type 0) (q : Result T E) (error : E) →
    IsErrAnd q (λ e. e ≡ error) → P error → MatchResult q Q P
passed-match Q P (Ok x) error same holds = absurd same
passed-match Q P (Err e) error same holds = subst P (sym same) holds

-- what holds anyway holds if a result is an error
pub on-error : {T E : Type 0} {P : Type 0} (q : Result T E) → P → OnErr q P
on-error (Ok x) holds = tt
on-error (Err e) holds = holds

store-in : StoreFault → IngestFault → StoreFault
store-in other (Store fault) = fault
store-in other SourceFault = other
store-in other InputTooLong = other

-- faults of the store are the same if they are so for the ingest
pub store-is : {e f : StoreFault} → Store e ≡ Store f → e ≡ f
unfolding store-in
store-is {e} is = ap (store-in e) is

-- the store failed, so the ingest did
pub only_fails : {T : Type 0} (fault : StoreFault) → OnlyFails (let r : Result T StoreFault = Err fault in r) →
    Fails (Store fault) × IsStoreFailure (Store fault)
only_fails fault (inl shelf) = subst (λ f. Fails (Store f) × IsStoreFailure (Store f)) (sym (err-is shelf)) (tt, tt)
only_fails fault (inr memory) = subst (λ f. Fails (Store f) × IsStoreFailure (Store f)) (sym (err-is memory)) (tt, tt)

-- running out of memory is a failure
pub memory-fails : {T : Type 0} (r : Result T StoreFault) → IsErrAnd r (λ fault. fault ≡ OutOfMemory) → OnErr r (OnlyFails r)
memory-fails (Ok x) is = tt
memory-fails {T} (Err fault) is = inr (err-of T is)

-- a value is no error
pub ok-not : {T E : Type 0} {x : T} {e : E} → ◌≡◌ {A = Result T E} (Ok x) (Err e) → ⊥
ok-not is = cc

-- running out of memory is no other fault
pub memory-not-places : Store OutOfMemory ≡ Store TooManyPlaces → ⊥
memory-not-places is = cc

pub memory-not-shelf : Store OutOfMemory ≡ Store ShelfFault → ⊥
memory-not-shelf is = cc

pub memory-not-long : Store OutOfMemory ≡ InputTooLong → ⊥
memory-not-long is = cc

pub memory-not-source : Store OutOfMemory ≡ SourceFault → ⊥
memory-not-source is = cc

pub memory-no-fault : OutOfMemory ≡ ShelfFault → ⊥
memory-no-fault is = cc

-- a store that refuses chunks refuses them to an ingest, and not for want of places
pub offers-of-chunks : {T : Type 0} (fault : StoreFault) → OnlyRefuses (let r : Result T StoreFault = Err fault in r) →
    IsOfChunks (Store fault) × (fault ≡ TooManyPlaces → ⊥)
offers-of-chunks fault (inl damaged) =
    subst (λ f. IsOfChunks (Store f) × (f ≡ TooManyPlaces → ⊥)) (sym (err-is damaged.1)) (damaged.2, λ is. cc)
offers-of-chunks fault (inr (inl many)) =
    subst (λ f. IsOfChunks (Store f) × (f ≡ TooManyPlaces → ⊥)) (sym (err-is many)) (tt, λ is. cc)
offers-of-chunks fault (inr (inr (inl shelf))) =
    subst (λ f. IsOfChunks (Store f) × (f ≡ TooManyPlaces → ⊥)) (sym (err-is shelf)) (tt, λ is. cc)
offers-of-chunks fault (inr (inr (inr memory))) =
    subst (λ f. IsOfChunks (Store f) × (f ≡ TooManyPlaces → ⊥)) (sym (err-is memory)) (tt, λ is. cc)

-- no fault is counted if nothing was called
pub counts-none : {F : Type 0} (fails : Type 0) (faults : F → ℕ) (faultless : F → Type 0) (same : F) → (fails → ⊥) →
    CountsFaults fails faults faultless same same
counts-none fails faults faultless same never = record {
  failed = λ is. absurd (never is);
  never_falls = omega arith;
  faultless_serves = λ still is. never is;
  faultless_counts_none = λ still. refl;
  stays_faultless = λ still. still;
}

-- a run counts the faults of its call
pub counts-as : {F : Type 0} {call run : Type 0} {faults : F → ℕ} {faultless : F → Type 0} {before after : F} →
    (run → call) → CountsFaults call faults faultless before after → CountsFaults run faults faultless before after
counts-as only counts = record {
  failed = λ is. counts.failed (only is);
  never_falls = counts.never_falls;
  faultless_serves = λ still is. counts.faultless_serves still (only is);
  faultless_counts_none = counts.faultless_counts_none;
  stays_faultless = counts.stays_faultless;
}

-- faults are counted over two calls
pub counts-on : {F : Type 0} (first then : Type 0) (faults : F → ℕ) (faultless : F → Type 0) (before mid after : F) →
    CountsFaults first faults faultless before mid → CountsFaults then faults faultless mid after →
    CountsFaults then faults faultless before after
counts-on first then faults faultless before mid after one two = record {
  failed = λ fails. rose (two.failed fails);
  never_falls = let a = one.never_falls in let b = two.never_falls in omega (arith, a, b);
  faultless_serves = λ never fails. two.faultless_serves (one.stays_faultless never) fails;
  faultless_counts_none = λ never.
      two.faultless_counts_none (one.stays_faultless never) ∙ one.faultless_counts_none never;
  stays_faultless = λ never. two.stays_faultless (one.stays_faultless never);
} where
  rose : Rose (faults mid) (faults after) → Rose (faults before) (faults after)
  rose (inl more) = let a = one.never_falls in inl (omega (arith, a, more))
  rose (inr full) = inr full

-- what the faults of reading mean to an ingest
pub reading-is : (fault : ReadFault) → IsOfReading (ingest_fault_of fault)
reading-is read.SourceFault = tt
reading-is read.InputTooLong = tt
reading-is read.OutOfMemory = tt

pub too-long-is : (fault : ReadFault) → ingest_fault_of fault ≡ InputTooLong → fault ≡ read.InputTooLong
too-long-is read.SourceFault is = absurd cc
too-long-is read.InputTooLong is = refl
too-long-is read.OutOfMemory is = absurd cc

pub source-fault-is : (fault : ReadFault) → ingest_fault_of fault ≡ SourceFault → fault ≡ read.SourceFault
source-fault-is read.SourceFault is = refl
source-fault-is read.InputTooLong is = absurd cc
source-fault-is read.OutOfMemory is = absurd cc
