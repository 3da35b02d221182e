-- Faults that are passed on from call to call.
use Rattle.std.proofs.Common.{◌≡◌, ℕ, ◌≤◌, Err, Ok, ap, arith, inl, inr, refl}
use Rattle.std.specs.Prelude.{IsErrAnd, Result}
use Rattle.edge_traits.specs.Faults.{Rose}
use Rattle.edge_traits.specs.ReadAll.{read_fault_of}
use Rattle.edge_traits.specs.declared.fault.EdgeFault.{EdgeFault}
use Rattle.edge_traits.specs.declared.fault.EdgeFault.TheVariants as edge
use Rattle.edge_traits.specs.declared.source_reader.ReadFault.{ReadFault}
use Rattle.edge_traits.specs.declared.source_reader.ReadFault.TheVariants as read

-- a call that passes an error on returns it
pub passed-is : {T E : Type 0} (error : E) (q : Result T E) → IsErrAnd q (λ e. e ≡ error) → q ≡ Err error
passed-is error (Ok x) same = absurd same
passed-is {T} {E} error (Err e) same = ap (λ (x : E). let r : Result T E = Err x in r) same

-- a count that rose after a call rose over both
pub rose_later : (before mid after : ℕ) → before ≤ mid → Rose mid after → Rose before after
rose_later before mid after never_falls (inl more) = inl (omega (arith, never_falls, more))
rose_later before mid after never_falls (inr full) = inr full

-- only a failed read is a fault of the source
pub failed-is : (fault : EdgeFault) → read_fault_of fault ≡ read.SourceFault → fault ≡ edge.Failed
failed-is edge.Failed is = refl
failed-is edge.OutOfMemory is = absurd cc

pub not-too-long : (fault : EdgeFault) → read_fault_of fault ≡ read.InputTooLong → ⊥
not-too-long edge.Failed is = cc
not-too-long edge.OutOfMemory is = cc

-- a result is one value or one error
pub ok-not : {T E : Type 0} {x : T} {e : E} → ◌≡◌ {A = Result T E} (Ok x) (Err e) → ⊥
ok-not is = cc

pub same-error : {T E : Type 0} (r : Result T E) {e f : E} → r ≡ Err e → r ≡ Err f → e ≡ f
same-error r one two = cc

pub memory-not-failed : {T : Type 0} (r : Result T ReadFault) → r ≡ Err read.OutOfMemory → r ≡ Err read.SourceFault → ⊥
memory-not-failed r gave is = cc

pub memory-not-long : {T : Type 0} (r : Result T ReadFault) → r ≡ Err read.OutOfMemory → r ≡ Err read.InputTooLong → ⊥
memory-not-long r gave is = cc

pub long-not-failed : {T : Type 0} → ◌≡◌ {A = Result T ReadFault} (Err read.InputTooLong) (Err read.SourceFault) → ⊥
long-not-failed is = cc

pub long-not-memory : {T : Type 0} → ◌≡◌ {A = Result T ReadFault} (Err read.InputTooLong) (Err read.OutOfMemory) → ⊥
long-not-memory is = cc
