-- Calls of a shelf in memory that change a file, and may be planned to fail.
use Rattle.std.proofs.Common.{◌≡◌, ℕ, Err, Ok, None, Some, refl, rules, subst}
use Rattle.std.specs.Prelude.{IfNone, IfSome, IsNone, IsOk, IsSome, OnErr, OnOk, Option, Result}
use Rattle.sd_base.specs.declared.out_of_memory.OutOfMemory.{OutOfMemory}
use Rattle.edge_traits.specs.Faults.{CountsFailed, counted_once_more}
use Rattle.edge_traits.specs.MemShelf.{IsCounted, IsFaultlessShelf, failing_calls, kept_next, shelf_calls, shelf_faults}
use Rattle.edge_traits.specs.declared.fault.EdgeFault.{EdgeFault}
use Rattle.edge_traits.specs.declared.fault.EdgeFault.TheVariants as edge
use Rattle.edge_traits.specs.declared.mem_shelf.MemShelf.{MemShelf}

-- what the work did, or did not do for want of memory
abbrev pub Work : Type 0
Work = Result (Unit {0}) OutOfMemory

-- how the call ended
abbrev pub Ends : Type 0
Ends = Result (Unit {0}) EdgeFault

-- a call that did not run out of memory did its work
pub worked : {P : Type 0} (done : Work) (r : Ends) → OnErr done (r ≡ Err edge.OutOfMemory) → (r ≡ Err edge.OutOfMemory → ⊥) →
    OnOk done P → P
worked (Ok x) r memory not holds = holds
worked (Err e) r memory not holds = absurd (not memory)

-- one that failed as planned did it too
pub worked_failing : {P : Type 0} (done : Work) (r : Ends) → OnErr done (r ≡ Err edge.OutOfMemory) → r ≡ Err edge.Failed →
    OnOk done P → P
worked_failing (Ok x) r memory is holds = holds
worked_failing (Err e) r memory is holds = absurd cc

-- and one that succeeded did the whole
pub worked_whole : {A P : Type 0} (done : Work) (r : Ends) (kept : Option ℕ) → OnErr done (r ≡ Err edge.OutOfMemory) →
    OnOk r (IsNone kept) → (A → IsNone kept → P) → OnOk done A → OnOk r P
worked_whole (Ok x) (Ok y) kept memory none step did = step did none
worked_whole (Err e) (Ok y) kept memory none step did = absurd cc
worked_whole done (Err fault) kept memory none step did = tt

-- a call that ran out of memory did nothing
pub unworked : {P : Type 0} (done : Work) (r : Ends) (kept : Option ℕ) → OnOk done (IsSome kept → r ≡ Err edge.Failed) →
    OnOk done (IsNone kept → IsOk r) → r ≡ Err edge.OutOfMemory → OnErr done P → P
unworked (Err e) r kept failed ok is nothing = nothing
unworked (Ok x) r (Some k) failed ok is nothing = let fails : r ≡ Err edge.Failed = failed (search rules) in absurd cc
unworked (Ok x) (Ok y) None failed ok is nothing = absurd cc
unworked (Ok x) (Err e) None failed ok is nothing = let fine = ok (search rules) in absurd (search (rules, fine))

pub either : {A B P : Type 0} (done : Work) → (A → P) → (B → P) → OnOk done A → OnErr done B → P
either (Ok x) did not a b = did a
either (Err e) did not a b = not b

-- what holds if nothing is planned, and of what is planned
pub of_none : {P : Type 0} (kept : Option ℕ) → IsNone kept → IfNone kept P → P
of_none None none holds = holds
of_none (Some k) none holds = absurd cc

pub some_map : {P Q : ℕ → Type 0} (kept : Option ℕ) → ((k : ℕ) → P k → Q k) → IfSome kept P → IfSome kept Q
some_map None step holds = tt
some_map (Some k) step holds = step k holds

none_some : (kept : Option ℕ) → IsNone kept → IsSome kept → ⊥
none_some None none some = cc
none_some (Some k) none some = cc

counts_none : (r : Ends) (before after : ℕ) → CountsFailed r before after → (r ≡ Err edge.Failed → ⊥) → after ≡ before
counts_none (Ok x) before after counts not = counts.ok
counts_none (Err edge.Failed) before after counts not = absurd (not refl)
counts_none (Err edge.OutOfMemory) before after counts not = counts.out_of_memory refl

-- the call was counted
pub counted : (r : Ends) (kept : Option ℕ) (before after : MemShelf) → kept ≡ kept_next before →
    (IsFaultlessShelf before → IsNone kept) → (r ≡ Err edge.Failed → IsSome kept) → OnOk r (IsNone kept) →
    CountsFailed r (shelf_faults before) (shelf_faults after) → shelf_calls after ≡ counted_once_more (shelf_calls before) →
    failing_calls after ≡ failing_calls before → (IsFaultlessShelf before → IsFaultlessShelf after) → IsCounted r before after
counted r kept before after is past fails planned faults calls failing stays = record {
  fails = λ failed. subst (λ (o : Option ℕ). IsSome o) is (fails failed);
  ok = subst (λ (o : Option ℕ). OnOk r (IsNone o)) is planned;
  faults = faults;
  calls = calls;
  failing = failing;
  faultless_serves = λ never failed. none_some kept (past never) (fails failed);
  faultless_counts_none = λ never. counts_none r _ _ faults (λ failed. none_some kept (past never) (fails failed));
  stays_faultless = stays;
}
