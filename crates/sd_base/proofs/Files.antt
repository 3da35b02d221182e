-- The files that a state is written as hold it, and nothing else.
use Rattle.std.proofs.Common.{◌≡◌, Some, ℕ, ◌+◌, List, [], length, replicate, refl, ap, sym, ◌∙◌, arith}
use Rattle.std.specs.Prelude.{◌==◌, slice_index_or, if◌then◌else◌}
use Rattle.std.proofs.lemmas.Bool.Decides.{Decides-eqb}
use Rattle.std.proofs.lemmas.List.{append-nil, length-replicate}
use Rattle.sd_base.specs.Books.{book_of}
use Rattle.sd_base.specs.Packing.{packing}
use Rattle.sd_base.specs.States.{State, stored_chunks}
use Rattle.sd_base.specs.Stores.{AreClean, HoldState, IsCommittedAlone, files_of, records_of}
use Rattle.sd_base.specs.declared.limits.TheConstants.{COMMIT_BYTE}
use Rattle.sd_base.specs.declared.file.File.{File}
use Rattle.sd_base.specs.declared.file.File.TheVariants.{Head, Seal, Book, Container}

-- a file of this generation has its part
chosen : {A : Type 0} (n : ℕ) (x y : A) → (if n == n then x else y) ≡ x
chosen n x y = rw ((Decides-eqb n n).1 refl) refl

holds-files_of : (name_of : List ℕ → List ℕ) (state : State) → HoldState name_of (files_of name_of state) state
holds-files_of name_of state = record {
  settings = refl;
  generation = omega (arith, length-replicate {A = ℕ} (1 + state.generation) COMMIT_BYTE);
  seal = ap length (chosen state.generation (replicate (length state.events) COMMIT_BYTE) []) ∙ length-replicate (length state.events) COMMIT_BYTE;
  book = ([], chosen state.generation (book_of (records_of name_of state)) [] ∙ sym (append-nil (book_of (records_of name_of state))));
  containers = λ k within. (
    [],
    chosen state.generation (slice_index_or (packing (stored_chunks state)) k []) []
        ∙ sym (append-nil (slice_index_or (packing (stored_chunks state)) k [])),
  );
}

alone-files_of : (name_of : List ℕ → List ℕ) (state : State) (file : File) → IsCommittedAlone name_of state file (files_of name_of state file)
alone-files_of name_of state Head = refl
alone-files_of name_of state (Seal g) = refl
alone-files_of name_of state (Book g) = refl
alone-files_of name_of state (Container g k) = refl

pub clean-files_of : (name_of : List ℕ → List ℕ) (state : State) → AreClean name_of (files_of name_of state) (Some state)
clean-files_of name_of state = record { holds = holds-files_of name_of state; alone = alone-files_of name_of state }
