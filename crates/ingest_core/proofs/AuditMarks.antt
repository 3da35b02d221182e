-- The containers of files that open are long enough for a mark, so what their first bytes say is
-- what the definition of a flaw asks.
use Rattle.std.proofs.Common.{◌≡◌, inl, inr, ℕ, zero, suc, ◌+◌, ◌<◌, ◌≤◌, List, [], ◌∷◌, length, sym, subst, arith, IfSome}
use Rattle.std.specs.Prelude.{Option, None, Some, nat_le, slice_index_or}
use Rattle.std.proofs.lemmas.Bool.{cases_Bool}
use Rattle.edge_traits.specs.Shelf.{SameFiles, content}
use Rattle.ingest_core.specs.AuditMarks.{IsMarked, MayBeUnmarked}
use Rattle.sd_base.proofs.Packing.{sizes-fits, sizes-opens}
use Rattle.sd_base.specs.Firsts.{HoldsBelow}
use Rattle.sd_base.specs.Flaws.{HasMark, IsMarkFlaw}
use Rattle.sd_base.specs.Opening.{OpenAs, Opened, chunk_lengths, needed_sizes}
use Rattle.sd_base.specs.Packing.{container_sizes, sizes_on}
use Rattle.sd_base.specs.declared.damage.Damage.{Damage}
use Rattle.sd_base.specs.declared.file.File.{File}
use Rattle.sd_base.specs.declared.file.File.TheVariants.{Container}
use Rattle.sd_base.specs.declared.limits.TheConstants.{CONTAINER_HEADER, MAX_CONTAINER}

-- each of the sizes is at least that of a header
abbrev AreLong : List ℕ → Type 0
AreLong sizes = HoldsBelow (length sizes) (λ k. CONTAINER_HEADER ≤ slice_index_or sizes k 0)

long-and : (size : ℕ) (sizes : List ℕ) → CONTAINER_HEADER ≤ size → AreLong sizes → AreLong (size ∷ sizes)
long-and size sizes first rest zero within = first
long-and size sizes first rest (suc k) within = rest k (omega (arith, within))

long-sizes : (size : ℕ) (lengths : List ℕ) → CONTAINER_HEADER ≤ size → AreLong (sizes_on size lengths)
long-sizes size [] enough = long-and size [] enough (λ k within. absurd (omega (arith, within)))
long-sizes size (n ∷ lengths) enough = elim (cases_Bool (nat_le (size + n) MAX_CONTAINER)) [
  | inl fits ↦ subst AreLong (sym (sizes-fits size n lengths fits)) (long-sizes (size + n) lengths (omega (arith, enough)))
  | inr full ↦ subst AreLong (sym (sizes-opens size n lengths full))
      (long-and size (sizes_on (CONTAINER_HEADER + n) lengths) enough (long-sizes (CONTAINER_HEADER + n) lengths (omega arith)))
]

long-containers : (lengths : List ℕ) → AreLong (container_sizes lengths)
long-containers [] = λ k within. absurd (omega (arith, within))
long-containers (n ∷ lengths) = long-sizes (CONTAINER_HEADER + n) lengths (omega arith)

-- a container of files that open has as many bytes as a header
long-file : (files : File → List ℕ) (opened : Opened) → OpenAs files opened → (k : ℕ) → k < length (needed_sizes opened.book) →
    CONTAINER_HEADER ≤ length (files (Container opened.head.generation k))
long-file files opened opens k within =
    let needed = long-containers (chunk_lengths opened.book) k within in
    let has = opens.containers k within in
    omega (arith, needed, has)

-- what the bytes of a file say, they said before a call that changed none
pub same-told : (before after : Option (File → List ℕ)) (file : File) (P : List ℕ → Type 0) → SameFiles before after →
    IfSome (content after file) P → IfSome (content before file) P
same-told before after file P same holds = subst (λ (known : Option (List ℕ)). IfSome known P) (same file) holds

module _ (opened : Opened) where
  -- what each container up to one says
  abbrev pub AreMarkedTo : Option (File → List ℕ) → ℕ → ℕ → Type 0
  AreMarkedTo told generation n = (k : ℕ) → k < n → IfSome (content told (Container generation k)) (IsMarked k)

  marked-here : (told : Option (File → List ℕ)) → AreMarkedTo told opened.head.generation (length (needed_sizes opened.book)) →
      IfSome told (λ files. OpenAs files opened → HoldsBelow (length (needed_sizes opened.book)) (HasMark files opened))
  marked-here None all = tt
  marked-here (Some files) all = λ opens k within. all k within (long-file files opened opens k within)

  pub all-marked : (told : Option (File → List ℕ)) (generation n : ℕ) → opened.head.generation ≡ generation →
      length (needed_sizes opened.book) ≡ n → AreMarkedTo told generation n →
      IfSome told (λ files. OpenAs files opened → HoldsBelow (length (needed_sizes opened.book)) (HasMark files opened))
  all-marked told generation n of count all =
      marked-here told (subst (λ (g : ℕ). AreMarkedTo told g (length (needed_sizes opened.book))) (sym of)
      (subst (λ (m : ℕ). AreMarkedTo told generation m) (sym count) all))

  unmarked-here : (told : Option (File → List ℕ)) (number : ℕ) (damage : Damage) → number < length (needed_sizes opened.book) →
      AreMarkedTo told opened.head.generation number →
      IfSome (content told (Container opened.head.generation number)) (MayBeUnmarked number damage) →
      IfSome told (λ files. OpenAs files opened → IsMarkFlaw files opened damage)
  unmarked-here None number damage within before here = tt
  unmarked-here (Some files) number damage within before here = λ opens.
      let found = here (long-file files opened opens number within) in
      record {
        number = number;
        first = record {
          within = within;
          before = λ k below. before k below (long-file files opened opens k (omega (arith, below, within)));
          fails = found.fails;
        };
        equals = found.equals;
      }

  pub first-unmarked : (told : Option (File → List ℕ)) (generation n number : ℕ) (damage : Damage) →
      opened.head.generation ≡ generation → length (needed_sizes opened.book) ≡ n → number < n →
      AreMarkedTo told generation number → IfSome (content told (Container generation number)) (MayBeUnmarked number damage) →
      IfSome told (λ files. OpenAs files opened → IsMarkFlaw files opened damage)
  first-unmarked told generation n number damage of count within before here =
      unmarked-here told number damage (omega (arith, within, count))
      (subst (λ (g : ℕ). AreMarkedTo told g number) (sym of) before)
      (subst (λ (g : ℕ). IfSome (content told (Container g number)) (MayBeUnmarked number damage)) (sym of) here)
