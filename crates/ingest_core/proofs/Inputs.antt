-- Inputs of sources that may be observable.
use Rattle.std.proofs.Common.{◌≡◌, ℕ, ◌+◌, ◌<◌, ◌≤◌, ◌∙◌, ap, sym, List, [], length, replicate, Option, None, Some, IfSome, refl, arith}
use Rattle.std.proofs.lemmas.List.{drop_all, length-replicate}
use Rattle.std.specs.Prelude.{option_map}
use Rattle.edge_traits.specs.Source.{IsAtEnd, LosesAtMost}
use Rattle.ingest_core.specs.Ingests.{IsInputOf}
use Rattle.sd_base.specs.declared.limits.TheConstants.{MAX_INPUT}

-- there is always an input: any bytes may be that of a source that is not observable
pub some_input : (left : Option (List ℕ)) → (input : List ℕ) × IsInputOf left input
some_input None = ([], tt)
some_input (Some held) = (held, refl)

-- there are bytes of each length
bytes_of_length : (n : ℕ) → (bytes : List ℕ) × (length bytes ≡ n)
bytes_of_length n = (replicate n 0, length-replicate n 0)

-- the same of an input that is too long
pub long_input : (left : Option (List ℕ)) → IfSome left (λ held. MAX_INPUT < length held) →
    (input : List ℕ) × IsInputOf left input × (MAX_INPUT < length input)
long_input None _ = let longer = bytes_of_length (MAX_INPUT + 1) in (longer.0, tt, omega (arith, longer.1))
long_input (Some held) long = (held, refl, long)

-- nothing is left of an input that was read
pub none_left : (before after : Option (List ℕ)) → after ≡ option_map (λ _. []) before → IsAtEnd after
none_left None after is = rw is tt
none_left (Some held) after is = rw is refl

-- all bytes of an input that fits are gone
pub all_lost : (before after : Option (List ℕ)) → after ≡ option_map (λ _. []) before →
    IfSome before (λ held. length held ≤ MAX_INPUT) → LosesAtMost (MAX_INPUT + 1) before after
all_lost None after is fits = (0, omega arith, is)
all_lost (Some held) after is fits = (MAX_INPUT, omega arith, is ∙ ap Some (sym (drop_all MAX_INPUT held fits)))
