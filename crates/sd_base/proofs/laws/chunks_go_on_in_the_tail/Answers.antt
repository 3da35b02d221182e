use Rattle.std.proofs.Common.{◌≤◌, inl, inr, length, refl, arith}
use Rattle.std.proofs.lemmas.Bool.{cases_lt}
use Rattle.std.proofs.lemmas.List.{nil_from_length}
use Rattle.sd_base.specs.Cutting.{cuts_within}
use Rattle.sd_base.proofs.Tails.{chunks_of_cons}
use Rattle.sd_base.proofs.laws.chunks_go_on_in_the_tail.Goals as goal

pub returns-clause-empty : goal.returns-clause-empty
unfolding cuts_within
returns-clause-empty c = λ params. refl

pub returns-clause-tail : goal.returns-clause-tail
returns-clause-tail c = λ params input valid filled.
    let some : 1 ≤ length input = elim (cases_lt 0 (length input)) [
      | inl above ↦ omega arith
      | inr none ↦ absurd (filled (nil_from_length input (omega arith)))
    ] in
    chunks_of_cons params input valid.min valid.max.0 some
