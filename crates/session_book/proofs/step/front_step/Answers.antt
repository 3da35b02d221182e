use Rattle.std.proofs.Common.{sym, arith, ℕ, List}
use Rattle.session_book.proofs.Steps.{parts_take, sealed_if_err}
use Rattle.session_book.proofs.step.front_step.Goals as goal

pub body_step-requires : goal.body_step-requires
body_step-requires c =
    let parts : ℕ × List ℕ × List ℕ = (c.in-Some.kind, c.in-Some.body.now, c.in-Some.digest.now) in
    (parts_take c.args.bytes.now parts (λ i. omega (arith, c.type_inv.bytes i)) (sym c.in-Some.ensures)).small

pub returns-in-Some-clause-sealed : goal.returns-in-Some-clause-sealed
returns-in-Some-clause-sealed c =
    let parts : ℕ × List ℕ × List ℕ = (c.in-Some.kind, c.in-Some.body.now, c.in-Some.digest.now) in
    sealed_if_err c.args.bytes.now parts c.body_step.result (λ i. omega (arith, c.type_inv.bytes i)) (sym c.in-Some.ensures) c.body_step.ensures.sealed
