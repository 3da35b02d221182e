use Rattle.std.proofs.Common.{arith}
use Rattle.session_book.proofs.Steps.{whole_if_ok, short_if_ok, bad_if_ok, again_if_ok, short_is_no_parts}
use Rattle.session_book.proofs.step.next_record.Goals as goal

pub returns-clause-whole : goal.returns-clause-whole
returns-clause-whole c = whole_if_ok c.args.bytes.now c.front_step.result (λ i. omega (arith, c.type_inv.bytes i)) c.front_step.ensures.step

pub returns-clause-short : goal.returns-clause-short
returns-clause-short c = short_if_ok c.args.bytes.now c.front_step.result (λ i. omega (arith, c.type_inv.bytes i)) c.front_step.ensures.step

pub returns-clause-bad : goal.returns-clause-bad
returns-clause-bad c = bad_if_ok c.args.bytes.now c.front_step.result (λ i. omega (arith, c.type_inv.bytes i)) c.front_step.ensures.step

pub returns-clause-again : goal.returns-clause-again
returns-clause-again c = again_if_ok c.args.bytes.now c.front_step.result c.front_step.ensures.step

pub returns-clause-short_never_fails : goal.returns-clause-short_never_fails
returns-clause-short_never_fails c = λ short. c.front_step.ensures.short_never_fails ((short_is_no_parts c.args.bytes.now (λ i. omega (arith, c.type_inv.bytes i))).1 short)
