use Rattle.std.proofs.Common.{◌≡◌, ap, arith, length}
use Rattle.sd_base.specs.Records.{body_of}
use Rattle.session_book.proofs.Bodies.{record_takes, body_is_short}
use Rattle.session_book.proofs.step.body_step.Goals as goal

pub overflow_add-result : goal.overflow_add-result
overflow_add-result c =
    let body = record_takes c.args.kind c.args.body.now c.in-Ok.entry (λ i. omega (arith, c.type_inv.body i)) c.in-Ok.ensures in
    let same : length c.args.body.now ≡ length (body_of c.in-Ok.entry) = ap length body.body_is in
    omega (arith, body_is_short c.in-Ok.entry body.lawful, same)
