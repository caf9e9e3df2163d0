use Rattle.std.proofs.Common.{arith}
use Rattle.text.proofs.Numbers.{ten_more, ten_most}
use Rattle.text.proofs.digits.number.Goals as goal

pub overflow_mul-n : goal.overflow_mul-n
overflow_mul-n c =
    let most = ten_most c.loop-b.b-index (omega arith) in
    let more = ten_more c.loop-b.n 0 _ c.loop-b.invariant.0 (omega arith) in
    omega arith

pub overflow_add-n : goal.overflow_add-n
overflow_add-n c =
    let most = ten_most c.loop-b.b-index (omega arith) in
    let more = ten_more c.loop-b.n c.in_ok-n.field-0 _ c.loop-b.invariant.0 (omega (arith, c.in_ok-n.ensures.value.0, c.in_ok-n.ensures.value.1)) in
    omega arith
