use Rattle.std.proofs.Common.{sym, ◌∙◌, arith}
use Rattle.tariff.proofs.Limits.{too_large_here, too_large_later, too_large_none}
use Rattle.tariff.proofs.reading.first_too_large.Goals as goal

pub returns-then-quantity-gt-MAX_QUANTITY : goal.returns-then-quantity-gt-MAX_QUANTITY
returns-then-quantity-gt-MAX_QUANTITY c =
    sym (too_large_here c.args.readings.now c.loop-i.i _ (omega arith) (rw c.quantity.ensures at c.if-quantity-gt-MAX_QUANTITY.true))
    ∙ c.loop-i.invariant

pub loop-i-preserved : goal.loop-i-preserved
loop-i-preserved c =
    sym (too_large_later c.args.readings.now c.loop-i.i _ (omega arith) (rw c.quantity.ensures at c.if-quantity-gt-MAX_QUANTITY.false))
    ∙ c.loop-i.invariant

pub returns : goal.returns
returns c = sym (too_large_none c.args.readings.now c.loop-i.i (omega arith)) ∙ c.loop-i.invariant
