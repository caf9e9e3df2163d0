use Rattle.std.proofs.Common.{arith}
use Rattle.std.proofs.lemmas.Int.{ints}
use Rattle.ledger.proofs.Cents.{cents_step, share_small}
use Rattle.ledger.proofs.sound_lines.SoundLines.cents.Goals as goal

pub loop-line-preserved : goal.loop-line-preserved
loop-line-preserved g c =
    let lines = c.args.self.now.lines.now in
    let s = share_small lines _ _ _ c.cents_if-sum.result c.loop-line-test.true c.args.self.now.sound c.cents_if-sum.ensures in
    let m = cents_step (g.S.Selects.chosen c.args.which.now) lines _ _ _ c.cents_if-sum.result _
    c.loop-line-test.true c.cents_if-sum.ensures c.loop-line.invariant.0 in
    (omega (arith, ints), omega (arith, ints), omega (arith, ints))
