use Rattle.std.proofs.Common.{◌+◌, ◌<◌, ◌∷◌, length, sym, ap, ◌∙◌, arith, false-eqb}
use Rattle.text.specs.Format.{lines}
use Rattle.text.proofs.Lines.{lines_first}
use Rattle.text.proofs.Parts.{after_shorter}
use Rattle.text.specs.Numbered.{numbered}
use Rattle.text.proofs.numbered.taking.LinesIterator.next.Goals as goal

pub invariant_of-self : goal.invariant_of-self
invariant_of-self c =
    let rest = c.args.self.now.rest.now in
    let some : 0 < length rest = omega (arith, false-eqb (length rest) 0 c.if-is_empty.ensures) in
    record { countable = omega (arith, ap length c.cut.ensures.back, after_shorter 10 rest some) }

pub returns-clause-steps : goal.returns-clause-steps
returns-clause-steps c =
    let rest = c.args.self.now.rest.now in
    let n = c.args.self.now.number in
    let some : 0 < length rest = omega (arith, false-eqb (length rest) 0 c.if-is_empty.ensures) in
    ap (numbered n) (lines_first rest some)
    ∙ (λ i. (n + 1, sym c.cut.ensures.front i) ∷ numbered (n + 1) (lines (sym c.cut.ensures.back i)))

pub returns-clause-goes : goal.returns-clause-goes
returns-clause-goes c =
    let less = ap length (returns-clause-steps c) in
    record { on = λ _. (tt, tt, omega (arith, less)); keeps = tt; rests = λ _. tt }
