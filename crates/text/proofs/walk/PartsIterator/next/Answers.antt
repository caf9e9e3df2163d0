use Rattle.std.proofs.Common.{[], ◌∷◌, length, sym, ap, ◌∙◌, arith}
use Rattle.std.specs.Option.{option_map_or}
use Rattle.text.specs.Format.{parts}
use Rattle.text.proofs.Parting.{part_taken}
use Rattle.text.proofs.walk.PartsIterator.next.Goals as goal

pub returns-clause-steps : goal.returns-clause-steps
returns-clause-steps c =
    ap (λ rest. option_map_or (λ r. parts c.args.self.now.mark r.now) rest []) c.in_ok-rest.was
    ∙ part_taken c.args.self.now.mark c.in_ok-rest.rest.now c.cut.result.0.now c.cut.result.1 c.cut.ensures.front c.cut.ensures.back
    ∙ ap (λ left. c.cut.result.0.now ∷ option_map_or (λ r. parts c.args.self.now.mark r.now) left []) (sym c.then_some-self.ensures)

pub returns-clause-goes : goal.returns-clause-goes
returns-clause-goes c =
    let less = ap length (returns-clause-steps c) in
    record { on = λ _. (tt, tt, omega (arith, less)); keeps = tt; rests = λ _. tt }
