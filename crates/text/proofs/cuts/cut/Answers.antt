use Rattle.std.proofs.Common.{suc, length, take, drop, sym, ap, ◌∙◌, add-one, arith}
use Rattle.std.proofs.lemmas.List.{take_rest, drop_all}
use Rattle.text.specs.Format.{before}
use Rattle.text.proofs.Parts.{before_take, after_drop}
use Rattle.text.proofs.Parting.{before_all}
use Rattle.text.proofs.cuts.cut.Goals as goal

pub returns-in-Some-clause-front : goal.returns-in-Some-clause-front
returns-in-Some-clause-front c =
    ap (λ n. take n c.args.bytes.now) c.in-Some.ensures.front ∙ sym (before_take c.args.mark c.args.bytes.now)

pub returns-in-Some-clause-back : goal.returns-in-Some-clause-back
returns-in-Some-clause-back c =
    take_rest c.args.bytes.now _ ∙ ap (λ n. drop n c.args.bytes.now) (add-one c.in-Some.at ∙ ap suc c.in-Some.ensures.front) ∙ sym (after_drop c.args.mark c.args.bytes.now)

pub returns-in-None-clause-front : goal.returns-in-None-clause-front
returns-in-None-clause-front c = sym (before_all c.args.mark c.args.bytes.now (omega (arith, c.in-None.ensures.front)))

pub returns-in-None-clause-back : goal.returns-in-None-clause-back
returns-in-None-clause-back c =
    let xs = c.args.bytes.now in
    sym (after_drop c.args.mark xs ∙ drop_all (suc (length (before c.args.mark xs))) xs (omega (arith, c.in-None.ensures.front)))
