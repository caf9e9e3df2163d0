use Rattle.std.proofs.Common.{ℕ, cond, eqb, rules, tests, arith}
use Rattle.std.proofs.lemmas.Iterator.{YieldsList-from_slice, YieldsList-from_map}
use Rattle.std.proofs.lemmas.Iterator.Consumers.{fits_by_from_yields_list}
use Rattle.std.proofs.lemmas.List.Sums.{count_by-le-length}
use Rattle.text.proofs.Rejoin.{parts_stand}
use Rattle.text.proofs.cuts.count_marks.Goals as goal

pub sum-requires-clause-fits : goal.sum-requires-clause-fits
sum-requires-clause-fits c =
    let xs = c.args.bytes.now in
    let one : ℕ → ℕ = λ b. cond (eqb b c.args.mark) 1 0 in
    fits_by_from_yields_list one xs c.map.result _ (YieldsList-from_map _ one (YieldsList-from_slice xs cc) c.map.ensures.closure (λ x r q k. search (rules, tests)))
    (omega (arith, count_by-le-length (λ b. eqb b c.args.mark) xs, c.iter.ensures.bound))

pub returns-clause-stands : goal.returns-clause-stands
returns-clause-stands c = parts_stand c.args.mark c.args.bytes.now
