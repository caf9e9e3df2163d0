use Rattle.std.proofs.Common.{◌∙◌, refl, ap, rules, arith}
use Rattle.std.proofs.iter.runs.Made.{chains}
use Rattle.tariff.specs.Points.{kinds_of}
use Rattle.readings.specs.Demands.{network_demand}
use Rattle.readings.proofs.Sums.{run_summed, network_demand_le}
use Rattle.readings.proofs.questions.network_demand_at.Goals as goal

pub sum-requires-clause-fits : goal.sum-requires-clause-fits
sum-requires-clause-fits g c p seen from =
    let m = g.R.Readings.meaning c.args.readings.now in
    let kinds = kinds_of c.args.points.now in
    let is = run_summed kinds m.sheets c.args.day c.args.hour c.count.result _ refl p (c.map.ensures.runs p seen from) (search (rules, chains)) in
    let few = c.count.ensures in
    omega (arith, is.0, is.1, few.1, network_demand_le kinds m (g.met.R.Readings.sound c.args.readings.now) c.args.day c.args.hour p.len)

pub returns : goal.returns
returns g c =
    let m = g.R.Readings.meaning c.args.readings.now in
    let kinds = kinds_of c.args.points.now in
    let (p, from, whole, sum) = c.sum.ensures.runs tt in
    let is = run_summed kinds m.sheets c.args.day c.args.hour c.count.result _ refl p (c.map.ensures.runs p p.seen from) (search (rules, chains)) in
    sum ∙ is.0 ∙ ap (network_demand kinds m.sheets c.args.day c.args.hour) (is.2 whole ∙ c.count.ensures.0)
