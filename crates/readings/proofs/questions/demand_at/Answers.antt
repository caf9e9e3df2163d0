use Rattle.std.proofs.Common.{◌≡◌, arith, rules}
use Rattle.readings.specs.Demands.{demand_at}
use Rattle.readings.proofs.Bounds.{demand_limited}
use Rattle.readings.proofs.questions.demand_at.Goals as goal

pub returns : goal.returns
returns g c =
    let r = g.R.Readings in
    let m = r.meaning c.args.readings.now in
    let is : c.map_or.result ≡ demand_at m.sheets c.args.point c.args.day c.args.hour = search rules in
    record { value = is; small = omega (arith, is, demand_limited m (g.met.R.Readings.sound c.args.readings.now) c.args.point c.args.day c.args.hour) }
