use Rattle.readings.proofs.Bounds.{demand_limited}
use Rattle.demand.proofs.determinants.own_peak.Goals as goal

pub returns-clause-small : goal.returns-clause-small
returns-clause-small g c =
    let r = g.R.Readings in
    let x = c.args.readings.now in
    c.peak.ensures.bounded 99999999 (λ d h _. demand_limited (r.meaning x) (g.met.R.Readings.sound x) c.args.point d h)
