use Rattle.std.proofs.Common.{◌≡◌, ◌+◌, ◌-◌, ◌++◌, length, ap, ◌∙◌, arith}
use Rattle.tariff.specs.Points.{kind_at}
use Rattle.dues.specs.Facts.{Facts}
use Rattle.dues.specs.Dues.{point_dues, dues_up_to}
use Rattle.dues.specs.Workings.{facts_for}
use Rattle.dues.proofs.Rooms.{two_at_most, dues_few, dues_more}
use Rattle.dues.proofs.workings.rated.RatedWorkings.all_dues.Goals as goal

pub add_point-requires : goal.add_point-requires
add_point-requires g c =
    let r = c.args.self.now in
    let f : Facts = facts_for g.R.Readings.meaning g.H.HourRule.admits r.workings.now in
    let p = c.loop-point.point in
    omega (arith, ap length c.loop-point.invariant.1, dues_few f r.system r.rates (p - 1), two_at_most (kind_at f.kinds p), c.loop-point-test.true, c.loop-point.auto.point, c.count-point-end.ensures)

pub loop-point-preserved : goal.loop-point-preserved
loop-point-preserved g c =
    let r = c.args.self.now in
    let f : Facts = facts_for g.R.Readings.meaning g.H.HourRule.admits r.workings.now in
    let p = c.loop-point.point in
    let before : p ≡ p + 1 - 1 = omega arith in (
      omega (arith, c.loop-point-test.true),
      c.add_point.ensures
          ∙ (ap (λ l. l ++ point_dues f r.system r.rates p) c.loop-point.invariant.1
          ∙ (dues_more f r.system r.rates p c.loop-point.auto.point ∙ ap (dues_up_to f r.system r.rates) before)),
    )

pub returns : goal.returns
returns g c =
    let r = c.args.self.now in
    let f : Facts = facts_for g.R.Readings.meaning g.H.HourRule.admits r.workings.now in
    let all : c.loop-point.point - 1 ≡ length f.kinds = omega (arith, c.loop-point-test.false, c.loop-point.auto, c.loop-point.invariant.0, c.count-point-end.ensures) in
    c.loop-point.invariant.1 ∙ ap (dues_up_to f r.system r.rates) all
