use Rattle.std.proofs.Common.{◌++◌, sym, ap, ◌∙◌, arith}
use Rattle.dues.specs.Facts.{Facts}
use Rattle.dues.specs.Lists.{facts_in}
use Rattle.dues.specs.Workings.{facts_for}
use Rattle.dues.proofs.Rooms.{when_added, three_added, point_dues_are}
use Rattle.dues.proofs.workings.rated.RatedWorkings.add_point.Goals as goal

pub add_due-requires-3 : goal.add_due-requires-3
add_due-requires-3 g c =
    let n = when_added (facts_in c.args.dues.now) (facts_in c.add_due.new.dues) _ _ c.add_due.ensures in
    let l = when_added (facts_in c.add_due.new.dues) (facts_in c.add_due-2.new.dues) _ _ c.add_due-2.ensures in
    omega (arith, c.requires, n, l)

pub returns : goal.returns
returns g c =
    let r = c.args.self.now in
    let f : Facts = facts_for g.R.Readings.meaning g.H.HourRule.admits r.workings.now in
    let m = facts_in c.args.dues.now in
    three_added m (facts_in c.add_due.new.dues) (facts_in c.add_due-2.new.dues) (facts_in c.add_due-3.new.dues) _ _ _
    c.add_due.ensures c.add_due-2.ensures c.add_due-3.ensures
    ∙ ap (λ l. m ++ l) (sym (point_dues_are f r.system r.rates c.args.point))
