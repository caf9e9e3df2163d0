use Rattle.std.proofs.Common.{◌≡◌, ◌+◌, ◌-◌, ◌≤◌}
use Rattle.dues.specs.Dues.{dues_up_to}
use Rattle.dues.specs.Lists.{facts_in}
use Rattle.dues.specs.Workings.{facts_for}
use Rattle.dues.proofs.workings.rated.RatedWorkings.all_dues.Given as goal

abbrev pub invariant-loop-point : goal.invariant-loop-point
invariant-loop-point g l = (l.point ≤ l.point-end + 1) × (facts_in l.dues ≡ dues_up_to (facts_for g.R.Readings.meaning g.H.HourRule.admits l.self.workings.now) l.self.system l.self.rates (l.point - 1))
