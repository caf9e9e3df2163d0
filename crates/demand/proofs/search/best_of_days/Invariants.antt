use Rattle.std.proofs.Common.{◌≡◌, ◌-◌, ◌≤◌}
use Rattle.demand.specs.Peaks.{peak_over}
use Rattle.demand.proofs.search.best_of_days.Given as goal

abbrev pub invariant-loop-day : goal.invariant-loop-day
invariant-loop-day g l = record {
  days : l.day - 1 ≤ l.days;
  best : l.best ≡ peak_over (g.H.HourRule.admits l.rule) (g.Q.HourlyQuantity.quantity l.quantities) (l.day - 1);
}
