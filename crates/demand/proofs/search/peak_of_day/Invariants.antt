use Rattle.std.proofs.Common.{◌≡◌, ◌-◌}
use Rattle.demand.specs.Peaks.{best_of_day}
use Rattle.demand.proofs.search.peak_of_day.Given as goal

abbrev pub invariant-loop-hour : goal.invariant-loop-hour
invariant-loop-hour g l = l.best ≡ best_of_day (g.H.HourRule.admits l.rule) (g.Q.HourlyQuantity.quantity l.quantities) l.initial.best l.day (l.hour - 1)
