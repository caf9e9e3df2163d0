use Rattle.std.proofs.Common.{◌-◌, ◌≤◌}
use Rattle.calendar.specs.Marks.{MarksJust}
use Rattle.calendar.proofs.marks.mask_of.Given as goal

abbrev pub invariant-loop-day : goal.invariant-loop-day
invariant-loop-day g l = record { days : l.day - 1 ≤ l.day-end; marks : MarksJust (l.day - 1) (g.D.DayRule.picks l.rule) l.mask }
