use Rattle.std.proofs.Common.{refl, arith, ◌+◌, ◌-◌}
use Rattle.demand.specs.Peaks.{peak_over}
use Rattle.demand.proofs.Peaking.{peak_more}
use Rattle.demand.proofs.search.best_of_days.Goals as goal

pub loop-day-init : goal.loop-day-init
unfolding peak_over
loop-day-init g c = record { days = omega arith; best = refl }

pub loop-day-preserved : goal.loop-day-preserved
loop-day-preserved g c =
    let more = peak_more (g.H.HourRule.admits c.args.rule.now) (g.Q.HourlyQuantity.quantity c.args.quantities.now) (c.loop-day.day + 1 - 1) (omega arith) c.loop-day.auto.day in
    record { days = omega arith; best = cc }

pub returns-2 : goal.returns-2
returns-2 g c =
    let more = peak_more (g.H.HourRule.admits c.args.rule.now) (g.Q.HourlyQuantity.quantity c.args.quantities.now) c.args.days (omega arith) c.loop-day.auto.day in
    cc
