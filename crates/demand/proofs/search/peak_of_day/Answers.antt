use Rattle.std.proofs.Common.{refl}
use Rattle.demand.specs.Peaks.{best_of_day}
use Rattle.demand.proofs.Peaking.{day_more}
use Rattle.demand.proofs.search.peak_of_day.Goals as goal

pub loop-hour-init : goal.loop-hour-init
unfolding best_of_day
loop-hour-init g c = refl

pub loop-hour-preserved : goal.loop-hour-preserved
loop-hour-preserved g c =
    let more = day_more (g.H.HourRule.admits c.args.rule.now) (g.Q.HourlyQuantity.quantity c.args.quantities.now) c.args.before c.args.day c.loop-hour.hour c.loop-hour.auto.hour in
    cc
