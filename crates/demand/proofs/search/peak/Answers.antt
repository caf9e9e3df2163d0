use Rattle.std.proofs.Common.{◌∙◌, sym, subst, le_trans}
use Rattle.demand.specs.Peaks.{IsPeak}
use Rattle.demand.proofs.Peaking.{peak_is, peak_unique, peak_bounded, peak_greatest, peak_alike}
use Rattle.demand.proofs.search.peak.Goals as goal

pub returns : goal.returns
returns g c =
    let rule = g.H.HourRule in
    let admits = rule.admits c.args.rule.now in
    let quantity = g.Q.HourlyQuantity.quantity c.args.quantities.now in
    let days = c.args.days in
    let best = c.best_of_days.result in
    let found = c.best_of_days.ensures in
    let peak : IsPeak admits quantity days best = subst (IsPeak admits quantity days) (sym found) (peak_is admits quantity days) in
    record {
      value = found;
      is_peak = peak;
      no_other = λ s other. peak_unique admits quantity days s best other peak;
      bounded = peak_bounded admits quantity days best peak;
      whole = λ long d h on.
          let inside = g.met.H.HourRule.within c.args.rule.now d h on in
          peak_greatest admits quantity days best peak d h ((inside.0.0, le_trans inside.0.1 long), inside.1) on;
      by_answers = λ B p alike. found ∙ peak_alike admits B quantity p days alike;
    }
