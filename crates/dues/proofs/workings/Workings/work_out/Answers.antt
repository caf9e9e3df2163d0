use Rattle.std.proofs.Common.{◌≡◌, Bool, Ok, Err, ap, ◌∙◌, rules}
use Rattle.std.specs.Result.{result_map_both}
use Rattle.dues.specs.Records.{sound_records}
use Rattle.dues.specs.Facts.{Facts}
use Rattle.dues.specs.Lists.{facts_in}
use Rattle.dues.specs.Workings.{records_of, facts_for}
use Rattle.dues.proofs.Outcome.{passed_sound, unsound_out, lacking, worked_out, sound_out}
use Rattle.dues.proofs.Soundness.{limited_for, rates_ranged, due_in}
use Rattle.dues.proofs.Covering.{declared_within}
use Rattle.dues.proofs.Alike.{answer_alike}
use Rattle.dues.proofs.workings.Workings.work_out.Goals as goal

pub returns-in_err-check : goal.returns-in_err-check
returns-in_err-check g c =
    let w = c.args.self.now in
    let f : Facts = facts_for g.R.Readings.meaning g.H.HourRule.admits w in
    let s : Bool = sound_records (records_of w.histories) in
    let r = c.from_residual.result in
    let is : r ≡ Err c.in_err-check.field-0.0 = search rules in
    let e = ap (result_map_both facts_in (λ x. x)) is ∙ unsound_out s f c.in_err-check.field-0.0 c.in_err-check.ensures in
    record { answer = e; sound = sound_out s f r e; by_facts = λ h same. e ∙ answer_alike s f h same }

pub returns-in_err-rates : goal.returns-in_err-rates
returns-in_err-rates g c =
    let w = c.args.self.now in
    let f : Facts = facts_for g.R.Readings.meaning g.H.HourRule.admits w in
    let s : Bool = sound_records (records_of w.histories) in
    let r = c.from_residual-in_err-rates.result in
    let is : r ≡ Err c.in_err-rates.field-0.0 = search rules in
    let sound = passed_sound s c.in_ok-check.field-0 c.in_ok-check.ensures in
    let e = ap (result_map_both facts_in (λ x. x)) is ∙ lacking s f sound c.in_err-rates.field-0.0 c.in_err-rates.ensures in
    record { answer = e; sound = sound_out s f r e; by_facts = λ h same. e ∙ answer_alike s f h same }

pub invariant_of-rated : goal.invariant_of-rated
invariant_of-rated g c =
    let w = c.args.self.now in
    let f : Facts = facts_for g.R.Readings.meaning g.H.HourRule.admits w in
    let s : Bool = sound_records (records_of w.histories) in
    let sound = passed_sound s c.in_ok-check.field-0 c.in_ok-check.ensures in
    let ok = limited_for g.R.Readings.meaning g.met.R.Readings.sound g.H.HourRule.admits w sound in
    let (none, on) = c.in_ok-rates.ensures in
    let rates = c.in_ok-rates.rates in
    record {
      rated = rates_ranged f ok none rates on;
      sound = λ p k has.
          let (low, high) = declared_within f.kinds p k has in
          due_in f ok none c.system_peak-system.result c.system_peak-system.ensures.value rates on p k low high;
    }

pub returns : goal.returns
returns g c =
    let w = c.args.self.now in
    let f : Facts = facts_for g.R.Readings.meaning g.H.HourRule.admits w in
    let s : Bool = sound_records (records_of w.histories) in
    let sound = passed_sound s c.in_ok-check.field-0 c.in_ok-check.ensures in
    let (none, on) = c.in_ok-rates.ensures in
    let e = worked_out s f sound c.in_ok-rates.rates c.system_peak-system.result (facts_in c.all_dues.result) none on c.system_peak-system.ensures.value c.all_dues.ensures in
    record { answer = e; sound = sound_out s f (Ok c.all_dues.result) e; by_facts = λ h same. e ∙ answer_alike s f h same }
