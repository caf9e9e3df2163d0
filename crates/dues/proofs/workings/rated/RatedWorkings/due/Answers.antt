use Rattle.std.proofs.Common.{sym, ◌∙◌, rules}
use Rattle.std.proofs.lemmas.Bool.{cond-true}
use Rattle.dues.specs.Facts.{Facts}
use Rattle.dues.specs.Workings.{facts_for}
use Rattle.dues.proofs.Making.{customer_there, transmitter_there, due_whole}
use Rattle.dues.proofs.workings.rated.RatedWorkings.due.Goals as goal

pub unwrap-requires : goal.unwrap-requires
unwrap-requires g c =
    let r = c.args.self.now in
    let f : Facts = facts_for g.R.Readings.meaning g.H.HourRule.admits r.workings.now in
    let has = sym c.has_charge.ensures ∙ c.if-not-has_charge.false in
    let there = customer_there f r.system r.rates c.args.point c.args.charge (r.sound c.args.point c.args.charge has) in
    search rules

pub unwrap-requires-2 : goal.unwrap-requires-2
unwrap-requires-2 g c =
    let r = c.args.self.now in
    let f : Facts = facts_for g.R.Readings.meaning g.H.HourRule.admits r.workings.now in
    let has = sym c.has_charge.ensures ∙ c.if-not-has_charge.false in
    let there = transmitter_there f r.system r.rates c.args.point c.args.charge (r.sound c.args.point c.args.charge has) in
    search rules

pub returns : goal.returns
returns g c =
    let r = c.args.self.now in
    let f : Facts = facts_for g.R.Readings.meaning g.H.HourRule.admits r.workings.now in
    let has = sym c.has_charge.ensures ∙ c.if-not-has_charge.false in
    due_whole f r.system r.rates c.args.point c.args.charge (r.sound c.args.point c.args.charge has)
    c.on_record.result c.on_record-2.result c.unwrap.result c.unwrap-2.result c.last_day-last_day.result
    c.determinant-quantity.result c.rate.result c.charge.result c.unwrap-cents.result c.new.result
    c.last_day-last_day.ensures.0 c.on_record.ensures.value c.unwrap.ensures c.on_record-2.ensures.value c.unwrap-2.ensures
    c.determinant-quantity.ensures.value c.rate.ensures c.charge.ensures.value c.charge.ensures.nearest c.unwrap-cents.ensures c.new.ensures
    ∙ sym (cond-true _ _ _ has)
