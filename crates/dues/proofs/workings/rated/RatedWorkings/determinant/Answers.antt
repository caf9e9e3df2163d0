use Rattle.std.proofs.Common.{ap, ◌∙◌, ⊎_elim}
use Rattle.demand.specs.Determinants.{network_determinant}
use Rattle.dues.specs.Facts.{Facts}
use Rattle.dues.specs.Workings.{facts_for}
use Rattle.dues.proofs.Making.{at_network, at_line, at_transformation}
use Rattle.dues.proofs.workings.rated.RatedWorkings.determinant.Goals as goal

pub returns-in-Network-clause-value : goal.returns-in-Network-clause-value
returns-in-Network-clause-value g c =
    let r = c.args.self.now in
    let f : Facts = facts_for g.R.Readings.meaning g.H.HourRule.admits r.workings.now in
    c.network_demand.ensures.determinant ∙ (ap (λ n. network_determinant f.sheets f.admits n r.system c.args.point) c.days-days.ensures.0 ∙ at_network f r.system c.args.point c.args.charge c.in-Network.is)

pub returns-in-Line : goal.returns-in-Line
returns-in-Line g c =
    let r = c.args.self.now in
    let f : Facts = facts_for g.R.Readings.meaning g.H.HourRule.admits r.workings.now in
    record {
      value = c.connection.ensures.value ∙ ⊎_elim (at_line f r.system c.args.point c.args.charge) (at_transformation f r.system c.args.point c.args.charge) c.in-Line.is;
      small = c.connection.ensures.small;
    }
