use Rattle.std.proofs.Common.{◌<◌, length, Ok, sym, ◌∙◌, ap}
use Rattle.tariff.specs.Points.{kinds_of}
use Rattle.tariff.proofs.Counting.{below_full, point_numbered, point_added}
use Rattle.tariff.proofs.points.PointList.declare.Goals as goal

few : (c : goal.After-count) → length (kinds_of c.args.self.now) < 400
few c = below_full (length (kinds_of c.args.self.now)) c.is_full.ensures.1 (sym c.is_full.ensures.0 ∙ c.if-is_full.false)

pub returns-clause-answer : goal.returns-clause-answer
returns-clause-answer c =
    ap Ok (c.count.ensures.0 ∙ ap length (c.push.ensures.kept (few c))) ∙ point_numbered (kinds_of c.args.self.now) _ _ c.in_ok-try_from.field-0 c.in_ok-try_from.ensures (few c)

pub returns-clause-after : goal.returns-clause-after
returns-clause-after c =
    c.push.ensures.kept (few c) ∙ point_added (kinds_of c.args.self.now) _ _ c.in_ok-try_from.field-0 c.in_ok-try_from.ensures
