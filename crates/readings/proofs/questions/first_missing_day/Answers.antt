use Rattle.std.proofs.Common.{refl, rules}
use Rattle.std.proofs.iter.runs.Made.{chains}
use Rattle.readings.specs.Missing.{no_sheet}
use Rattle.readings.proofs.Found.{found}
use Rattle.readings.proofs.questions.first_missing_day.Goals as goal

pub returns : goal.returns
returns g c =
    found (no_sheet (g.R.Readings.meaning c.args.readings.now).sheets c.args.point) c.args.days _ refl c.find_map.result c.find_map.ensures.runs (search (rules, chains)) (search (rules, chains))
