use Rattle.std.proofs.Common.{ℕ, Option, refl, rules}
use Rattle.std.proofs.iter.runs.Made.{chains}
use Rattle.tariff.specs.declared.refusal.Refusal.{Refusal}
use Rattle.tariff.specs.Shelves.{items}
use Rattle.records.specs.Books.{latest}
use Rattle.dues.specs.Facts.{no_parties}
use Rattle.dues.specs.Workings.{records_of}
use Rattle.readings.proofs.Found.{found}
use Rattle.dues.proofs.histories.Histories.first_unrecorded.Goals as goal

pub returns : goal.returns
returns c =
    let r = records_of c.args.self.now in
    let lacks : ℕ → Option Refusal = no_parties (latest (items r.customers)) (latest (items r.transmitters)) c.args.day in
    found lacks c.args.points _ refl c.find_map.result c.find_map.ensures.runs (search (rules, chains)) (search (rules, chains))
