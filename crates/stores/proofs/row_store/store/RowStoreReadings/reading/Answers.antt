use Rattle.std.proofs.Common.{◌≡◌, sym, ◌∙◌, rules}
use Rattle.tariff.specs.Ranges.{within}
use Rattle.stores.proofs.RowPlaces.{rows_no_sheet, rows_outside, rows_reading}
use Rattle.stores.proofs.row_store.store.RowStoreReadings.reading.Goals as goal
use Rattle.stores.proofs.row_store.store.RowStoreReadings.reading.Goals.{then-i-self-via-then-i-self, then-i-self-via-else-i-self+then-not-contains}

pub returns-then-i-self : goal.returns-then-i-self
returns-then-i-self c =
    let s = c.args.self.now in
    let rows = s.rows.now in
    let i = c.find-i.result in
    elim c.then-i-self.branch [
      | then-i-self-via-then-i-self w ↦ sym (rows_no_sheet s.extent.points s.extent.days s.used rows c.args.point c.args.day i s.filled c.find-i.ensures c.args.hour w.if-i-self.true)
      | then-i-self-via-else-i-self+then-not-contains w ↦ let hour : w.contains.result ≡ within 24 c.args.hour = search rules in
          sym (rows_outside s.extent.points s.extent.days s.used rows c.args.point c.args.day i s.filled c.find-i.ensures c.args.hour (sym hour ∙ w.if-not-contains.true))
    ]

pub returns : goal.returns
returns c =
    let s = c.args.self.now in
    let hour : c.contains.result ≡ within 24 c.args.hour = search rules in
    sym (rows_reading s.extent.points s.extent.days s.used s.rows.now c.args.point c.args.day c.find-i.result s.filled c.find-i.ensures c.args.hour _ c.if-i-self.false (sym hour ∙ c.if-not-contains.false))
