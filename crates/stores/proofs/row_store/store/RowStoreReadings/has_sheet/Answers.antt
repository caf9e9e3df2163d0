use Rattle.stores.proofs.RowPlaces.{rows_has}
use Rattle.stores.proofs.row_store.store.RowStoreReadings.has_sheet.Goals as goal

pub returns : goal.returns
returns c =
    let s = c.args.self.now in
    rows_has s.extent.points s.extent.days s.used s.rows.now c.args.point c.args.day c.find.result s.filled c.find.ensures
