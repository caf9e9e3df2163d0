use Rattle.std.proofs.Common.{set, refl, ap, arith}
use Rattle.std.proofs.Math.ListN.{length-set}
use Rattle.stores.specs.declared.row_store.Row.{Row}
use Rattle.stores.specs.Rows.{row_of}
use Rattle.stores.proofs.RowPosts.{row_small, row_room, rows_stay, rows_after}
use Rattle.stores.proofs.row_store.store.RowStoreSheetStore.post.Goals as goal

pub offset_bounds-self-i : goal.offset_bounds-self-i
offset_bounds-self-i c =
    let s = c.args.self.now in
    omega (arith, row_small s.extent.points s.extent.days s.used s.rows.now c.args.sheet c.find-i.result s.filled s.fits s.ok (omega arith) c.in_ok-check_sheet.ensures c.find-i.ensures s.extent.limit s.extent.month)

pub bounds-self-i : goal.bounds-self-i
bounds-self-i c =
    let s = c.args.self.now in
    row_room s.extent.points s.extent.days s.used s.rows.now c.args.sheet c.find-i.result s.filled s.fits s.ok (omega arith) c.in_ok-check_sheet.ensures c.find-i.ensures

pub overflow_add-i : goal.overflow_add-i
overflow_add-i c =
    let s = c.args.self.now in
    omega (arith, row_small s.extent.points s.extent.days s.used s.rows.now c.args.sheet c.find-i.result s.filled s.fits s.ok (omega arith) c.in_ok-check_sheet.ensures c.find-i.ensures s.extent.limit s.extent.month)

pub invariant_of-self : goal.invariant_of-self
invariant_of-self c =
    let s = c.args.self.now in
    let rows = set s.rows.now c.find-i.result (row_of c.args.sheet) in
    let room = row_room s.extent.points s.extent.days s.used s.rows.now c.args.sheet c.find-i.result s.filled s.fits s.ok (omega arith) c.in_ok-check_sheet.ensures c.find-i.ensures in
    record {
      fits = omega (arith, length-set {A = Row}, s.fits);
      filled = omega (arith, length-set {A = Row}, room, s.filled, c.max-self.ensures);
      ok = rows_stay s.extent.points s.extent.days s.used s.rows.now c.args.sheet c.find-i.result s.filled s.fits s.ok (omega arith) c.in_ok-check_sheet.ensures c.find-i.ensures c.max-self.result rows c.max-self.ensures refl;
    }

pub returns : goal.returns
returns c =
    let s = c.args.self.now in
    let rows = set s.rows.now c.find-i.result (row_of c.args.sheet) in
    record {
      result = c.in_ok-check_sheet.ensures;
      after = rows_after s.extent.points s.extent.days s.used s.rows.now c.args.sheet c.find-i.result s.filled s.fits s.ok (omega arith) c.in_ok-check_sheet.ensures c.find-i.ensures c.max-self.result rows c.max-self.ensures refl;
      rows = ap (λ i. set s.rows.now i (row_of c.args.sheet)) c.find-i.ensures;
      lender = refl;
    }
