use Rattle.std.proofs.Common.{sym, ap, ◌∙◌, arith}
use Rattle.stores.specs.Words.{table, with_day}
use Rattle.stores.proofs.Passing.{judged_ok}
use Rattle.stores.proofs.TablePosts.{found_at, table_after}
use Rattle.stores.proofs.full_table.store.FullTableSheetStore.post.Goals as goal

pub store_day-requires : goal.store_day-requires
store_day-requires c = (c.in-Some.ensures.bound, (judged_ok c.args.self.now.extent.points c.args.self.now.extent.days c.args.sheet (sym c.in_ok-check_sheet.ensures)).allowed)

pub returns-in-Some : goal.returns-in-Some
returns-in-Some c =
    let s = c.args.self.now in
    record {
      result = c.in_ok-check_sheet.ensures;
      after =
          ap (table s.extent.points s.extent.days) c.store_day.ensures
          ∙ table_after s.extent.points s.extent.days s.words.now c.args.sheet c.in-Some.start s.fits (omega arith) c.in_ok-check_sheet.ensures c.in-Some.ensures.value;
      words = c.store_day.ensures ∙ ap (λ o. with_day s.words.now o c.args.sheet.readings) (found_at s.extent.points s.extent.days c.args.sheet.point c.args.sheet.day c.in-Some.start c.in-Some.ensures.value).1;
    }
