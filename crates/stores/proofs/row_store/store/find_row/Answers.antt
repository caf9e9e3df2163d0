use Rattle.std.proofs.Common.{◌∙◌, length, ap, rules, tests}
use Rattle.std.specs.Option.{unwrap_or}
use Rattle.std.proofs.lemmas.Iterator.{YieldsList-from_slice}
use Rattle.std.proofs.lemmas.Iterator.Search.{position_from_yields_List}
use Rattle.stores.specs.Rows.{matches}
use Rattle.stores.proofs.RowPlaces.{place_first}
use Rattle.stores.proofs.row_store.store.find_row.Goals as goal

pub returns : goal.returns
returns c =
    let xs = c.args.rows.now in
    let found = position_from_yields_List (matches c.args.point c.args.day) _ _ c.position.result c.position.ensures.ran
    (YieldsList-from_slice xs cc) (λ x b q k. search (rules, tests)) in
    c.unwrap_or.ensures ∙ ap (λ o. unwrap_or o (length xs)) found ∙ place_first c.args.point c.args.day xs
