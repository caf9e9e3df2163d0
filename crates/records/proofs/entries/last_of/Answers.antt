use Rattle.std.proofs.Common.{◌≡◌, ◌∙◌, ap, rules, tests}
use Rattle.std.specs.Option.{option_map}
use Rattle.std.proofs.lemmas.Iterator.Search.{find_from_yields_List}
use Rattle.std.proofs.lemmas.Iterator.Adapters.{YieldsList-from_rev_slice}
use Rattle.records.specs.Books.{holds}
use Rattle.records.proofs.Steps.{latest_last}
use Rattle.records.proofs.entries.last_of.Goals as goal

pub returns : goal.returns
returns g c =
    let found = find_from_yields_List (λ x. holds x c.args.subject c.args.day) _ _ c.find.result c.find.ensures.ran
    (YieldsList-from_rev_slice c.args.entries.now cc) (λ x b q k. search (rules, tests)) in
    let item : c.map.result ≡ option_map (λ x. x.item) (option_map (λ x. x.now) c.find.result) = search rules in
    item ∙ ap (option_map (λ x. x.item)) found ∙ latest_last c.args.entries.now c.args.subject c.args.day
