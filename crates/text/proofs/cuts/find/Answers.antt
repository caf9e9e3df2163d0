use Rattle.std.proofs.Common.{eqb, length, ap, ◌∙◌, rules, tests}
use Rattle.std.proofs.lemmas.Iterator.{YieldsList-from_slice}
use Rattle.std.proofs.lemmas.Iterator.Search.{position_from_yields_List}
use Rattle.std.specs.Option.{unwrap_or}
use Rattle.text.proofs.Parts.{front_or_all}
use Rattle.text.proofs.cuts.find.Goals as goal

pub returns-clause-front : goal.returns-clause-front
returns-clause-front c =
    let xs = c.args.bytes.now in
    ap (λ r. unwrap_or r (length xs)) (position_from_yields_List (λ b. eqb b c.args.mark) _ _ _ c.position.ensures.ran (YieldsList-from_slice xs cc) (λ x b q k. search (rules, tests)))
    ∙ front_or_all c.args.mark xs
