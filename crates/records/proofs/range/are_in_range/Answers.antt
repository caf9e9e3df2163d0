use Rattle.std.proofs.Common.{◌∙◌, rules, tests}
use Rattle.std.proofs.lemmas.Iterator.{YieldsList-from_slice}
use Rattle.std.proofs.lemmas.Iterator.Search.{all_from_yields_List}
use Rattle.records.specs.Soundness.{in_range}
use Rattle.records.proofs.Steps.{all_ranged}
use Rattle.records.proofs.range.are_in_range.Goals as goal

pub returns : goal.returns
returns g c =
    all_from_yields_List (in_range g.T.Ranged.ranged c.args.first c.args.last) _ _ _ c.all.ensures.ran (YieldsList-from_slice c.args.entries.now cc) (λ x b q k. search (rules, tests))
    ∙ all_ranged g.T.Ranged.ranged c.args.first c.args.last c.args.entries.now
