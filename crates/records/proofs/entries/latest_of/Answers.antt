use Rattle.std.proofs.Common.{◌∙◌, refl, eqb, rules, tests}
use Rattle.std.proofs.lemmas.Iterator.{YieldsList-from_slice}
use Rattle.std.proofs.lemmas.Iterator.Search.{any_from_yields_List}
use Rattle.records.specs.Books.{latest}
use Rattle.records.proofs.Steps.{latest_found, latest_before, none_met}
use Rattle.records.proofs.entries.latest_of.Goals as goal

pub returns-then-is_some : goal.returns-then-is_some
returns-then-is_some g c =
    latest_found c.loop-rest.rest.now c.split_at.result.0.now c.split_at.result.1.now c.args.subject c.args.day c.last_of-found.result
    c.split_at.ensures.by_index.0 c.last_of-found.ensures c.if-is_some.ensures
    ∙ c.loop-rest.invariant

pub loop-rest-preserved-else-is_some : goal.loop-rest-preserved-else-is_some
loop-rest-preserved-else-is_some g c =
    latest_before c.loop-rest.rest.now c.split_at.result.0.now c.split_at.result.1.now c.args.subject c.args.day c.last_of-found.result
    c.split_at.ensures.by_index.0 c.last_of-found.ensures c.if-is_some.ensures
    ∙ c.loop-rest.invariant

pub loop-rest-preserved : goal.loop-rest-preserved
loop-rest-preserved g c =
    let four = c.split_at.result.1.now in
    let s = c.args.subject in
    let d = c.args.day in
    let met = any_from_yields_List (λ x. eqb x.subject s) _ _ _ c.if-any.ensures.ran
    (YieldsList-from_slice four cc) (λ x b q k. search (rules, tests)) in
    latest_before c.loop-rest.rest.now c.split_at.result.0.now four s d (latest four s d)
    c.split_at.ensures.by_index.0 refl (none_met four s d met)
    ∙ c.loop-rest.invariant
