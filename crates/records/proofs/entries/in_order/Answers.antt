use Rattle.std.proofs.Common.{rules}
use Rattle.std.proofs.lemmas.List.Sorted.{answers_always}
use Rattle.records.specs.Books.{precedes}
use Rattle.records.proofs.Steps.{sorted_answer}
use Rattle.records.proofs.entries.in_order.Goals as goal

pub returns : goal.returns
returns g c =
    sorted_answer c.args.entries.now c.is_sorted_by.result
    (c.is_sorted_by.ensures.cases (λ x y. precedes x y.subject y.from_day) (answers_always _ _ _ (λ f a r q k. search rules)))
