use Rattle.std.proofs.Common.{◌≡◌, ◌≤◌}
use Rattle.ledger.specs.Passes.{counted}
use Rattle.ledger.specs.Walks.{to_come}
use Rattle.ledger.proofs.new_lines.walk.count_lines.Given as goal

abbrev pub invariant-loop-line : goal.invariant-loop-line
invariant-loop-line l =
    goal.iterator-loop-line.can_next l.line-iterator
    × goal.iterator-loop-line.is_finite l.line-iterator
    × (counted l.count (to_come l.line-iterator) ≡ counted 0 (to_come l.fn.lines))
    × (l.count ≤ 100001)
