use Rattle.std.proofs.Common.{◌≡◌, ◌+◌, length}
use Rattle.ledger.specs.Passes.{written}
use Rattle.ledger.specs.Walks.{to_come}
use Rattle.ledger.proofs.new_lines.walk.write_lines.Given as goal

abbrev pub invariant-loop-at : goal.invariant-loop-at
invariant-loop-at l =
    goal.iterator-loop-at.can_next l.at-iterator
    × goal.iterator-loop-at.is_finite l.at-iterator
    × (written l.room l.at-iterator.count (to_come l.at-iterator.iter) ≡ written l.initial.room 0 (to_come l.fn.lines))
    × (l.at-iterator.count + length (to_come l.at-iterator.iter) ≡ length (to_come l.fn.lines))
