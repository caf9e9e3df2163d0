use Rattle.std.proofs.Common.{◌≡◌, ◌+◌, ◌*◌, ◌-◌, ◌≤◌, length}
use Rattle.ledger.specs.Dues.{facts_of}
use Rattle.ledger.specs.Passes.{lines_left}
use Rattle.ledger.specs.Walks.{to_come, lines_of}
use Rattle.ledger.proofs.new_lines.walk.NewLinesIterator.next.Given as goal

abbrev pub invariant-loop-due : goal.invariant-loop-due
invariant-loop-due l = to_come l.self ≡ to_come l.initial.self

-- each due has a place for each line and one more
abbrev pub decreases-loop-due : goal.decreases-loop-due
decreases-loop-due l = length l.self.dues.now * (length l.self.lines.lines.now + 1) - l.self.place

abbrev pub invariant-loop-place : goal.invariant-loop-place
invariant-loop-place l =
    (l.self.lines ≡ l.initial.self.lines)
    × (l.self.statement ≡ l.initial.self.statement)
    × (l.self.dues ≡ l.initial.self.dues)
    × (l.self.place ≡ l.initial.self.place)
    × (l.self.place ≤ l.place)
    × (l.place ≤ length (lines_of l.self.lines))
    × (lines_left l.self.statement (lines_of l.self.lines) (facts_of l.due) l.self.place ≡ lines_left l.self.statement (lines_of l.self.lines) (facts_of l.due) l.place)
