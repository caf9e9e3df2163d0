-- What a walk over the accounts of dues has still to give.
use Rattle.std.specs.Prelude.{ℕ, List, [], ◌∷◌, ◌++◌}
use Rattle.tariff.specs.declared.statement.Statement.{Statement}
use Rattle.ledger.specs.declared.due.Due.{Due}
use Rattle.ledger.specs.declared.line.Line.{Line}
use Rattle.ledger.specs.declared.new_lines.NewLines.{NewLines}
use Rattle.ledger.specs.declared.sound_lines.SoundLines.{SoundLines}
use Rattle.ledger.specs.Dues.{facts_of, all_facts}
use Rattle.ledger.specs.Issues.{statement_lines}
use Rattle.ledger.specs.Passes.{lines_left}

abbrev pub lines_of : SoundLines → List Line
lines_of s = s.lines.now

-- the lines of the first due's accounts from a place on, and those of the other dues
abbrev pub walk_left : Statement → List Line → List Due → ℕ → List Line
walk_left s lines [] place = []
walk_left s lines (d ∷ ds) place = lines_left s lines (facts_of d) place ++ statement_lines s lines (all_facts ds)

abbrev pub to_come : NewLines → List Line
to_come w = walk_left w.statement (lines_of w.lines) w.dues.now w.place
