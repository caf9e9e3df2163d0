use Rattle.std.proofs.Common.{◌≡◌}
use Rattle.text.specs.Format.{lines}
use Rattle.sheet_file.specs.Files.{outcomes, left_of}
use Rattle.desk.specs.Posting.{posted_all}
use Rattle.desk.proofs.posting.post_file.Given as goal

-- what is left leads to what the whole file leads to
abbrev pub invariant-loop-outcome : goal.invariant-loop-outcome
invariant-loop-outcome g l =
    posted_all (g.S.Readings.meaning l.store) (left_of l.outcome-iterator) ≡ posted_all (g.S.Readings.meaning l.initial.store) (outcomes 0 (lines l.file))
