use Rattle.std.proofs.Common.{length}
use Rattle.sheet_file.specs.Files.{left_of}
use Rattle.settle.proofs.open.post_file.Given as goal

-- the lines of the file that are left
abbrev pub decreases-loop-answer : goal.decreases-loop-answer
decreases-loop-answer g l = length (left_of l.reader)
