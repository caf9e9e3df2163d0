-- A job's lines with their numbers, and which of them are calls.
use Rattle.std.specs.Prelude.{ℕ, Bool, false, not, ◌&&◌, List, [], ◌∷◌, ◌==◌}
use Rattle.std.specs.List.{list_all}
use Rattle.std.specs.Char.{is_ascii_whitespace}
use Rattle.text.specs.Numbered.{lines_in}
use Rattle.job.specs.declared.lines.JobLine.{JobLine}
use Rattle.job.specs.declared.lines.JobLines.{JobLines}

-- nothing but white space
abbrev pub is_blank : List ℕ → Bool
is_blank = list_all is_ascii_whitespace

-- it begins with # (35)
abbrev pub is_remark : List ℕ → Bool
is_remark [] = false
is_remark (c ∷ cs) = c == 35

abbrev pub is_call : List ℕ → Bool
is_call text = not (is_remark text) && not (is_blank text)

-- the lines that are left of a job
abbrev pub lines_left : JobLines → List (ℕ × List ℕ)
lines_left j = lines_in j.lines

-- a line without its memory
abbrev pub line_of : JobLine → ℕ × List ℕ
line_of l = (l.number, l.text.now)
