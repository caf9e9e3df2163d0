-- A text's lines with their numbers.
use Rattle.std.specs.Prelude.{ℕ, ◌+◌, List, [], ◌∷◌}
use Rattle.text.specs.Format.{lines}
use Rattle.text.specs.declared.numbered.Lines.{Lines}

-- the lines after the n-th, each with its number
abbrev pub numbered : ℕ → List (List ℕ) → List (ℕ × List ℕ)
numbered n [] = []
numbered n (l ∷ ls) = (n + 1, l) ∷ numbered (n + 1) ls

-- what is left of a text whose lines are taken one by one
abbrev pub lines_in : Lines → List (ℕ × List ℕ)
lines_in t = numbered t.number (lines t.rest.now)
