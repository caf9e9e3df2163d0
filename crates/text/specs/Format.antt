-- How a text is laid out: lines, parts, digits.
use Rattle.std.specs.Prelude.{ℕ, ◌+◌, ◌-◌, ◌*◌, cond, ◌&&◌, List, [], ◌∷◌, length, Some, None, Option, ◌==◌, nat_le, nat_lt}
use Rattle.std.specs.Str.{all_ascii_digits}

-- what stands before the first mark, or all
abbrev pub before : ℕ → List ℕ → List ℕ
before mark [] = []
before mark (c ∷ cs) = cond (c == mark) [] (c ∷ before mark cs)

-- what follows the first mark, if anything
abbrev pub after : ℕ → List ℕ → List ℕ
after mark [] = []
after mark (c ∷ cs) = cond (c == mark) cs (after mark cs)

-- c joins the first part
abbrev pub onto : ℕ → List (List ℕ) → List (List ℕ)
onto c [] = (c ∷ []) ∷ []
onto c (p ∷ ps) = (c ∷ p) ∷ ps

-- a line ends at byte 10 or at the text's end; none follows a last byte 10
abbrev pub lines : List ℕ → List (List ℕ)
lines [] = []
lines (c ∷ cs) = cond (c == 10) ([] ∷ lines cs) (onto c (lines cs))

-- the mark stands between two parts
abbrev pub parts : ℕ → List ℕ → List (List ℕ)
parts mark [] = [] ∷ []
parts mark (c ∷ cs) = cond (c == mark) ([] ∷ parts mark cs) (onto c (parts mark cs))

-- the number that digits write, after those of n
abbrev pub read_on : ℕ → List ℕ → ℕ
read_on n [] = n
read_on n (c ∷ cs) = read_on (10 * n + (c - 48)) cs

-- the number that 1 to `most` digits write
abbrev pub number_of : ℕ → List ℕ → Option ℕ
number_of most ds = cond (nat_lt 0 (length ds) && (nat_le (length ds) most && all_ascii_digits ds)) (Some (read_on 0 ds)) None
