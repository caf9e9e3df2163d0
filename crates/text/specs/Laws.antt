-- What makes `parts` and `lines` the parts and the lines of a text.
use Rattle.std.specs.Prelude.{◌≡◌, ℕ, Bool, true, cond, List, [], ◌∷◌, ◌++◌, ◌==◌, ◌≢◌}
use Rattle.std.specs.List.{flat_map, AllByRecursion}
use Rattle.text.specs.Format.{lines, parts}

-- no byte of xs is the mark
abbrev pub Free : ℕ → List ℕ → Type 0
Free mark xs = AllByRecursion (λ c. c ≢ mark) xs

-- the parts with the mark between each two
abbrev pub marked : ℕ → List (List ℕ) → List ℕ
marked mark [] = []
marked mark (p ∷ []) = p
marked mark (p ∷ q ∷ ps) = p ++ mark ∷ marked mark (q ∷ ps)

-- no part holds the mark, and put together they are the text again
pub record Parts-stand (mark : ℕ) (xs : List ℕ) : Type 0 where
  pub whole : marked mark (parts mark xs) ≡ xs
  pub free : AllByRecursion (Free mark) (parts mark xs)

-- the lines with byte 10 after each
abbrev pub ended : List (List ℕ) → List ℕ
ended ls = flat_map (λ l. l ++ 10 ∷ []) ls

-- whether the last line, if any, has its byte 10
abbrev pub closed : List ℕ → Bool
closed [] = true
closed (c ∷ []) = c == 10
closed (c ∷ d ∷ ds) = closed (d ∷ ds)

-- no line holds byte 10, and put together they are the text again, with an end for the last line where it lacks one
pub record Lines-stand (xs : List ℕ) : Type 0 where
  pub whole : ended (lines xs) ≡ cond (closed xs) xs (xs ++ 10 ∷ [])
  pub free : AllByRecursion (Free 10) (lines xs)
