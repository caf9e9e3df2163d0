-- The lines of a text, taken from the front.
use Rattle.std.proofs.Common.{◌≡◌, ℕ, ◌<◌, true, false, cond, eqb, List, [], ◌∷◌, ◌++◌, length, refl, ap, ◌∙◌, arith}
use Rattle.std.proofs.lemmas.Bool.{ne_eqb, cond-false}
use Rattle.text.specs.Format.{before, after, onto, lines}
use Rattle.text.specs.Laws.{Free}

lines_cut : (c : ℕ) (cs : List ℕ) → lines (c ∷ cs) ≡ before 10 (c ∷ cs) ∷ lines (after 10 (c ∷ cs))
lines_cut c [] =
    elim (eqb c 10) as (λ b. cond b ([] ∷ []) ((c ∷ []) ∷ []) ≡ cond b [] (c ∷ []) ∷ lines (cond b [] [])) [ true ↦ refl | false ↦ refl ]
lines_cut c (d ∷ ds) =
    elim (eqb c 10) as (λ b. cond b ([] ∷ lines (d ∷ ds)) (onto c (lines (d ∷ ds))) ≡ cond b [] (c ∷ before 10 (d ∷ ds)) ∷ lines (cond b (d ∷ ds) (after 10 (d ∷ ds)))) [
      | true ↦ refl
      | false ↦ ap (onto c) (lines_cut d ds)
    ]

-- the first line stands before the first byte 10, and the others after it
pub lines_first : (xs : List ℕ) → 0 < length xs → lines xs ≡ before 10 xs ∷ lines (after 10 xs)
lines_first [] h = absurd (omega arith)
lines_first (c ∷ cs) h = lines_cut c cs

-- a text that holds no byte 10, before one, is a line
pub lines_line : (xs rest : List ℕ) → Free 10 xs → lines (xs ++ 10 ∷ rest) ≡ xs ∷ lines rest
lines_line [] rest f = refl
lines_line (c ∷ cs) rest f = cond-false (eqb c 10) _ _ (ne_eqb c 10 f.0) ∙ ap (onto c) (lines_line cs rest f.1)
