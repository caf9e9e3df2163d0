-- The parts and the lines of a text, put together again.
use Rattle.std.proofs.Common.{◌≡◌, ℕ, ◌<◌, Bool, true, false, cond, eqb, List, [], ◌∷◌, ◌++◌, length, sym, refl, ap, ◌∙◌, arith}
use Rattle.std.specs.List.{AllByRecursion}
use Rattle.std.proofs.lemmas.Bool.{eqb-true, eqb-false}
use Rattle.text.specs.Format.{onto, lines, parts}
use Rattle.text.specs.Laws.{Free, marked, ended, closed, Parts-stand, Lines-stand}
use Rattle.text.proofs.Parts.{some_parts}
use Rattle.text.proofs.Lines.{lines_first}

marked_onto : (mark c : ℕ) (ps : List (List ℕ)) → 0 < length ps → marked mark (onto c ps) ≡ c ∷ marked mark ps
marked_onto mark c [] h = absurd (omega arith)
marked_onto mark c (p ∷ []) h = refl
marked_onto mark c (p ∷ q ∷ qs) h = refl

marked_mark : (mark : ℕ) (ps : List (List ℕ)) → 0 < length ps → marked mark ([] ∷ ps) ≡ mark ∷ marked mark ps
marked_mark mark [] h = absurd (omega arith)
marked_mark mark (p ∷ ps) h = refl

parts_join : (mark : ℕ) (xs : List ℕ) → marked mark (parts mark xs) ≡ xs
parts_join mark [] = refl
parts_join mark (c ∷ cs) =
    elim (eqb c mark) as (λ b. eqb c mark ≡ b → marked mark (cond b ([] ∷ parts mark cs) (onto c (parts mark cs))) ≡ c ∷ cs) [
      | true ↦ λ e. marked_mark mark (parts mark cs) (some_parts mark cs) ∙ ap (λ l. mark ∷ l) (parts_join mark cs) ∙ ap (λ x. x ∷ cs) (sym (eqb-true c mark e))
      | false ↦ λ e. marked_onto mark c (parts mark cs) (some_parts mark cs) ∙ ap (λ l. c ∷ l) (parts_join mark cs)
    ] refl

free_onto : (mark c : ℕ) (ps : List (List ℕ)) → (c ≡ mark → ⊥) → AllByRecursion (Free mark) ps → AllByRecursion (Free mark) (onto c ps)
free_onto mark c [] h f = ((h, tt), tt)
free_onto mark c (p ∷ ps) h f = ((h, f.0), f.1)

parts_free : (mark : ℕ) (xs : List ℕ) → AllByRecursion (Free mark) (parts mark xs)
parts_free mark [] = (tt, tt)
parts_free mark (c ∷ cs) =
    elim (eqb c mark) as (λ b. eqb c mark ≡ b → AllByRecursion (Free mark) (cond b ([] ∷ parts mark cs) (onto c (parts mark cs)))) [
      | true ↦ λ e. (tt, parts_free mark cs)
      | false ↦ λ e. free_onto mark c (parts mark cs) (eqb-false c mark e) (parts_free mark cs)
    ] refl

pub parts_stand : (mark : ℕ) (xs : List ℕ) → Parts-stand mark xs
parts_stand mark xs = record { whole = parts_join mark xs; free = parts_free mark xs }

lines_free : (xs : List ℕ) → AllByRecursion (Free 10) (lines xs)
lines_free [] = tt
lines_free (c ∷ cs) =
    elim (eqb c 10) as (λ b. eqb c 10 ≡ b → AllByRecursion (Free 10) (cond b ([] ∷ lines cs) (onto c (lines cs)))) [
      | true ↦ λ e. (tt, lines_free cs)
      | false ↦ λ e. free_onto 10 c (lines cs) (eqb-false c 10 e) (lines_free cs)
    ] refl

ended_onto : (c : ℕ) (ls : List (List ℕ)) → 0 < length ls → ended (onto c ls) ≡ c ∷ ended ls
ended_onto c [] h = absurd (omega arith)
ended_onto c (l ∷ ls) h = refl

either_way : (c : ℕ) (b : Bool) (xs ys : List ℕ) → c ∷ cond b xs ys ≡ cond b (c ∷ xs) (c ∷ ys)
either_way c true xs ys = refl
either_way c false xs ys = refl

lines_join : (xs : List ℕ) → ended (lines xs) ≡ cond (closed xs) xs (xs ++ 10 ∷ [])
lines_join [] = refl
lines_join (c ∷ []) =
    elim (eqb c 10) as (λ b. eqb c 10 ≡ b → ended (cond b ([] ∷ []) ((c ∷ []) ∷ [])) ≡ cond b (c ∷ []) (c ∷ 10 ∷ [])) [
      | true ↦ λ e. ap (λ x. x ∷ []) (sym (eqb-true c 10 e))
      | false ↦ λ e. refl
    ] refl
lines_join (c ∷ d ∷ ds) =
    let rest = d ∷ ds in
    let some : 0 < length (lines rest) = omega (arith, ap length (lines_first rest (omega arith))) in
    let more : c ∷ ended (lines rest) ≡ cond (closed rest) (c ∷ rest) (c ∷ (rest ++ 10 ∷ [])) = ap (λ l. c ∷ l) (lines_join (d ∷ ds)) ∙ either_way c (closed rest) rest (rest ++ 10 ∷ []) in
    elim (eqb c 10) as (λ b. eqb c 10 ≡ b → ended (cond b ([] ∷ lines rest) (onto c (lines rest))) ≡ cond (closed rest) (c ∷ rest) (c ∷ (rest ++ 10 ∷ []))) [
      | true ↦ λ e. ap (λ x. x ∷ ended (lines rest)) (sym (eqb-true c 10 e)) ∙ more
      | false ↦ λ e. ended_onto c (lines rest) some ∙ more
    ] refl

pub lines_stand : (xs : List ℕ) → Lines-stand xs
lines_stand xs = record { whole = lines_join xs; free = lines_free xs }
