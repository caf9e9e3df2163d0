-- The parts of a text, taken from the front, at any mark.
use Rattle.std.proofs.Common.{◌≡◌, ℕ, suc, ◌+◌, ◌-◌, ◌<◌, ◌≤◌, true, false, cond, eqb, ltb, Some, None, List, [], ◌∷◌, ◌++◌, length, take, drop, sym, refl, ap, ◌∙◌, arith, length-drop}
use Rattle.std.specs.List.{count_by, position, position_or_len}
use Rattle.std.specs.Option.{unwrap_or}
use Rattle.std.proofs.lemmas.List.{drop-drop, length-take}
use Rattle.std.proofs.lemmas.List.Recursion.{is_position_or_len, is_count_by}
use Rattle.std.proofs.lemmas.Bool.{eq-eqb, ne_eqb, cond-true, cond-false, ltb-false}
use Rattle.text.specs.Format.{before, after, onto, parts}
use Rattle.text.specs.Laws.{Free}

-- the front of a text and what follows it, by the front's length
pub before_take : (mark : ℕ) (xs : List ℕ) → before mark xs ≡ take (length (before mark xs)) xs
before_take mark [] = refl
before_take mark (c ∷ cs) =
    elim (eqb c mark) as (λ b. cond b [] (c ∷ before mark cs) ≡ take (length (cond b [] (c ∷ before mark cs))) (c ∷ cs)) [
      | true ↦ refl
      | false ↦ ap (λ l. c ∷ l) (before_take mark cs)
    ]

pub after_drop : (mark : ℕ) (xs : List ℕ) → after mark xs ≡ drop (suc (length (before mark xs))) xs
after_drop mark [] = refl
after_drop mark (c ∷ cs) =
    elim (eqb c mark) as (λ b. cond b cs (after mark cs) ≡ drop (length (cond b [] (c ∷ before mark cs))) cs) [
      | true ↦ refl
      | false ↦ after_drop mark cs
    ]

-- the front is as long as the place of the first mark, or as the text
front_place : (mark : ℕ) (xs : List ℕ) → length (before mark xs) ≡ position_or_len (λ c. eqb c mark) xs
front_place mark xs =
    is_position_or_len (λ l. length (before mark l)) (λ c. eqb c mark) refl (λ c cs.
    elim (eqb c mark) as (λ b. length (cond b [] (c ∷ before mark cs)) ≡ cond b 0 (1 + length (before mark cs))) [ true ↦ refl | false ↦ omega arith ]) xs

pub front_or_all : (mark : ℕ) (xs : List ℕ) → unwrap_or (position (λ c. eqb c mark) xs) (length xs) ≡ length (before mark xs)
front_or_all mark xs =
    let at = position_or_len (λ c. eqb c mark) xs in
    let within : length (before mark xs) ≤ length xs = omega (arith, ap length (before_take mark xs), length-take (length (before mark xs)) xs) in
    elim (ltb at (length xs)) as (λ b. ltb at (length xs) ≡ b → unwrap_or (cond b (Some at) None) (length xs) ≡ length (before mark xs)) [
      | true ↦ λ e. sym (front_place mark xs)
      | false ↦ λ e. omega (arith, front_place mark xs, within, ltb-false at (length xs) e)
    ] refl

-- a text has a part, and a byte that is no mark adds none
length_onto : (c : ℕ) (ps : List (List ℕ)) → 0 < length ps → length (onto c ps) ≡ length ps
length_onto c [] h = absurd (omega arith)
length_onto c (p ∷ ps) h = refl

some_onto : (c : ℕ) (ps : List (List ℕ)) → 0 < length (onto c ps)
some_onto c [] = omega arith
some_onto c (p ∷ ps) = omega arith

pub some_parts : (mark : ℕ) (xs : List ℕ) → 0 < length (parts mark xs)
some_parts mark [] = omega arith
some_parts mark (c ∷ cs) =
    elim (eqb c mark) as (λ b. 0 < length (cond b ([] ∷ parts mark cs) (onto c (parts mark cs)))) [
      | true ↦ omega arith
      | false ↦ some_onto c (parts mark cs)
    ]

-- one more part than marks
pub parts_counted : (mark : ℕ) (xs : List ℕ) → count_by (λ c. eqb c mark) xs + 1 ≡ length (parts mark xs)
parts_counted mark xs =
    let same = is_count_by (λ l. length (parts mark l) - 1) (λ c. eqb c mark) refl (λ c cs.
    elim (eqb c mark) as (λ b. length (cond b ([] ∷ parts mark cs) (onto c (parts mark cs))) - 1 ≡ cond b (1 + (length (parts mark cs) - 1)) (length (parts mark cs) - 1)) [
      | true ↦ omega (arith, some_parts mark cs)
      | false ↦ ap (λ n. n - 1) (length_onto c (parts mark cs) (some_parts mark cs))
    ]) xs in
    omega (arith, same, some_parts mark xs)

onto_head : (c : ℕ) (ps : List (List ℕ)) (p : List ℕ) → ps ≡ p ∷ drop 1 ps → onto c ps ≡ (c ∷ p) ∷ drop 1 (onto c ps)
onto_head c [] p e = absurd (omega (arith, ap length e))
onto_head c (q ∷ qs) p e = cc

drop_onto : (c : ℕ) (ps : List (List ℕ)) → 0 < length ps → drop 1 (onto c ps) ≡ drop 1 ps
drop_onto c [] h = absurd (omega arith)
drop_onto c (q ∷ qs) h = refl

-- the first part stands before the first mark
pub parts_head : (mark : ℕ) (xs : List ℕ) → parts mark xs ≡ before mark xs ∷ drop 1 (parts mark xs)
parts_head mark [] = refl
parts_head mark (c ∷ cs) =
    elim (eqb c mark) as (λ b. cond b ([] ∷ parts mark cs) (onto c (parts mark cs)) ≡ cond b [] (c ∷ before mark cs) ∷ drop 1 (cond b ([] ∷ parts mark cs) (onto c (parts mark cs)))) [
      | true ↦ refl
      | false ↦ onto_head c (parts mark cs) _ (parts_head mark cs)
    ]

-- and the others after it
pub parts_next : (mark : ℕ) (xs : List ℕ) → 1 < length (parts mark xs) → drop 1 (parts mark xs) ≡ parts mark (after mark xs)
parts_next mark [] h = absurd (omega arith)
parts_next mark (c ∷ cs) h =
    elim (eqb c mark) as (λ b. 1 < length (cond b ([] ∷ parts mark cs) (onto c (parts mark cs))) → drop 1 (cond b ([] ∷ parts mark cs) (onto c (parts mark cs))) ≡ parts mark (cond b cs (after mark cs))) [
      | true ↦ λ h. refl
      | false ↦ λ h.
          let same = length_onto c (parts mark cs) (some_parts mark cs) in
          drop_onto c (parts mark cs) (some_parts mark cs) ∙ parts_next mark cs (omega arith)
    ] h

-- what follows the first mark is shorter
pub after_shorter : (mark : ℕ) (xs : List ℕ) → 0 < length xs → length (after mark xs) < length xs
after_shorter mark [] h = absurd (omega arith)
after_shorter mark (c ∷ []) h = elim (eqb c mark) as (λ b. length {A = ℕ} (cond b [] []) < 1) [ true ↦ omega arith | false ↦ omega arith ]
after_shorter mark (c ∷ d ∷ ds) h =
    elim (eqb c mark) as (λ b. length (cond b (d ∷ ds) (after mark (d ∷ ds))) < length (c ∷ d ∷ ds)) [
      | true ↦ omega arith
      | false ↦ let less = after_shorter mark (d ∷ ds) (omega arith) in omega arith
    ]

-- a turn over the parts of `whole`, of which those from i on are those of `rest`
module _ (mark : ℕ) (whole rest : List ℕ) (i : ℕ) (at : parts mark rest ≡ drop i (parts mark whole)) where
  pub here : drop i (parts mark whole) ≡ before mark rest ∷ drop (i + 1) (parts mark whole)
  here =
      sym at
      ∙ parts_head mark rest
      ∙ ap (λ l. before mark rest ∷ drop 1 l) at
      ∙ ap (λ l. before mark rest ∷ l) (drop-drop 1 i (parts mark whole))

  pub onwards : i + 1 < length (parts mark whole) → parts mark (after mark rest) ≡ drop (i + 1) (parts mark whole)
  onwards h =
      let left = ap length at ∙ length-drop i (parts mark whole) in
      sym (parts_next mark rest (omega arith)) ∙ ap (drop 1) at ∙ drop-drop 1 i (parts mark whole)

-- the first two parts and the others
pub parts_three : (mark : ℕ) (xs : List ℕ) → 2 < length (parts mark xs) → parts mark xs ≡ before mark xs ∷ before mark (after mark xs) ∷ parts mark (after mark (after mark xs))
parts_three mark xs h =
    let next = onwards mark xs xs 0 refl (omega arith) in
    let third = onwards mark xs (after mark xs) 1 next (omega arith) in
    here mark xs xs 0 refl
    ∙ ap (λ l. before mark xs ∷ l) (here mark xs (after mark xs) 1 next ∙ ap (λ l. before mark (after mark xs) ∷ l) (sym third))

-- a text that holds no mark, before a mark or at the end, is a part
pub parts_first : (mark : ℕ) (p rest : List ℕ) → Free mark p → parts mark (p ++ mark ∷ rest) ≡ p ∷ parts mark rest
parts_first mark [] rest f = cond-true (eqb mark mark) _ _ (eq-eqb mark mark refl)
parts_first mark (c ∷ cs) rest f = cond-false (eqb c mark) _ _ (ne_eqb c mark f.0) ∙ ap (onto c) (parts_first mark cs rest f.1)

pub parts_last : (mark : ℕ) (p : List ℕ) → Free mark p → parts mark p ≡ p ∷ []
parts_last mark [] f = refl
parts_last mark (c ∷ cs) f = cond-false (eqb c mark) _ _ (ne_eqb c mark f.0) ∙ ap (onto c) (parts_last mark cs f.1)
