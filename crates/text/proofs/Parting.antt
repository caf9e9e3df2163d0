-- The first part of a text and the others, with a mark behind it and without.
use Rattle.std.proofs.Common.{◌≡◌, ℕ, ◌<◌, ◌≤◌, Bool, true, false, cond, eqb, ltb, List, [], ◌∷◌, length, Bor, sym, refl, ap, ◌∙◌, ⊎_elim, arith}
use Rattle.std.specs.Bool.{then_some}
use Rattle.std.specs.Option.{option_map_or}
use Rattle.std.proofs.lemmas.Bool.{cases_lt, lt-ltb, le-ltb}
use Rattle.text.specs.Format.{before, after, onto, parts}

parts_more : (mark : ℕ) (xs : List ℕ) → length (before mark xs) < length xs → parts mark xs ≡ before mark xs ∷ parts mark (after mark xs)
parts_more mark [] h = absurd (omega arith)
parts_more mark (c ∷ cs) h =
    elim (eqb c mark) as (λ b. length (cond b [] (c ∷ before mark cs)) < length (c ∷ cs) → cond b ([] ∷ parts mark cs) (onto c (parts mark cs)) ≡ cond b [] (c ∷ before mark cs) ∷ parts mark (cond b cs (after mark cs))) [
      | true ↦ λ h. refl
      | false ↦ λ h. ap (onto c) (parts_more mark cs (omega arith))
    ] h

parts_only : (mark : ℕ) (xs : List ℕ) → length xs ≤ length (before mark xs) → parts mark xs ≡ xs ∷ []
parts_only mark [] h = refl
parts_only mark (c ∷ cs) h =
    elim (eqb c mark) as (λ b. length (c ∷ cs) ≤ length (cond b [] (c ∷ before mark cs)) → cond b ([] ∷ parts mark cs) (onto c (parts mark cs)) ≡ (c ∷ cs) ∷ []) [
      | true ↦ λ h. absurd (omega arith)
      | false ↦ λ h. ap (onto c) (parts_only mark cs (omega arith))
    ] h

pub before_all : (mark : ℕ) (xs : List ℕ) → length xs ≤ length (before mark xs) → before mark xs ≡ xs
before_all mark [] h = refl
before_all mark (c ∷ cs) h =
    elim (eqb c mark) as (λ b. length (c ∷ cs) ≤ length (cond b [] (c ∷ before mark cs)) → cond b [] (c ∷ before mark cs) ≡ c ∷ cs) [
      | true ↦ λ h. absurd (omega arith)
      | false ↦ λ h. ap (λ l. c ∷ l) (before_all mark cs (omega arith))
    ] h

-- one part taken: the others are left where a mark follows it
pub part_taken : (mark : ℕ) (rest part : List ℕ) (others : Bor (List ℕ)) → part ≡ before mark rest → others.now ≡ after mark rest
    → parts mark rest ≡ part ∷ option_map_or (λ r. parts mark r.now) (then_some (ltb (length part) (length rest)) others) []
part_taken mark rest part others front back =
    let left : Bool → List (List ℕ) = λ b. option_map_or (λ r. parts mark r.now) (then_some b others) [] in
    ⊎_elim
    (λ lt. parts_more mark rest lt ∙ ap (λ l. before mark rest ∷ parts mark l) (sym back) ∙ ap (λ b. before mark rest ∷ left b) (sym (lt-ltb _ _ lt)))
    (λ ge. parts_only mark rest ge ∙ ap (λ l. l ∷ []) (sym (before_all mark rest ge)) ∙ ap (λ b. before mark rest ∷ left b) (sym (le-ltb _ _ ge)))
    (cases_lt (length (before mark rest)) (length rest))
    ∙ (λ i. sym front i ∷ left (ltb (length (sym front i)) (length rest)))
