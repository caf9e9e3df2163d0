-- The values of a text, got one by one from the front.
use Rattle.std.proofs.Common.{◌≡◌, ℕ, zero, suc, true, false, cond, eqb, List, [], ◌∷◌, get_or, refl, ap, ◌∙◌}
use Rattle.text.specs.Format.{before, after, onto, parts}
use Rattle.job.specs.Commands.{nth_value}

onto_first : (c : ℕ) (ps : List (List ℕ)) → c ∷ get_or ps 0 [] ≡ get_or (onto c ps) 0 []
onto_first c [] = refl
onto_first c (p ∷ ps) = refl

onto_next : (c k : ℕ) (ps : List (List ℕ)) → get_or ps (suc k) [] ≡ get_or (onto c ps) (suc k) []
onto_next c k [] = refl
onto_next c k (p ∷ ps) = refl

get_first : (xs : List ℕ) → before 124 xs ≡ nth_value 0 xs
get_first [] = refl
get_first (c ∷ cs) =
    elim (eqb c 124) as (λ b. cond b [] (c ∷ before 124 cs) ≡ get_or (cond b ([] ∷ parts 124 cs) (onto c (parts 124 cs))) 0 []) [
      | true ↦ refl
      | false ↦ ap (λ l. c ∷ l) (get_first cs) ∙ onto_first c (parts 124 cs)
    ]

past : (k : ℕ) → get_or ([] ∷ []) k [] ≡ get_or {A = List ℕ} [] k []
past zero = refl
past (suc k) = refl

get_next : (k : ℕ) (xs : List ℕ) → nth_value k (after 124 xs) ≡ nth_value (suc k) xs
get_next k [] = past k
get_next k (c ∷ cs) =
    elim (eqb c 124) as (λ b. get_or (parts 124 (cond b cs (after 124 cs))) k [] ≡ get_or (cond b ([] ∷ parts 124 cs) (onto c (parts 124 cs))) (suc k) []) [
      | true ↦ refl
      | false ↦ get_next k cs ∙ onto_next c k (parts 124 cs)
    ]

-- what is left of a text after its first k values
abbrev pub past_values : ℕ → List ℕ → List ℕ
past_values zero xs = xs
past_values (suc k) xs = past_values k (after 124 xs)

-- the next of them
pub get_value : (k : ℕ) (xs : List ℕ) → before 124 (past_values k xs) ≡ nth_value k xs
get_value zero xs = get_first xs
get_value (suc k) xs = get_value k (after 124 xs) ∙ get_next k xs
