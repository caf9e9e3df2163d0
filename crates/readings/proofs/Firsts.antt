-- The first that is found: the steps of a search, and that only the numbers 1 to n count.
use Rattle.std.proofs.Common.{◌≡◌, ℕ, zero, suc, ◌+◌, ◌<◌, ◌≤◌, Some, None, Option, sym, refl, ap, ◌∙◌, ap₂, ⊎_elim, add-one, arith}
use Rattle.std.specs.Option.{option_or}
use Rattle.std.proofs.lemmas.Bool.{cases_lt}
use Rattle.readings.specs.Missing.{first_of}
use Rattle.readings.specs.Options.{none_some}

module _ {X : Type 0} where
  pub left_none : (a b : Option X) → option_or a b ≡ None → a ≡ None
  left_none None b e = refl
  left_none (Some x) b e = e

  pub right_none : (a b : Option X) → option_or a b ≡ None → b ≡ None
  right_none None b e = e
  right_none (Some x) b e = none_some x (sym e)

module _ {X : Type 0} (f : ℕ → Option X) where
  pub first_none : (k : ℕ) → first_of f k ≡ None → f (k + 1) ≡ None → first_of f (k + 1) ≡ None
  first_none k none here = ap (first_of f) (add-one k) ∙ ap₂ option_or none (ap f (sym (add-one k)) ∙ here)

  pub first_found : (k n : ℕ) (x : X) → k < n → first_of f k ≡ None → f (k + 1) ≡ Some x → first_of f n ≡ Some x
  first_found k zero x lt none here = absurd (omega arith)
  first_found k (suc m) x lt none here =
      ⊎_elim (λ l. ap (λ o. option_or o (f (suc m))) (first_found k m x l none here))
      (λ ge.
      let same : m ≡ k = omega arith in
      let next : suc m ≡ k + 1 = omega arith in
      ap₂ option_or (ap (first_of f) same ∙ none) (ap f next ∙ here)) (cases_lt k m)

  -- where the first n have none, each of them has none
  pub none_before : (n k : ℕ) → first_of f n ≡ None → 1 ≤ k → k ≤ n → f k ≡ None
  none_before zero k none low high = absurd (omega arith)
  none_before (suc m) k none low high =
      ⊎_elim (λ lt. none_before m k (left_none (first_of f m) (f (suc m)) none) low (omega arith))
      (λ ge. let same : k ≡ suc m = omega arith in ap f same ∙ right_none (first_of f m) (f (suc m)) none) (cases_lt k (suc m))

  -- what the first n have first, the number k has, and none before it
  pub first_some : (n : ℕ) (x : X) → first_of f n ≡ Some x → (k : ℕ) × (1 ≤ k) × (k ≤ n) × (f k ≡ Some x) × ((j : ℕ) → 1 ≤ j → j < k → f j ≡ None)
  first_some zero x e = none_some x e
  first_some (suc m) x e = go (first_of f m) refl (first_some m x)
    where
      go : (o : Option X) → first_of f m ≡ o
          → (first_of f m ≡ Some x → (k : ℕ) × (1 ≤ k) × (k ≤ m) × (f k ≡ Some x) × ((j : ℕ) → 1 ≤ j → j < k → f j ≡ None))
          → (k : ℕ) × (1 ≤ k) × (k ≤ suc m) × (f k ≡ Some x) × ((j : ℕ) → 1 ≤ j → j < k → f j ≡ None)
      go None is later =
          (suc m, omega arith, omega arith, ap (λ o. option_or o (f (suc m))) (sym is) ∙ e, λ j low high. none_before m j is low (omega arith))
      go (Some y) is later =
          let (k, low, high, here, before) = later (is ∙ ap (λ o. option_or o (f (suc m))) (sym is) ∙ e) in
          (k, low, omega arith, here, before)

pub first_alike : {X : Type 0} (f g : ℕ → Option X) (n : ℕ) → ((k : ℕ) → 1 ≤ k → k ≤ n → f k ≡ g k) → first_of f n ≡ first_of g n
first_alike f g zero same = refl
first_alike f g (suc n) same = ap₂ option_or (first_alike f g n (λ k low high. same k low (omega arith))) (same (suc n) (omega arith) (omega arith))
