-- A mask that is made day by day.
use Rattle.std.proofs.Common.{◌≡◌, ℕ, ◌+◌, ◌-◌, ◌/◌, ◌%◌, ◌^◌, ◌<◌, ◌≤◌, Bool, true, false, cond, eqb, sym, ap, ◌∙◌, ⊎_elim, add-zero, mod-eq_of_lt, pow-suc, add-one, arith, pow_pos, ◌*◌, subst}
use Rattle.std.proofs.Math.Nat.{one-mul}
use lib.Bits.{bit_or}
use Rattle.std.proofs.lemmas.Nat.{one_shl, or_comm, or_shifted}
use native.Mathlib.Nat.{div-eq_of_lt, div-eq_of_lt-le, add-mod_right}
use Rattle.std.proofs.lemmas.Bool.{cases_lt}
use Rattle.calendar.specs.Marks.{marked, MarksJust}
use Rattle.calendar.proofs.Masks.{bit, bit_cut}

pub none_marked : (picked : ℕ → Bool) → MarksJust 0 picked 0
none_marked picked = record { fits = omega (arith, pow_pos 0); days = λ d low high. absurd (omega arith) }

module _ (k m : ℕ) (small : m < 2 ^ k) where
  power : 2 ^ (k + 1) ≡ 2 ^ k + 2 ^ k
  power = ap (λ n. 2 ^ n) (add-one k) ∙ pow-suc 2 k ∙ omega arith

  -- what the sum has below bit k
  low_part : (b : Bool) → (m + cond b (2 ^ k) 0) % 2 ^ k ≡ m
  low_part true = add-mod_right m (2 ^ k) ∙ mod-eq_of_lt small
  low_part false = ap (λ n. n % 2 ^ k) (add-zero m) ∙ mod-eq_of_lt small

  -- and at bit k
  top_part : (b : Bool) → eqb (bit (m + cond b (2 ^ k) 0) k) 1 ≡ b
  top_part true =
      let one : (m + 2 ^ k) / 2 ^ k ≡ 1 = div-eq_of_lt-le (2 ^ k) (omega arith) (omega arith) in
      ap (λ n. eqb (n % 2) 1) one
  top_part false =
      let none : (m + 0) / 2 ^ k ≡ 0 = ap (λ n. n / 2 ^ k) (add-zero m) ∙ div-eq_of_lt small in
      ap (λ n. eqb (n % 2) 1) none

  sum_fits : (b : Bool) → m + cond b (2 ^ k) 0 < 2 ^ (k + 1)
  sum_fits true = omega (arith, power)
  sum_fits false = omega (arith, power)

  day_more : (picked : ℕ → Bool) (b : Bool) → b ≡ picked (k + 1) → ((d : ℕ) → 1 ≤ d → d ≤ k → marked m d ≡ picked d) → MarksJust (k + 1) picked (m + cond b (2 ^ k) 0)
  day_more picked b is before = record { fits = sum_fits b; days = λ d low high. ⊎_elim (earlier d low) (here d low high) (cases_lt d (k + 1)) }
    where
      earlier : (d : ℕ) → 1 ≤ d → d < k + 1 → marked (m + cond b (2 ^ k) 0) d ≡ picked d
      earlier d low lt =
          ap (λ n. eqb n 1) (sym (bit_cut (m + cond b (2 ^ k) 0) k (d - 1) (omega arith)) ∙ ap (λ n. bit n (d - 1)) (low_part b)) ∙ before d low (omega arith)

      here : (d : ℕ) → 1 ≤ d → d ≤ k + 1 → k + 1 ≤ d → marked (m + cond b (2 ^ k) 0) d ≡ picked d
      here d low high ge =
          let last : d ≡ k + 1 = omega arith in
          let place : d - 1 ≡ k = omega arith in
          ap (λ j. eqb (bit (m + cond b (2 ^ k) 0) j) 1) place ∙ top_part b ∙ is ∙ ap picked (sym last)

pub marks_same : {picked : ℕ → Bool} {m : ℕ} (n k : ℕ) → n ≡ k → MarksJust k picked m → MarksJust n picked m
marks_same {picked} {m} n k is = subst (λ j. MarksJust j picked m) (sym is)

-- after a day is looked at: its bit is set where it is picked
module _ {picked : ℕ → Bool} {d m : ℕ} (n : ℕ) (is : n ≡ d) (low : 1 ≤ d) (high : d ≤ 32) (so_far : MarksJust (d - 1) picked m) where
  next : n ≡ d - 1 + 1
  next = omega arith

  here : d ≡ d - 1 + 1
  here = omega arith

  pub day_marked : true ≡ picked d → MarksJust n picked (bit_or m ((1 * 2 ^ (d - 1)) % 2 ^ 32))
  day_marked picks =
      let sum : bit_or m ((1 * 2 ^ (d - 1)) % 2 ^ 32) ≡ m + 2 ^ (d - 1) =
      ap (bit_or m) (one_shl (d - 1) 32 (omega arith)) ∙ or_comm m (2 ^ (d - 1)) ∙ rw one-mul at (or_shifted 1 (d - 1) m so_far.fits) ∙ omega arith in
      rw sum (marks_same n (d - 1 + 1) next (day_more (d - 1) m so_far.fits picked true (picks ∙ ap picked here) so_far.days))

  pub day_unmarked : false ≡ picked d → MarksJust n picked m
  day_unmarked skips =
      rw add-zero at (marks_same n (d - 1 + 1) next (day_more (d - 1) m so_far.fits picked false (skips ∙ ap picked here) so_far.days))
