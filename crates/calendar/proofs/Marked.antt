-- A mask fits in a month just if no other day is marked.
use Rattle.std.proofs.Common.{◌≡◌, ℕ, suc, ◌-◌, ◌/◌, ◌%◌, ◌^◌, ◌<◌, ◌≤◌, eqb, ap, ◌∙◌, ⊎_elim, lt_of_lt_of_le, pow-suc, arith, pow_pos, pow_mono}
use native.Mathlib.Nat.{div-eq_of_lt, div-eq_of_lt-le}
use Rattle.std.proofs.lemmas.Nat.{leading_top}
use Rattle.std.proofs.lemmas.Bool.{cases_lt, lt-ltb, ltb-true, both_ways}
use Rattle.calendar.specs.Marks.{marked, NoMarkAfter, FitsMeansNoMark}

none_after : (mask n : ℕ) → mask < 2 ^ n → NoMarkAfter mask n
none_after mask n fits d lt =
    let le : 2 ^ n ≤ 2 ^ (d - 1) = pow_mono (omega arith) in
    ap (λ x. eqb (x % 2) 1) (div-eq_of_lt (lt_of_lt_of_le fits le))

-- the highest mark stands on a day after the n-th
mark_after : (mask n : ℕ) → mask < 2 ^ 32 → 2 ^ n ≤ mask → NoMarkAfter mask n → ⊥
mark_after mask n word large none =
    let top = leading_top 32 mask (omega (arith, pow_pos n)) word in
    let j = top.0 in
    let one : mask / 2 ^ j ≡ 1 = div-eq_of_lt-le (2 ^ j) (omega (arith, top.2)) (omega (arith, top.3, pow-suc 2 j)) in
    let after : n < suc j = ⊎_elim (λ x. x) (λ ge. absurd (not_below j ge top.3)) (cases_lt n (suc j)) in
    let place : suc j - 1 ≡ j = omega arith in
    both_ways (marked mask (suc j)) (none (suc j) after) (ap (λ k. eqb (mask / 2 ^ k % 2) 1) place ∙ ap (λ x. eqb (x % 2) 1) one)
  where
    not_below : (j : ℕ) → suc j ≤ n → mask < 2 ^ suc j → ⊥
    not_below j ge small = let le : 2 ^ suc j ≤ 2 ^ n = pow_mono ge in omega arith

pub fits_means_no_mark : (mask n : ℕ) → mask < 2 ^ 32 → FitsMeansNoMark mask n
fits_means_no_mark mask n word = (
  λ fits. none_after mask n (ltb-true mask (2 ^ n) fits),
  λ none. ⊎_elim (λ lt. lt-ltb mask (2 ^ n) lt) (λ ge. absurd (mark_after mask n word ge none)) (cases_lt mask (2 ^ n)),
)
