-- The bits of a mask, one by one, and how many of them are set.
use Rattle.std.proofs.Common.{◌≡◌, ℕ, zero, suc, ◌+◌, ◌-◌, ◌*◌, ◌/◌, ◌%◌, ◌^◌, ◌<◌, min, ◌||◌, eqb, sym, refl, ap, ◌∙◌, mod-lt, mod-eq_of_lt, one-add, arith, pow_pos}
use native.Mathlib.Nat.{mod-one}
use lib.Bits.{bit_and, bit_or, bit_xor, and_shr, and_mod, and_mask, or_shr, or_mod, xor_shr, xor_mod, xor_add_and}
use lib.Count.{ones, ones_in, ones_cat}
use Rattle.std.proofs.lemmas.Nat.{mod-pow-add, field_of}
use Rattle.calendar.specs.Marks.{marked}
use Rattle.calendar.proofs.Tables.{same_below}

abbrev pub bit : ℕ → ℕ → ℕ
bit m k = m / 2 ^ k % 2

pub bit_below : (m k : ℕ) → bit m k < 2
bit_below m k = omega arith

-- ---- bits of masks that are joined

and_bits : (x y : ℕ) → x < 2 → y < 2 → bit_and x y ≡ min x y
and_bits zero zero p q = refl
and_bits zero (suc zero) p q = refl
and_bits (suc zero) zero p q = refl
and_bits (suc zero) (suc zero) p q = refl
and_bits zero (suc (suc y)) p q = absurd (omega arith)
and_bits (suc zero) (suc (suc y)) p q = absurd (omega arith)
and_bits (suc (suc x)) y p q = absurd (omega arith)

xor_one : (x : ℕ) → x < 2 → bit_xor x 1 ≡ 1 - x
xor_one zero p = refl
xor_one (suc zero) p = refl
xor_one (suc (suc x)) p = absurd (omega arith)

or_bits : (x y : ℕ) → x < 2 → y < 2 → eqb (bit_or x y) 1 ≡ (eqb x 1 || eqb y 1)
or_bits zero zero p q = refl
or_bits zero (suc zero) p q = refl
or_bits (suc zero) zero p q = refl
or_bits (suc zero) (suc zero) p q = refl
or_bits zero (suc (suc y)) p q = absurd (omega arith)
or_bits (suc zero) (suc (suc y)) p q = absurd (omega arith)
or_bits (suc (suc x)) y p q = absurd (omega arith)

-- a day is marked in two masks together where it is in one of them
pub marked_or : (a b d : ℕ) → marked (bit_or a b) d ≡ (marked a d || marked b d)
marked_or a b d =
    ap (λ n. eqb (n % 2) 1) (or_shr a b (d - 1)) ∙ ap (λ n. eqb n 1) (or_mod (a / 2 ^ (d - 1)) (b / 2 ^ (d - 1)) 1) ∙ or_bits (bit a (d - 1)) (bit b (d - 1)) (omega arith) (omega arith)

pub bit_both : (a b k : ℕ) → bit (bit_and a b) k ≡ min (bit a k) (bit b k)
bit_both a b k =
    ap (λ n. n % 2) (and_shr a b k) ∙ and_mod (a / 2 ^ k) (b / 2 ^ k) 1 ∙ and_bits (bit a k) (bit b k) (omega arith) (omega arith)

-- `!h` at 64 bits
flipped : (h : ℕ) → h < 2 ^ 64 → 2 ^ 64 - 1 - h ≡ bit_xor h (2 ^ 64 - 1)
flipped h fits = omega (arith, xor_add_and h (2 ^ 64 - 1), and_mask h 64, mod-eq_of_lt fits)

full : (k : ℕ) → k < 64 → bit (2 ^ 64 - 1) k ≡ 1
full = same_below (bit (2 ^ 64 - 1)) (λ _. 1) 64 refl

pub bit_not : (h k : ℕ) → h < 2 ^ 64 → k < 64 → bit (2 ^ 64 - 1 - h) k ≡ 1 - bit h k
bit_not h k fits lt =
    ap (λ n. bit n k) (flipped h fits) ∙ ap (λ n. n % 2) (xor_shr h (2 ^ 64 - 1) k) ∙ xor_mod (h / 2 ^ k) ((2 ^ 64 - 1) / 2 ^ k) 1
    ∙ ap (bit_xor (bit h k)) (full k lt) ∙ xor_one (bit h k) (omega arith)

-- the lowest j digits of a number, and more of them
parity : (n j : ℕ) → n % 2 ^ (j + 1) % 2 ≡ n % 2
parity n j = let e = mod-pow-add n j 1 in omega (arith, e)

-- the bits below the place of a cut
pub bit_cut : (n d k : ℕ) → k < d → bit (n % 2 ^ d) k ≡ bit n k
bit_cut n d k lt =
    let whole : d ≡ (d - k - 1 + 1) + k = omega arith in
    ap (λ e. bit (n % 2 ^ e) k) whole ∙ ap (λ m. m % 2) (field_of n (d - k - 1 + 1) k) ∙ parity (n / 2 ^ k) (d - k - 1)

-- ---- how many are set

ones_bit : (b : ℕ) → b < 2 → ones b ≡ b
unfolding ones ones_in
ones_bit zero p = refl
ones_bit (suc zero) p = refl
ones_bit (suc (suc b)) p = absurd (omega arith)

ones_front : (m n : ℕ) → ones (m % 2 ^ suc n) ≡ ones (m % 2 ^ n) + bit m n
ones_front m n =
    let split : m % 2 ^ suc n ≡ bit m n * 2 ^ n + m % 2 ^ n = ap (λ e. m % 2 ^ e) (sym (one-add n)) ∙ mod-pow-add m 1 n in
    let cat : ones (bit m n * 2 ^ n + m % 2 ^ n) ≡ ones (bit m n) + ones (m % 2 ^ n) = ones_cat n (bit m n) (m % 2 ^ n) (mod-lt m (pow_pos n)) in
    omega (arith, ap ones split, cat, ones_bit (bit m n) (omega arith))

module _ (count f : ℕ → ℕ) (start : count 0 ≡ 0) (step : (n : ℕ) → count (suc n) ≡ count n + f n) (m : ℕ) where
  ones_up_to : (n : ℕ) → ((k : ℕ) → k < n → bit m k ≡ f k) → ones (m % 2 ^ n) ≡ count n
  ones_up_to zero h = ap ones (mod-one m) ∙ ones_bit 0 (omega arith) ∙ sym start
  ones_up_to (suc n) h = omega (arith, ones_front m n, ones_up_to n (λ k lt. h k (omega arith)), h n (omega arith), step n)

  -- a count by steps is the number of set bits, where each step adds one bit
  pub ones_count : (n : ℕ) → m < 2 ^ n → ((k : ℕ) → k < n → bit m k ≡ f k) → ones m ≡ count n
  ones_count n fits h = ap ones (sym (mod-eq_of_lt fits)) ∙ ones_up_to n h
