-- Digits read to a number, and a number's digits read back.
use Rattle.std.proofs.Common.{◌≡◌, ℕ, ◌+◌, ◌*◌, ◌^◌, ◌<◌, ◌≤◌, true, false, ◌&&◌, List, [], ◌∷◌, length, get_or, drop, ℤ, pos, negsuc, nat_abs, Some, decimal, sym, refl, ap, ◌∙◌, pow-suc, add-one, arith, rules}
use native.Mathlib.Nat.{pow-le-pow_right}
use lib.Signed.{lt_z, mag}
use Rattle.std.specs.Char.{is_ascii_digit}
use Rattle.std.specs.Fmt.{signed_decimal}
use Rattle.std.specs.Str.{all_ascii_digits}
use Rattle.std.proofs.lemmas.List.{at_drop_more}
use Rattle.std.proofs.lemmas.Str.Parse.{IsNumeralModel, numerals_by_fold}
use Rattle.std.proofs.lemmas.Fmt.{digits_decimal, digits_value-decimal, decimal_nonempty, length-decimal-le}
use Rattle.std.proofs.lemmas.Bool.{both_ways, cond-true, and_from, and_parts, lt-ltb, ltb-true, le-leb}
use Rattle.text.specs.Format.{read_on, number_of}
use Rattle.text.specs.Laws.{Free}

pub number_some : (most : ℕ) (ds : List ℕ) → 0 < length ds → length ds ≤ most → all_ascii_digits ds ≡ true → number_of most ds ≡ Some (read_on 0 ds)
number_some most ds a b h = cond-true _ _ _ (and_from _ _ (lt-ltb 0 _ a) (and_from _ _ (le-leb _ _ b) h))

-- one more digit
pub ten_more : (n d i : ℕ) → n < 10 ^ i → d < 10 → 10 * n + d < 10 ^ (i + 1)
ten_more n d i h k = rw (add-one, pow-suc 10 i) (omega arith)

pub ten_most : (i : ℕ) → i < 9 → 10 ^ (i + 1) ≤ 1000000000
ten_most i h = let more : i + 1 ≤ 9 = omega arith in pow-le-pow_right {n = 10} (omega arith) more

-- what is left after the byte at i
module _ (xs : List ℕ) (i : ℕ) (h : i < length xs) where
  pub digits_end : all_ascii_digits (drop i xs) ≡ all_ascii_digits xs → false ≡ is_ascii_digit (get_or xs i 0) → all_ascii_digits xs ≡ false
  digits_end e no_digit = sym e ∙ at_drop_more all_ascii_digits xs i 0 h ∙ ap (λ b. b && all_ascii_digits (drop (i + 1) xs)) (sym no_digit)

  pub digits_more : all_ascii_digits (drop i xs) ≡ all_ascii_digits xs → true ≡ is_ascii_digit (get_or xs i 0) → all_ascii_digits (drop (i + 1) xs) ≡ all_ascii_digits xs
  digits_more e digit = ap (λ b. b && all_ascii_digits (drop (i + 1) xs)) digit ∙ sym (at_drop_more all_ascii_digits xs i 0 h) ∙ e

own : IsNumeralModel (λ ds. all_ascii_digits ds ≡ true) (read_on 0)
own = numerals_by_fold _ (search rules) read_on (search rules)

free_digits : (mark : ℕ) (ds : List ℕ) → is_ascii_digit mark ≡ false → all_ascii_digits ds ≡ true → Free mark ds
free_digits mark [] other h = tt
free_digits mark (c ∷ cs) other h =
    let p = and_parts (is_ascii_digit c) (all_ascii_digits cs) h in
    (λ e. both_ways (is_ascii_digit mark) other (ap is_ascii_digit (sym e) ∙ p.0), free_digits mark cs other p.1)

-- a number's digits hold no mark that is not one
pub free_decimal : (mark n : ℕ) → is_ascii_digit mark ≡ false → n < 2 ^ 64 → Free mark (decimal n)
free_decimal mark n other h = free_digits mark (decimal n) other (digits_decimal own n h)

-- a signed number's text, by its sign
pub signed_negative : (z : ℤ) → lt_z z (pos 0) ≡ true → signed_decimal z ≡ 45 ∷ decimal (nat_abs z)
signed_negative (pos n) e = absurd (omega (arith, ltb-true n 0 e))
signed_negative (negsuc n) e = refl

pub signed_natural : (z : ℤ) → lt_z z (pos 0) ≡ false → signed_decimal z ≡ decimal (nat_abs z)
signed_natural (pos n) e = refl
signed_natural (negsuc n) e = absurd (both_ways true e refl)

-- it holds no mark that is neither a digit nor `-`
pub free_signed : (mark : ℕ) (z : ℤ) → is_ascii_digit mark ≡ false → (45 ≡ mark → ⊥) → mag z < 2 ^ 63 → Free mark (signed_decimal z)
free_signed mark (pos n) other minus h = free_decimal mark n other (omega arith)
free_signed mark (negsuc n) other minus h = (minus, free_decimal mark _ other (omega arith))

-- a written number is read as the same number
pub number_back : (most n : ℕ) → 0 < most → n < 10 ^ most → n < 2 ^ 64 → number_of most (decimal n) ≡ Some n
number_back most n some less fits =
    number_some most (decimal n) (decimal_nonempty n fits) (length-decimal-le most n some less fits) (digits_decimal own n fits)
    ∙ ap Some (digits_value-decimal own n fits)
