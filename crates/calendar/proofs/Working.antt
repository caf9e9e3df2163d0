-- The mask of a month's working days.
use Rattle.std.proofs.Common.{◌≡◌, ℕ, zero, suc, ◌+◌, ◌-◌, ◌*◌, ◌/◌, ◌%◌, ◌^◌, ◌<◌, ◌≤◌, min, Bool, true, false, cond, not, ◌&&◌, eqb, ltb, sym, refl, ap, ◌∙◌, subst, ap₂, mod-lt, arith, pow_pos}
use lib.Bits.{bit_and, and_mask}
use lib.Count.{ones}
use Rattle.std.proofs.lemmas.Nat.{one_shl, shr-shr}
use Rattle.std.proofs.lemmas.Bool.{le-leb, and_from}
use Rattle.calendar.specs.declared.month.Calendar.{Calendar}
use Rattle.calendar.specs.Dates.{weekday_of}
use Rattle.calendar.specs.Calendars.{length_in, first_in, has_day, is_working, working_up_to, working_in}
use Rattle.calendar.proofs.Tables.{same_below}
use Rattle.calendar.proofs.Weekdays.{weekday_by_sevens}
use Rattle.calendar.proofs.Masks.{bit, bit_below, bit_both, bit_not, bit_cut, ones_count}

-- Monday to Friday, of five weeks and a day more
abbrev pub weekdays : ℕ
weekdays = 0b11111_0011111_0011111_0011111_0011111_0011111

weekday_bit : (j : ℕ) → j < 40 → bit weekdays j ≡ cond (ltb (j % 7) 5) 1 0
weekday_bit = same_below (bit weekdays) (λ j. cond (ltb (j % 7) 5) 1 0) 40 refl

both : (t : Bool) (h : ℕ) → h < 2 → min (cond t 1 0) (1 - h) ≡ cond (t && not (eqb h 1)) 1 0
both true zero p = refl
both true (suc zero) p = refl
both false zero p = refl
both false (suc zero) p = refl
both true (suc (suc h)) p = absurd (omega arith)
both false (suc (suc h)) p = absurd (omega arith)

module _ (cal : Calendar) (w h d : ℕ) (w-is : w ≡ weekday_of (first_in cal)) (h-is : h ≡ cal.holidays) (h_fits : h < 2 ^ 64) (d-is : d ≡ length_in cal) (d-le : d ≤ 31) where
  abbrev open_days : ℕ
  open_days = bit_and (weekdays / 2 ^ w) (2 ^ 64 - 1 - h)

  cut : bit_and open_days ((1 * 2 ^ d) % 2 ^ 64 - 1) ≡ open_days % 2 ^ d
  cut = ap (λ n. bit_and open_days (n - 1)) (one_shl d 64 (omega arith)) ∙ and_mask open_days d

  working_is : (k : ℕ) → k < d → is_working cal (suc k) ≡ (ltb ((w + k) % 7) 5 && not (eqb (bit h k) 1))
  working_is k lt =
      let within : has_day cal (suc k) ≡ true = and_from _ _ (le-leb 1 (suc k) (omega arith)) (le-leb (suc k) (length_in cal) (omega arith)) in
      let day : weekday_of (first_in cal + (suc k - 1)) ≡ (w + k) % 7 = omega (arith, weekday_by_sevens (first_in cal + (suc k - 1)), weekday_by_sevens (first_in cal)) in
      let place : suc k - 1 ≡ k = omega arith in
      let P : Bool → Bool = λ b. b && (ltb (weekday_of (first_in cal + (suc k - 1))) 5 && not (eqb (bit cal.holidays (suc k - 1)) 1)) in
      ap P within
      ∙ ap₂ (λ x y. ltb x 5 && not (eqb (bit cal.holidays y) 1)) day place
      ∙ ap (λ x. ltb ((w + k) % 7) 5 && not (eqb (bit x k) 1)) (sym h-is)

  open_bit : (k : ℕ) → k < d → bit open_days k ≡ cond (is_working cal (suc k)) 1 0
  open_bit k lt =
      let shifted : bit (weekdays / 2 ^ w) k ≡ cond (ltb ((w + k) % 7) 5) 1 0 = ap (λ n. n % 2) (shr-shr weekdays w k) ∙ weekday_bit (w + k) (omega (arith, weekday_by_sevens (first_in cal))) in
      bit_both (weekdays / 2 ^ w) (2 ^ 64 - 1 - h) k
      ∙ ap₂ min shifted (bit_not h k h_fits (omega arith))
      ∙ both (ltb ((w + k) % 7) 5) (bit h k) (bit_below h k)
      ∙ ap (λ b. cond b 1 0) (sym (working_is k lt))

  pub mask_bits : (bit_and open_days ((1 * 2 ^ d) % 2 ^ 64 - 1) < 2 ^ length_in cal)
      × ((k : ℕ) → k < length_in cal → bit_and open_days ((1 * 2 ^ d) % 2 ^ 64 - 1) / 2 ^ k % 2 ≡ cond (is_working cal (suc k)) 1 0)
  mask_bits = (
    rw cut (subst (λ n. open_days % 2 ^ d < 2 ^ n) d-is (mod-lt open_days (pow_pos d))),
    λ k lt. let below : k < d = omega arith in ap (λ n. bit n k) cut ∙ bit_cut open_days d k below ∙ open_bit k below,
  )

pub count_working : (cal : Calendar) (m : ℕ) → m < 2 ^ length_in cal → ((k : ℕ) → k < length_in cal → m / 2 ^ k % 2 ≡ cond (is_working cal (suc k)) 1 0) → ones m ≡ working_in cal
count_working cal m fits bits =
    ones_count (working_up_to cal) (λ k. cond (is_working cal (suc k)) 1 0) refl (λ n. refl) m (length_in cal) fits bits
