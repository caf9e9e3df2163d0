-- A mask that marks just some days is the number that those days make.
use Rattle.std.proofs.Common.{◌≡◌, ℕ, zero, suc, ◌+◌, ◌-◌, ◌*◌, ◌%◌, ◌^◌, ◌<◌, ◌≤◌, Bool, cond, eqb, List, Some, None, Option, sym, ap, ◌∙◌, mod-eq_of_lt, one-add, arith, MatchOption}
use native.Mathlib.Nat.{mod-one}
use Rattle.std.proofs.lemmas.Nat.{mod-pow-add}
use Rattle.std.specs.Option.{option_map}
use Rattle.calendar.specs.Marks.{MarksJust}
use Rattle.calendar.proofs.Masks.{bit, bit_below}
use Rattle.job.specs.declared.days.DayRange.{DayRange}
use Rattle.job.specs.Days.{named, Marks}
use Rattle.job.specs.Masks.{mask_to}

bit_worth : (b w : ℕ) → b < 2 → b * w ≡ cond (eqb b 1) w 0
bit_worth zero w h = omega arith
bit_worth (suc zero) w h = omega arith
bit_worth (suc (suc b)) w h = absurd (omega arith)

module _ (n mask : ℕ) (picked : ℕ → Bool) (marks : MarksJust n picked mask) where
  day_worth : (k : ℕ) → suc k ≤ n → bit mask k * 2 ^ k ≡ cond (picked (suc k)) (2 ^ k) 0
  day_worth k h =
      let place : suc k - 1 ≡ k = omega arith in
      bit_worth (bit mask k) (2 ^ k) (bit_below mask k)
      ∙ ap (λ j. cond (eqb (bit mask j) 1) (2 ^ k) 0) (sym place)
      ∙ ap (λ b. cond b (2 ^ k) 0) (marks.days (suc k) (omega arith) h)

  first_days : (k : ℕ) → k ≤ n → mask % 2 ^ k ≡ mask_to k picked
  unfolding mask_to
  first_days zero h = mod-one mask
  first_days (suc k) h =
      let split : mask % 2 ^ suc k ≡ bit mask k * 2 ^ k + mask % 2 ^ k = ap (λ e. mask % 2 ^ e) (sym (one-add k)) ∙ mod-pow-add mask 1 k in
      omega (arith, split, day_worth k h, first_days k (omega arith))

  just_mask : mask ≡ mask_to n picked
  just_mask = sym (mod-eq_of_lt marks.fits) ∙ first_days n (omega arith)

pub marks_mask : (r : Option ℕ) (o : Option (List DayRange)) → MatchOption r (o ≡ None) (Marks o) → r ≡ option_map (λ rs. mask_to 32 (named rs)) o
marks_mask None o e = sym (ap (option_map (λ rs. mask_to 32 (named rs))) e)
marks_mask (Some mask) None bad = absurd bad
marks_mask (Some mask) (Some rs) marks = ap Some (just_mask 32 mask (named rs) marks)
