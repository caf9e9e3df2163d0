-- Marks on the days of a month, and when a month's calendar is refused.
use Rattle.std.specs.Prelude.{◌≡◌, ℕ, ◌-◌, ◌/◌, ◌%◌, ◌^◌, ◌<◌, ◌≤◌, Bool, false, cond, ◌&&◌, Some, None, Decides, Option, ◌==◌, nat_lt}
use Rattle.tariff.specs.declared.refusal.Refusal.{Refusal}
use Rattle.tariff.specs.declared.refusal.Refusal.TheVariants.{NoSuchMonth, MarkOutsideMonth}
use Rattle.tariff.specs.Ranges.{between, within}
use Rattle.calendar.specs.Dates.{days_in}

-- day d is marked: its bit is set, where bit 0 stands for day 1
abbrev pub marked : ℕ → ℕ → Bool
marked mask d = mask / 2 ^ (d - 1) % 2 == 1

-- the mask has no bit past the n-th
abbrev pub fits_in : ℕ → ℕ → Bool
fits_in mask n = nat_lt mask (2 ^ n)

abbrev pub is_month : ℕ → ℕ → Bool
is_month y m = between 2000 2099 y && within 12 m

-- why the calendar of a month is not made
abbrev pub refusal_of : ℕ → ℕ → ℕ → ℕ → Option Refusal
refusal_of y m holidays summer =
    cond (is_month y m)
    (cond (fits_in holidays (days_in y m) && fits_in summer (days_in y m)) None (Some MarkOutsideMonth))
    (Some NoSuchMonth)

-- no mark stands on a day after the n-th: what `fits_in` tests
abbrev pub NoMarkAfter : ℕ → ℕ → Type 0
NoMarkAfter mask n = (d : ℕ) → n < d → marked mask d ≡ false

abbrev pub FitsMeansNoMark : ℕ → ℕ → Type 0
FitsMeansNoMark mask n = Decides (fits_in mask n) (NoMarkAfter mask n)

-- a mask of n days that marks just those which a test picks
pub record MarksJust (n : ℕ) (picked : ℕ → Bool) (mask : ℕ) : Type 0 where
  pub fits : mask < 2 ^ n
  pub days : (d : ℕ) → 1 ≤ d → d ≤ n → marked mask d ≡ picked d
