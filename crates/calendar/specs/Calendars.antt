-- What a month's calendar says of its days.
use Rattle.std.specs.Prelude.{◌≡◌, ℕ, zero, suc, ◌+◌, ◌-◌, Bool, cond, not, ◌&&◌, nat_lt}
use Rattle.calendar.specs.declared.month.Calendar.{Calendar}
use Rattle.calendar.specs.Dates.{days_in, month_start, weekday_of}
use Rattle.tariff.specs.Ranges.{within}
use Rattle.calendar.specs.Marks.{marked}

abbrev pub Holds : Calendar → ℕ → ℕ → ℕ → ℕ → Type 0
Holds c y m h s = (c.year ≡ y) × (c.month ≡ m) × (c.holidays ≡ h) × (c.summer ≡ s)

abbrev pub length_in : Calendar → ℕ
length_in c = days_in c.year c.month

-- the day number of the month's first day
abbrev pub first_in : Calendar → ℕ
first_in c = month_start c.year c.month

-- the day number of its last day
abbrev pub last_in : Calendar → ℕ
last_in c = first_in c + length_in c - 1

abbrev pub has_day : Calendar → ℕ → Bool
has_day c d = within (length_in c) d

-- a day from Monday to Friday that is not marked as a holiday
abbrev pub is_working : Calendar → ℕ → Bool
is_working c d = has_day c d && (nat_lt (weekday_of (first_in c + (d - 1))) 5 && not (marked c.holidays d))

abbrev pub is_summer : Calendar → ℕ → Bool
is_summer c d = has_day c d && marked c.summer d

-- how many of the first n days are working days
abbrev pub working_up_to : Calendar → ℕ → ℕ
working_up_to c zero = 0
working_up_to c (suc n) = working_up_to c n + cond (is_working c (suc n)) 1 0

abbrev pub working_in : Calendar → ℕ
working_in c = working_up_to c (length_in c)
