-- Worked values: each row is a question and its answer.
use Rattle.std.specs.Prelude.{◌≡◌, ℕ, zero, suc, ◌+◌, ◌-◌, ◌^◌, cond, ◌&&◌, List, [], ◌∷◌, None, ◌==◌}
use Rattle.std.proofs.Common.{lit≤, lit<}
use Rattle.tariff.specs.declared.reading.Reading.TheVariants.{Injection}
use Rattle.tariff.specs.Ranges.{between}
use Rattle.tariff.specs.Readings.{demand_of}
use Rattle.calendar.specs.declared.month.Calendar.{Calendar}
use Rattle.calendar.specs.Dates.{month_start, days_in, weekday_of}
use Rattle.calendar.specs.Calendars.{first_in, length_in, working_in}
use Rattle.hours.specs.Hours.{in_month, in_peak}
use Rattle.demand.specs.Peaks.{Triple, peak_over}
use Rattle.demand.specs.Charges.{network_of, charge_of}
use Rattle.demand.specs.Determinants.{system_peak_of}

-- May 2023: every day is a summer day, and Monday 22 May is a holiday
abbrev pub may : Calendar
may = record {
  year = 2023;
  month = 5;
  holidays = 2 ^ 21;
  summer = 2 ^ 31 - 1;
  ranged = ((lit≤ tt, lit≤ tt), (lit≤ tt, lit≤ tt));
  fitted = (lit< tt, lit< tt);
}

-- January 2023, without marks
abbrev pub january : Calendar
january = record {
  year = 2023;
  month = 1;
  holidays = 0;
  summer = 0;
  ranged = ((lit≤ tt, lit≤ tt), (lit≤ tt, lit≤ tt));
  fitted = (lit< tt, lit< tt);
}

-- 1 where the hour of the day is admitted
abbrev admitted : Calendar → ℕ → ℕ → ℕ
admitted c d h = cond (in_peak c d h) 1 0

-- how many of the first n hours of the day are admitted
abbrev hours_on : Calendar → ℕ → ℕ → ℕ
hours_on c d zero = 0
hours_on c d (suc n) = hours_on c d n + admitted c d (suc n)

-- five days on which the quantity is 500 at the hours 9 and 10 of day 3, and 100 elsewhere
abbrev pub two_peaks : Triple
two_peaks = peak_over (in_month 5) (λ d h. cond (d == 3 && between 9 10 h) 500 100) 5

-- a system peak on day 17 at hour 12, and an own peak on day 4 at hour 18
abbrev pub network_at : ℕ → ℕ → Triple
network_at C Q = network_of (0, 17, 12) C (Q, 4, 18)

-- a month of 31 days with no network point
abbrev pub no_network : Triple
no_network = system_peak_of [] 31 (λ p d. None)

abbrev pub rows : List (ℕ × ℕ)
rows =
    (month_start 2000 1, 0)
    ∷ (weekday_of 0, 5)
    ∷ (month_start 2023 5, 8521)
    ∷ (weekday_of 8521, 0)
    ∷ (month_start 2099 12 + days_in 2099 12 - 1, 36524)
    ∷ (first_in may, 8521)
    ∷ (length_in may, 31)
    ∷ (working_in may, 22)
    ∷ (working_in january, 22)
    ∷ (admitted may 10 6, 0)
    ∷ (admitted may 10 7, 1)
    ∷ (admitted may 10 18, 1)
    ∷ (admitted may 10 19, 0)
    ∷ (admitted january 11 7, 0)
    ∷ (admitted january 11 8, 1)
    ∷ (admitted january 11 19, 1)
    ∷ (admitted january 11 20, 0)
    ∷ (hours_on may 10 24, 12)
    ∷ (hours_on may 22 24, 0)
    ∷ (two_peaks.0, 500)
    ∷ (two_peaks.1, 3)
    ∷ (two_peaks.2, 10)
    ∷ ((network_at 85000 100000).0, 8500000)
    ∷ ((network_at 85000 100000).1, 17)
    ∷ ((network_at 85000 100000).2, 12)
    ∷ ((network_at 84999 100000).0, 8500000)
    ∷ ((network_at 84999 100000).1, 4)
    ∷ ((network_at 84999 100000).2, 18)
    ∷ (charge_of 10 500000, 1)
    ∷ (charge_of 9 500000, 0)
    ∷ (demand_of (Injection 700), 0)
    ∷ (no_network.0, 0)
    ∷ (no_network.1, 31)
    ∷ (no_network.2, 24)
    ∷ []

abbrev pub Agree : List (ℕ × ℕ) → Type 0
Agree [] = Unit {0}
Agree (row ∷ rest) = (row.0 ≡ row.1) × Agree rest

abbrev pub Worked : Type 0
Worked = Agree rows
