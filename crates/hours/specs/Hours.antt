-- The hours of a month, and those that a rule admits.
use Rattle.std.specs.Prelude.{◌≡◌, ℕ, ◌+◌, ◌-◌, ◌≤◌, Bool, true, false, cond, ◌&&◌}
use Rattle.std.proofs.Common.{arith}
use Rattle.std.proofs.lemmas.Bool.{and_parts}
use Rattle.tariff.specs.Ranges.{between, within, between_parts}
use Rattle.calendar.specs.declared.month.Calendar.{Calendar}
use Rattle.calendar.specs.Calendars.{length_in, has_day, is_working, is_summer}

-- day d and hour h are in a month of so many days
abbrev pub Inside : ℕ → ℕ → ℕ → Type 0
Inside days d h = ((1 ≤ d) × (d ≤ days)) × ((1 ≤ h) × (h ≤ 24))

-- every hour of a month of so many days
abbrev pub in_month : ℕ → ℕ → ℕ → Bool
in_month days d h = within days d && within 24 h

-- on working days, the hours 8 to 19, and 7 to 18 on summer days
abbrev pub in_peak : Calendar → ℕ → ℕ → Bool
in_peak c d h = is_working c d && cond (is_summer c d) (between 7 18 h) (between 8 19 h)

-- every hour of the days with service, in a month of so many days from the day number `first` on
abbrev pub is_in_service : ℕ → ℕ → (ℕ → Bool) → ℕ → ℕ → Bool
is_in_service days first served d h = in_month days d h && served (first + (d - 1))

-- ---- none admits an hour outside the month

pub month_within : (days d h : ℕ) → in_month days d h ≡ true → Inside days d h
month_within days d h e = let p = and_parts (within days d) _ e in (between_parts 1 days d p.0, between_parts 1 24 h p.1)

either_hours : (summer : Bool) (h : ℕ) → cond summer (between 7 18 h) (between 8 19 h) ≡ true → (1 ≤ h) × (h ≤ 24)
either_hours true h e = let p = between_parts 7 18 h e in (omega arith, omega arith)
either_hours false h e = let p = between_parts 8 19 h e in (omega arith, omega arith)

pub peak_within : (c : Calendar) (d h : ℕ) → in_peak c d h ≡ true → Inside (length_in c) d h
peak_within c d h e =
    let p = and_parts (is_working c d) _ e in
    (between_parts 1 (length_in c) d (and_parts (has_day c d) _ p.0).0, either_hours (is_summer c d) h p.1)
