-- Weekdays go round by sevens.
use Rattle.std.proofs.Common.{◌≡◌, ℕ, zero, suc, ◌+◌, ◌%◌, refl, arith}
use Rattle.calendar.specs.Dates.{weekday_of}

pub weekday_by_sevens : (n : ℕ) → weekday_of n ≡ (n + 5) % 7
unfolding weekday_of
weekday_by_sevens zero = refl
weekday_by_sevens (suc n) = omega (arith, weekday_by_sevens n)
