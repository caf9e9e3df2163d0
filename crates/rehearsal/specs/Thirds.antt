-- Every third hour of a month, shifted by a day's number.
use Rattle.std.specs.Prelude.{◌≡◌, ℕ, ◌+◌, ◌%◌, Bool, true, ◌&&◌, ◌==◌}
use Rattle.std.proofs.lemmas.Bool.{and_parts}
use Rattle.hours.specs.Hours.{Inside, in_month, month_within}

-- the hours of a month of so many days whose number and day together are a multiple of 3
abbrev pub in_thirds : ℕ → ℕ → ℕ → Bool
in_thirds days d h = in_month days d h && (d % 3 + h) % 3 == 0

-- none lies outside the month
pub thirds_within : (days d h : ℕ) → in_thirds days d h ≡ true → Inside days d h
thirds_within days d h e = month_within days d h (and_parts (in_month days d h) _ e).0
