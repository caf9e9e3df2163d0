-- What a reading says, and which readings may be taken.
use Rattle.std.specs.Prelude.{ℕ, ◌+◌, ◌≤◌, cond, List, [], ◌∷◌, Some, None, Option, nat_le}
use Rattle.tariff.specs.declared.reading.Reading.{Reading}
use Rattle.tariff.specs.declared.reading.Reading.TheVariants.{Withdrawal, Injection}

abbrev pub quantity_of : Reading → ℕ
quantity_of (Withdrawal q) = q
quantity_of (Injection q) = q

-- what a point draws by a reading
abbrev pub demand_of : Reading → ℕ
demand_of (Withdrawal q) = q
demand_of (Injection q) = 0

abbrev pub Allowed : Reading → Type 0
Allowed r = quantity_of r ≤ 99999999

-- the first hour, counted from h, whose quantity is above the limit
abbrev pub too_large : ℕ → List Reading → Option ℕ
too_large h [] = None
too_large h (r ∷ rs) = cond (nat_le (quantity_of r) 99999999) (too_large (h + 1) rs) (Some h)
