-- Which sheets may be taken.
use Rattle.std.specs.Prelude.{ℕ, cond, Some, None, Ok, Err, Option, Result}
use Rattle.tariff.specs.declared.reading.Sheet.{Sheet}
use Rattle.tariff.specs.declared.refusal.Refusal.{Refusal}
use Rattle.tariff.specs.declared.refusal.Refusal.TheVariants.{UnknownPoint, UnknownDay, QuantityTooLarge}
use Rattle.tariff.specs.Ranges.{within}
use Rattle.tariff.specs.Readings.{too_large}

abbrev pub quantities_judged : Option ℕ → Result (Unit {0}) Refusal
quantities_judged None = Ok tt
quantities_judged (Some h) = Err (QuantityTooLarge h)

-- whether a sheet may be taken where there are so many points and days: its point, then its day, then its hours in order
abbrev pub judged : ℕ → ℕ → Sheet → Result (Unit {0}) Refusal
judged points days s =
    cond (within points s.point)
    (cond (within days s.day) (quantities_judged (too_large 1 s.readings)) (Err UnknownDay))
    (Err UnknownPoint)
