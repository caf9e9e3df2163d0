-- Whether there is memory for a month of sheets, and what a new store holds.
use Rattle.std.specs.Prelude.{ℕ, cond, ◌&&◌, is_ok, Ok, Err, Result, nat_le}
use Rattle.tariff.specs.declared.refusal.Refusal.{Refusal}
use Rattle.tariff.specs.declared.refusal.Refusal.TheVariants.{StoreDoesNotFit}
use Rattle.tariff.specs.Ranges.{between}
use Rattle.readings.specs.Meaning.{Meaning, no_sheets}

-- at most 400 points, 28 to 31 days, and as much memory as they need
abbrev pub room_judged : ℕ → ℕ → ℕ → ℕ → Result (Unit {0}) Refusal
room_judged points days need len =
    cond (nat_le points 400 && (between 28 31 days && nat_le need len)) (Ok tt) (Err StoreDoesNotFit)

-- no sheet; of no points and no days where there is no room
abbrev pub newly_made : ℕ → ℕ → ℕ → ℕ → Meaning
newly_made points days need len = cond (is_ok (room_judged points days need len)) (no_sheets points days) (no_sheets 0 0)
