-- Sheets as rows, in the order in which they came.
use Rattle.std.specs.Prelude.{ℕ, suc, Bool, true, cond, not, ◌&&◌, List, [], ◌∷◌, length, is_some, Some, None, Option, ◌==◌}
use Rattle.tariff.specs.declared.reading.Reading.{Reading}
use Rattle.tariff.specs.declared.reading.Sheet.{Sheet}
use Rattle.tariff.specs.Readings.{too_large}
use Rattle.tariff.specs.Ranges.{within}
use Rattle.readings.specs.Meaning.{Meaning}
use Rattle.stores.specs.declared.row_store.Row.{Row}

abbrev pub matches : ℕ → ℕ → Row → Bool
matches p d x = p == x.point && d == x.day

-- the readings of the first row of a place
abbrev pub sheet_in : ℕ → ℕ → List Row → Option (List Reading)
sheet_in p d [] = None
sheet_in p d (x ∷ xs) = cond (matches p d x) (Some x.readings) (sheet_in p d xs)

-- where that row stands: past the end where there is none
abbrev pub place_of : ℕ → ℕ → List Row → ℕ
place_of p d [] = 0
place_of p d (x ∷ xs) = cond (matches p d x) 0 (suc (place_of p d xs))

-- a sheet as a row
abbrev pub row_of : Sheet → Row
row_of s = record { point = s.point; day = s.day; readings = s.readings }

abbrev pub row_ok : ℕ → ℕ → Row → Bool
row_ok n days x = within n x.point && (within days x.day && (length x.readings == 24 && not (is_some (too_large 1 x.readings))))

-- each row may be stored, and no two are of one place
abbrev pub rows_ok : ℕ → ℕ → List Row → Bool
rows_ok n days [] = true
rows_ok n days (x ∷ xs) = row_ok n days x && (not (is_some (sheet_in x.point x.day xs)) && rows_ok n days xs)

abbrev pub of_rows : ℕ → ℕ → List Row → Meaning
of_rows n days xs = record { points = n; days = days; sheets = λ p d. sheet_in p d xs }
