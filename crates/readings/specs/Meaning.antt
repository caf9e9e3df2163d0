-- What readings mean, whatever holds them.
use Rattle.std.specs.Prelude.{◌≡◌, ℕ, ◌-◌, true, cond, ◌&&◌, List, length, is_ok, Some, None, Option, Result, ◌==◌, slice_index_or}
use Rattle.std.specs.List.{AllByRecursion}
use Rattle.tariff.specs.declared.reading.Reading.{Reading}
use Rattle.tariff.specs.declared.reading.Reading.TheVariants.{Withdrawal}
use Rattle.tariff.specs.declared.reading.Sheet.{Sheet}
use Rattle.tariff.specs.declared.refusal.Refusal.{Refusal}
use Rattle.tariff.specs.Ranges.{within}
use Rattle.tariff.specs.Readings.{Allowed}
use Rattle.tariff.specs.Sheets.{judged}

-- for each point and day, both counted from 1, no sheet or the 24 readings of one
abbrev pub Sheets : Type 0
Sheets = ℕ → ℕ → Option (List Reading)

pub record Meaning : Type 0 where
  pub points : ℕ
  pub days : ℕ
  pub sheets : Sheets

-- what holds of each sheet
pub record Proper (m : Meaning) (p d : ℕ) (rs : List Reading) : Type 0 where
  pub point : within m.points p ≡ true
  pub day : within m.days d ≡ true
  pub full : length rs ≡ 24
  pub limited : AllByRecursion Allowed rs

abbrev pub Sound : Meaning → Type 0
Sound m = (p d : ℕ) (rs : List Reading) → m.sheets p d ≡ Some rs → Proper m p d rs

abbrev pub no_sheets : ℕ → ℕ → Meaning
no_sheets points days = record { points = points; days = days; sheets = λ p d. None }

-- the reading of the hour h, one of 1 to 24
abbrev pub hour_of : Option (List Reading) → ℕ → Option Reading
hour_of None h = None
hour_of (Some rs) h = cond (within 24 h) (Some (slice_index_or rs (h - 1) (Withdrawal 0))) None

abbrev pub reading_at : Meaning → ℕ → ℕ → ℕ → Option Reading
reading_at m p d h = hour_of (m.sheets p d) h

-- m, but with a sheet at its place
abbrev pub posted : Meaning → Sheet → Meaning
posted m s = record {
  points = m.points;
  days = m.days;
  sheets = λ p d. cond (p == s.point && d == s.day) (Some s.readings) (m.sheets p d);
}

-- whether a sheet may be posted
abbrev pub verdict : Meaning → Sheet → Result (Unit {0}) Refusal
verdict m s = judged m.points m.days s

-- what is meant after that: as before where the sheet is refused
abbrev pub after_post : Meaning → Sheet → Meaning
after_post m s = cond (is_ok (verdict m s)) (posted m s) m
