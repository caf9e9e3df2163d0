-- Readings as numbers, and a table of them.
use Rattle.std.specs.Prelude.{ℕ, ◌+◌, ◌-◌, ◌*◌, ◌%◌, cond, ◌&&◌, List, ◌++◌, map, take, drop, Some, None, Option, ◌==◌, nat_lt, slice_index}
use Rattle.tariff.specs.declared.reading.Reading.{Reading}
use Rattle.tariff.specs.declared.reading.Reading.TheVariants.{Withdrawal, Injection}
use Rattle.tariff.specs.Ranges.{within}
use Rattle.readings.specs.Meaning.{Meaning}

abbrev pub encoded : Reading → ℕ
encoded (Withdrawal q) = q
encoded (Injection q) = q + 100000000

-- Every number is read as a reading within the limit.
abbrev pub decoded : ℕ → Reading
decoded w = cond (nat_lt w 100000000) (Withdrawal w) (Injection (w % 100000000))

-- how many sheets stand before that of the point p and the day d
abbrev pub sheets_before : ℕ → ℕ → ℕ → ℕ
sheets_before days p d = (p - 1) * days + (d - 1)

-- where the numbers of a day begin
abbrev pub offset : ℕ → ℕ → ℕ → ℕ
offset days p d = sheets_before days p d * 24

-- the sheet at an offset: none where its first number is the mark of a missing reading
abbrev pub day_at : List ℕ → ℕ → Option (List Reading)
day_at ws o = cond (slice_index ws o == 4294967295) None (Some (map decoded (take 24 (drop o ws))))

abbrev pub table : ℕ → ℕ → List ℕ → Meaning
table n days ws = record {
  points = n;
  days = days;
  sheets = λ p d. cond (within n p && within days d) (day_at ws (offset days p d)) None;
}

-- ws, but with a day's readings at an offset
abbrev pub with_day : List ℕ → ℕ → List Reading → List ℕ
with_day ws o rs = take o ws ++ (map encoded rs ++ drop (o + 24) ws)
