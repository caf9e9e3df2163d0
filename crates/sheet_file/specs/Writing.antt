-- The text of a sheet.
use Rattle.std.specs.Prelude.{◌≡◌, ℕ, ◌+◌, List, [], ◌∷◌, ◌++◌, take, Ok, Err, decimal, Result}
use Rattle.std.specs.List.{flat_map}
use Rattle.std.specs.Option.{ok_or}
use Rattle.std.specs.Result.{result_ok}
use Rattle.tariff.specs.Sheets.{judged}
use Rattle.tariff.specs.declared.reading.Reading.{Reading}
use Rattle.tariff.specs.declared.reading.Reading.TheVariants.{Withdrawal, Injection}
use Rattle.tariff.specs.declared.reading.Sheet.{Sheet}
use Rattle.tariff.specs.declared.refusal.Refusal.{Refusal}
use Rattle.tariff.specs.declared.refusal.Refusal.TheVariants.{TextTooShort}
use Rattle.text.specs.Format.{lines}
use Rattle.text.specs.Texts.{fitting, overlay}
use Rattle.sheet_file.specs.Sheets.{and_then}
use Rattle.sheet_file.specs.Files.{outcomes}

abbrev pub reading_text : Reading → List ℕ
reading_text (Withdrawal q) = 87 ∷ decimal q
reading_text (Injection q) = 73 ∷ decimal q

-- a bar before each reading
abbrev pub hours_text : List Reading → List ℕ
hours_text rs = flat_map (λ r. 124 ∷ reading_text r) rs

-- the line without its end
abbrev pub sheet_text : Sheet → List ℕ
sheet_text s = (decimal s.point ++ 124 ∷ decimal s.day) ++ hours_text s.readings

abbrev pub sheet_line : Sheet → List ℕ
sheet_line s = sheet_text s ++ 10 ∷ []

-- the length of the line of a sheet that may be taken, where there is room for it
abbrev pub written : Sheet → ℕ → Result ℕ Refusal
written s room = and_then (judged 400 31 s) (λ _. ok_or (fitting (sheet_line s) room) TextTooShort)

-- the line, and then what stood there; a refusal changes nothing
abbrev pub memory_after : Result ℕ Refusal → Sheet → List ℕ → List ℕ
memory_after r s out = overlay (result_ok r) (sheet_line s) out

-- what was written, before any other lines, is read as the sheet
abbrev pub ReadsBack : Result ℕ Refusal → Sheet → List ℕ → Type 0
ReadsBack (Ok n) s out = (line : ℕ) (rest : List ℕ) → outcomes line (lines (take n out ++ rest)) ≡ Ok s ∷ outcomes (line + 1) (lines rest)
ReadsBack (Err e) s out = Unit {0}
