-- What the values of a line say.
use Rattle.std.specs.Prelude.{ℕ, ◌+◌, cond, List, [], ◌∷◌, length, drop, Ok, Err, Result, ◌==◌, slice_index_or}
use Rattle.std.specs.Option.{ok_or}
use Rattle.tariff.specs.declared.reading.Reading.{Reading}
use Rattle.tariff.specs.declared.reading.Sheet.{Sheet}
use Rattle.text.specs.Format.{number_of}
use Rattle.sheet_file.specs.Values.{reading_of}
use Rattle.sheet_file.specs.declared.faults.FileFault.{FileFault}
use Rattle.sheet_file.specs.declared.faults.FileFault.TheVariants as file
use Rattle.sheet_file.specs.declared.faults.LineFault.{LineFault}
use Rattle.sheet_file.specs.declared.faults.LineFault.TheVariants.{NotTwentySixValues, Malformed}
use Rattle.sheet_file.specs.declared.faults.ValueFault.{ValueFault}

-- where the first is given, the second of it
abbrev pub and_then : {X Y E : Type 0} → Result X E → (X → Result Y E) → Result Y E
and_then (Ok x) f = f x
and_then (Err e) f = Err e

-- the readings of the values that stand from place p on, or the first place at which there is none
abbrev pub readings_from : ℕ → List (List ℕ) → Result (List Reading) ℕ
readings_from p [] = Ok []
readings_from p (v ∷ vs) =
    and_then (ok_or (reading_of v) p) (λ r.
    and_then (readings_from (p + 1) vs) (λ rs.
    Ok (r ∷ rs)))

-- the sheet of 26 values, or the first place at which one is malformed
abbrev pub sheet_from : List (List ℕ) → Result Sheet ℕ
sheet_from vs =
    and_then (ok_or (number_of 9 (slice_index_or vs 0 [])) 1) (λ point.
    and_then (ok_or (number_of 2 (slice_index_or vs 1 [])) 2) (λ day.
    and_then (readings_from 3 (drop 2 vs)) (λ readings.
    Ok (record { point = point; day = day; readings = readings }))))

-- the same of any values: place 0 where there are not 26
abbrev pub sheet_of : List (List ℕ) → Result Sheet ℕ
sheet_of vs = cond (length vs == 26) (sheet_from vs) (Err 0)

-- the fault at place p of line n, as each layer tells it
abbrev pub value_fault_at : ℕ → ℕ → ValueFault
value_fault_at n p = record { spot = record { line = n; place = p } }

abbrev pub line_fault_at : ℕ → ℕ → LineFault
line_fault_at n p = cond (p == 0) (NotTwentySixValues n) (Malformed (value_fault_at n p))

abbrev pub file_fault_at : ℕ → ℕ → FileFault
file_fault_at n p = cond (p == 0) (file.NotTwentySixValues n) (file.Malformed p n)
