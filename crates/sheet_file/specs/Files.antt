-- What a file says, line by line.
use Rattle.std.specs.Prelude.{ℕ, List, Result, map}
use Rattle.std.specs.Result.{result_map_both}
use Rattle.tariff.specs.declared.reading.Sheet.{Sheet}
use Rattle.text.specs.Numbered.{numbered, lines_in}
use Rattle.sheet_file.specs.Values.{values}
use Rattle.sheet_file.specs.Sheets.{sheet_of, file_fault_at}
use Rattle.sheet_file.specs.declared.faults.FileFault.{FileFault}
use Rattle.sheet_file.specs.declared.file.SheetReader.{SheetReader}

-- what reading line n gives
abbrev pub outcome : ℕ → List ℕ → Result Sheet FileFault
outcome n text = result_map_both (λ sheet. sheet) (file_fault_at n) (sheet_of (values text))

-- what reading the lines after the n-th gives
abbrev pub outcomes : ℕ → List (List ℕ) → List (Result Sheet FileFault)
outcomes n ls = map (λ l. outcome l.0 l.1) (numbered n ls)

-- what a reader has yet to give
abbrev pub left_of : SheetReader → List (Result Sheet FileFault)
left_of r = map (λ l. outcome l.0 l.1) (lines_in r.lines)
