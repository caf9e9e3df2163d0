-- What a store means after a file is posted to it.
use Rattle.std.specs.Prelude.{Bool, not, List, [], ◌∷◌, length, is_some, Ok, Err, Result}
use Rattle.tariff.specs.declared.reading.Sheet.{Sheet}
use Rattle.sheet_file.specs.declared.faults.FileFault.{FileFault}
use Rattle.tariff.specs.Points.{kinds_of}
use Rattle.calendar.specs.Calendars.{length_in}
use Rattle.readings.specs.Meaning.{Meaning, after_post}
use Rattle.readings.specs.Missing.{first_missing}
use Rattle.desk.specs.declared.arguments.Asked.{Asked}

-- a line that is no sheet changes nothing
abbrev pub posted_outcome : Meaning → Result Sheet FileFault → Meaning
posted_outcome m (Ok sheet) = after_post m sheet
posted_outcome m (Err fault) = m

-- every sheet in its order
abbrev pub posted_all : Meaning → List (Result Sheet FileFault) → Meaning
posted_all m [] = m
posted_all m (o ∷ os) = posted_all (posted_outcome m o) os

-- no sheet of the month is missing
abbrev pub is_complete : Asked → Meaning → Bool
is_complete a m = not (is_some (first_missing m.sheets (length (kinds_of a.points)) (length_in a.calendar)))
