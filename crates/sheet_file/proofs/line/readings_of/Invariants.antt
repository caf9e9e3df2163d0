use Rattle.std.proofs.Common.{◌≡◌, ◌+◌, length, take}
use Rattle.std.specs.Iterator.Adapters.{enumerate_count, enumerate_source}
use Rattle.text.specs.Parting.{left_in}
use Rattle.sheet_file.specs.Values.{values}
use Rattle.sheet_file.specs.Sheets.{readings_from}
use Rattle.sheet_file.proofs.Hours.{ahead}
use Rattle.sheet_file.proofs.line.readings_of.Given as goal

abbrev pub invariant-loop-hour : goal.invariant-loop-hour
invariant-loop-hour l =
    let i = enumerate_count l.hour-iterator in
    let left = left_in (enumerate_source l.hour-iterator) in
    (goal.iterator-loop-hour).can_next l.hour-iterator
    × (goal.iterator-loop-hour).is_finite l.hour-iterator
    × (readings_from 3 (values l.hours) ≡ ahead (take i l.readings) (readings_from (i + 3) left))
    × (i + length left ≡ 24)
    × (length l.readings ≡ 24)
