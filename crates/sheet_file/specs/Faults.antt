-- A fault as the next layer up tells it.
use Rattle.tariff.specs.declared.refusal.Refusal.{Refusal}
use Rattle.tariff.specs.declared.refusal.Refusal.TheVariants as refusal
use Rattle.sheet_file.specs.declared.faults.ValueFault.{ValueFault}
use Rattle.sheet_file.specs.declared.faults.LineFault.{LineFault}
use Rattle.sheet_file.specs.declared.faults.LineFault.TheVariants.{NotTwentySixValues, Malformed}
use Rattle.sheet_file.specs.declared.faults.FileFault.{FileFault}
use Rattle.sheet_file.specs.declared.faults.FileFault.TheVariants as file

abbrev pub line_fault : ValueFault → LineFault
line_fault v = Malformed v

abbrev pub file_fault : LineFault → FileFault
file_fault (NotTwentySixValues n) = file.NotTwentySixValues n
file_fault (Malformed v) = file.Malformed v.spot.place v.spot.line

-- 20 for a line that has not 26 values, 21 for a malformed value
abbrev pub refusal_of_fault : FileFault → Refusal
refusal_of_fault (file.NotTwentySixValues line) = refusal.NotTwentySixValues line
refusal_of_fault (file.Malformed place line) = refusal.MalformedValue place line
