-- One line of a sheet file, posted to an open month.
use Rattle.std.specs.Prelude.{◌≡◌, List, [], ◌∷◌, Some, None, Option, Result}
use Rattle.tariff.specs.declared.reading.Sheet.{Sheet}
use Rattle.tariff.specs.declared.refusal.Refusal.{Refusal}
use Rattle.sheet_file.specs.declared.faults.FileFault.{FileFault}
use Rattle.month.specs.States.{State}
use Rattle.clerk.specs.declared.answers.Answer.{Answer}
use Rattle.clerk.specs.Calls.{sheet_call, called, moved}

-- from what a file has yet to give and a month, one line on; at the file's end nothing is answered and nothing altered
abbrev pub PostsNext : List (Result Sheet FileFault) → State → Option (Result Answer Refusal) → List (Result Sheet FileFault) → State → Type 0
PostsNext [] s r rest t = (r ≡ None) × (rest ≡ []) × (t ≡ s)
PostsNext (x ∷ xs) s r rest t = (r ≡ Some (called s (sheet_call x))) × (rest ≡ xs) × (t ≡ moved s (sheet_call x))
