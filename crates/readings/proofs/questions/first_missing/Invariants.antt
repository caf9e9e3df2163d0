use Rattle.std.proofs.Common.{◌≡◌, None}
use Rattle.readings.specs.Missing.{first_of, no_sheet}
use Rattle.readings.proofs.questions.first_missing.Given as goal

abbrev pub invariant-loop-k : goal.invariant-loop-k
invariant-loop-k g l = first_of (λ p. first_of (no_sheet (g.R.Readings.meaning l.readings).sheets p) l.days) l.k ≡ None
