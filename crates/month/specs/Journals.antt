-- A journal, taken in order: each call meets what all before it left. Only the calls of a journal count, not its outcomes.
use Rattle.std.specs.Prelude.{List, [], ◌∷◌, Some}
use Rattle.month.specs.declared.calls.JournalEntry.{JournalEntry}
use Rattle.month.specs.States.{State}
use Rattle.month.specs.Answers.{answer, next}

abbrev pub after : State → List JournalEntry → State
after s [] = s
after s (e ∷ es) = after (next s e.call) es

abbrev pub answered : State → List JournalEntry → List JournalEntry
answered s [] = []
answered s (e ∷ es) = record { call = e.call; outcome = Some (answer s e.call) } ∷ answered (next s e.call) es
