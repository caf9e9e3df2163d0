-- Dues as plain values.
use Rattle.std.specs.Prelude.{ℕ, Bool, cond, List, map, ℤ, Some, None, Option}
use Rattle.ledger.specs.declared.due.Due.{Due}
use Rattle.ledger.specs.declared.line.Account.{Account}
use Rattle.ledger.specs.Lines.{sound_terms}

-- the account on record for a charge of a point, what is due to it, and the determinant
pub record DueFacts : Type 0 where
  pub account : Account
  pub cents : ℤ
  pub quantity : ℕ
  pub day : ℕ
  pub hour : ℕ

abbrev pub sound_due : DueFacts → Bool
sound_due d = sound_terms d.account d.cents d.quantity d.day d.hour

abbrev pub facts_of : Due → DueFacts
facts_of d = record { account = d.account; cents = d.terms.cents; quantity = d.terms.quantity; day = d.terms.day; hour = d.terms.hour }

abbrev pub all_facts : List Due → List DueFacts
all_facts dues = map facts_of dues

abbrev pub facts_if : Option Due → Option DueFacts
facts_if (Some d) = Some (facts_of d)
facts_if None = None

-- a due of these numbers, if all are in range
abbrev pub due_from : Account → ℤ → ℕ → ℕ → ℕ → Option DueFacts
due_from a cents quantity day hour =
    cond (sound_terms a cents quantity day hour)
    (Some (record { account = a; cents = cents; quantity = quantity; day = day; hour = hour }))
    None
