-- A ledger line as text.
use Rattle.std.specs.Prelude.{ℕ, List, [], ◌∷◌, ◌++◌, decimal}
use Rattle.std.specs.Fmt.{signed_decimal}
use Rattle.tariff.specs.Charges.{charge_number}
use Rattle.tariff.specs.Statements.{letters_of}
use Rattle.text.specs.Laws.{marked}
use Rattle.ledger.specs.declared.line.Line.{Line}

-- its values in order, in fewest digits
abbrev pub line_values : Line → List (List ℕ)
line_values l =
    letters_of l.statement
    ∷ decimal l.point
    ∷ decimal (charge_number l.charge)
    ∷ decimal l.customer.number
    ∷ decimal l.transmitter.number
    ∷ signed_decimal l.cents
    ∷ decimal l.quantity
    ∷ decimal l.day
    ∷ decimal l.hour
    ∷ []

-- the values split by `|` (124)
abbrev pub line_row : Line → List ℕ
line_row l = marked 124 (line_values l)

-- and the end of the line
abbrev pub line_text : Line → List ℕ
line_text l = line_row l ++ 10 ∷ []
