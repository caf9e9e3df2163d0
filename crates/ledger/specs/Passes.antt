-- What the passes of an issue have still to do, and what they leave.
use Rattle.std.specs.Prelude.{ℕ, ◌+◌, min, Bool, cond, List, [], ◌++◌, length, take, drop, Some, None, Option, nat_le}
use Rattle.std.specs.List.{flat_map}
use Rattle.tariff.specs.declared.statement.Statement.{Statement}
use Rattle.ledger.specs.declared.line.Line.{Line}
use Rattle.ledger.specs.declared.line.Account.{Account}
use Rattle.ledger.specs.Lines.{every, small}
use Rattle.ledger.specs.Dues.{DueFacts}
use Rattle.ledger.specs.Issues.{accounts_from, entry_for}

-- the accounts of a due that come at a place or later; the place past the last line is that of the account on record
abbrev pub accounts_left : DueFacts → List Line → ℕ → List Account
accounts_left d lines place = cond (nat_le place (length lines)) (accounts_from d (take place lines) (drop place lines)) []

-- and their lines
abbrev pub lines_left : Statement → List Line → DueFacts → ℕ → List Line
lines_left s lines d place = flat_map (entry_for s lines d) (accounts_left d lines place)

abbrev pub small_line : Line → Bool
small_line l = small l.cents

-- a count after some more lines: none if one is too large, and not past 100,001, which is more than there can be room for
abbrev pub counted : ℕ → List Line → Option ℕ
counted n new = cond (every small_line new) (Some (min (n + length new) 100001)) None

-- memory with some lines written at a place
abbrev pub written : List Line → ℕ → List Line → List Line
written memory at new = take at memory ++ (new ++ drop (at + length new) memory)
