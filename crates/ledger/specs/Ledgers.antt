-- A ledger as a value: lent memory of which the first lines are in use.
use Rattle.std.specs.Prelude.{ℕ, ◌+◌, min, Bool, cond, ◌&&◌, List, length, is_ok, Ok, Err, Result, nat_le}
use Rattle.tariff.specs.declared.refusal.Refusal.{Refusal}
use Rattle.tariff.specs.declared.refusal.Refusal.TheVariants.{Unsound, LedgerFull, IncrementTooLarge}
use Rattle.tariff.specs.declared.statement.Statement.{Statement}
use Rattle.tariff.specs.Shelves.{Shelf, items}
use Rattle.ledger.specs.declared.ledger.Ledger.{Ledger}
use Rattle.ledger.specs.declared.line.Line.{Line}
use Rattle.ledger.specs.Lines.{every, sound_line}
use Rattle.ledger.specs.Dues.{DueFacts}
use Rattle.ledger.specs.Issues.{statement_lines}
use Rattle.ledger.specs.Passes.{small_line, written}

abbrev pub shelf_of : Ledger → Shelf Line
shelf_of g = record { memory = g.lines.now; used = g.used }

-- no more in use than the memory has and than 100,000, and every line in use is sound
abbrev pub sound_ledger : Shelf Line → Bool
sound_ledger g = nat_le g.used (length g.memory) && nat_le g.used 100000 && every sound_line (items g)

-- an answer that only an unsound ledger refuses
abbrev pub if_sound : {X : Type 0} → Shelf Line → X → Result X Refusal
if_sound g x = cond (sound_ledger g) (Ok x) (Err Unsound)

-- the lines that an issue would write
abbrev pub new_lines : Shelf Line → Statement → List DueFacts → List Line
new_lines g s dues = statement_lines s (items g) dues

-- the answer where the lines `new` are to be written
abbrev pub room_answer : Shelf Line → List Line → Result ℕ Refusal
room_answer g new =
    cond (every small_line new)
    (cond (nat_le (g.used + length new) (min (length g.memory) 100000)) (Ok (length new)) (Err LedgerFull))
    (Err IncrementTooLarge)

abbrev pub issue_answer : Shelf Line → Statement → List DueFacts → Result ℕ Refusal
issue_answer g s dues = cond (sound_ledger g) (room_answer g (new_lines g s dues)) (Err Unsound)

-- a ledger with some lines more
abbrev pub with_lines : Shelf Line → List Line → Shelf Line
with_lines g new = record { memory = written g.memory g.used new; used = g.used + length new }

-- the ledger after an issue: as it was if it is refused
abbrev pub issued : Shelf Line → Statement → List DueFacts → Shelf Line
issued g s dues = cond (is_ok (issue_answer g s dues)) (with_lines g (new_lines g s dues)) g
