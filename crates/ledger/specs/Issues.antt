-- The lines that a statement adds to a ledger, and what they achieve.
use Rattle.std.specs.Prelude.{◌≡◌, Bool, true, false, cond, not, ◌&&◌, List, [], ◌∷◌, ◌++◌, ℤ, pos, negsuc, ◌-ℤ◌, ◌==◌, nat_eq}
use Rattle.std.specs.List.{flat_map}
use Rattle.tariff.specs.declared.statement.Statement.{Statement}
use Rattle.tariff.specs.Charges.{same_charge}
use Rattle.ledger.specs.declared.line.Line.{Line}
use Rattle.ledger.specs.declared.line.Account.{Account}
use Rattle.ledger.specs.declared.due.Terms.{Terms}
use Rattle.ledger.specs.Lines.{account_of, any, same_party}
use Rattle.ledger.specs.Dues.{DueFacts}
use Rattle.ledger.specs.Sums.{on_account, total_of}

-- whether an account is one of the due's point and charge
abbrev pub covers : DueFacts → Account → Bool
covers d a = d.account.point == a.point && same_charge d.account.charge a.charge

-- whether both its parties are the ones on record
abbrev pub is_on_record : DueFacts → Account → Bool
is_on_record d a = same_party d.account.customer a.customer && same_party d.account.transmitter a.transmitter

abbrev pub only_if : Bool → Account → List Account
only_if wanted a = cond wanted (a ∷ []) []

-- whether an account of the due has no line before
abbrev pub opens : DueFacts → List Line → Account → Bool
opens d before a = covers d a && not (any (on_account a) before)

-- The accounts of a due: those that its lines open, in order, then the one on record if no line has it.
-- `before` are the lines already passed.
abbrev pub accounts_from : DueFacts → List Line → List Line → List Account
accounts_from d before [] = only_if (not (any (on_account d.account) before)) d.account
accounts_from d before (l ∷ ls) = only_if (opens d before (account_of l)) (account_of l) ++ accounts_from d (before ++ l ∷ []) ls

-- what an account is due: all if it is on record, else nothing
abbrev pub terms_of : DueFacts → Account → Terms
terms_of d a =
    let r : Bool = is_on_record d a in
    record { cents = cond r d.cents (pos 0); quantity = cond r d.quantity 0; day = cond r d.day 0; hour = cond r d.hour 0 }

-- what it is due less its total
abbrev pub increment : List Line → DueFacts → Account → ℤ
increment lines d a = (terms_of d a).cents -ℤ total_of a lines

abbrev pub is_zero : ℤ → Bool
is_zero z = elim z [ pos n ↦ nat_eq n 0 | negsuc n ↦ false ]

abbrev pub entry_line : Statement → List Line → DueFacts → Account → Line
entry_line s lines d a =
    record {
      statement = s;
      point = a.point;
      charge = a.charge;
      customer = a.customer;
      transmitter = a.transmitter;
      cents = increment lines d a;
      quantity = (terms_of d a).quantity;
      day = (terms_of d a).day;
      hour = (terms_of d a).hour;
    }

-- one line, or none where the increment is zero
abbrev pub entry_for : Statement → List Line → DueFacts → Account → List Line
entry_for s lines d a = cond (is_zero (increment lines d a)) [] (entry_line s lines d a ∷ [])

abbrev pub due_lines : Statement → List Line → DueFacts → List Line
due_lines s lines d = flat_map (entry_for s lines d) (accounts_from d [] lines)

abbrev pub statement_lines : Statement → List Line → List DueFacts → List Line
statement_lines s lines dues = flat_map (due_lines s lines) dues

-- no two dues are for one point and charge
abbrev pub same_item : DueFacts → DueFacts → Bool
same_item d e = covers e d.account

abbrev pub distinct : List DueFacts → Bool
distinct [] = true
distinct (d ∷ ds) = not (any (same_item d) ds) && distinct ds

-- each account of a due has what it is due, and every account of none what it had
abbrev pub Settled : List Line → DueFacts → Type 0
Settled lines d = (a : Account) → covers d a ≡ true → total_of a lines ≡ cond (is_on_record d a) d.cents (pos 0)

abbrev pub Unmoved : List DueFacts → List Line → List Line → Type 0
Unmoved dues lines after = (a : Account) → any (λ d. covers d a) dues ≡ false → total_of a after ≡ total_of a lines
