-- Sums of cents over lines.
use Rattle.std.specs.Prelude.{Bool, cond, ◌&&◌, List, [], ◌∷◌, ℤ, pos, ◌+ℤ◌}
use Rattle.tariff.specs.declared.charge.Charge.{Charge}
use Rattle.tariff.specs.declared.parties.PartyNumber.{PartyNumber}
use Rattle.tariff.specs.declared.statement.Statement.{Statement}
use Rattle.tariff.specs.Charges.{same_charge}
use Rattle.tariff.specs.Statements.{same_statement}
use Rattle.ledger.specs.declared.line.Line.{Line}
use Rattle.ledger.specs.declared.line.Account.{Account}
use Rattle.ledger.specs.Lines.{account_of, same_account, same_party}

-- over the lines that pass a test
abbrev pub cents_of : (Line → Bool) → List Line → ℤ
cents_of p [] = pos 0
cents_of p (l ∷ ls) = cond (p l) l.cents (pos 0) +ℤ cents_of p ls

abbrev pub on_account : Account → Line → Bool
on_account a l = same_account (account_of l) a

abbrev pub total_of : Account → List Line → ℤ
total_of a lines = cents_of (on_account a) lines

-- over a statement's lines for one charge: the credit of a transmitter, and the debit of a customer
abbrev pub stated : Statement → Charge → Line → Bool
stated s c l = same_statement l.statement s && same_charge l.charge c

abbrev pub credited : Statement → Charge → PartyNumber → Line → Bool
credited s c t l = stated s c l && same_party l.transmitter t

abbrev pub debited : Statement → Charge → PartyNumber → Line → Bool
debited s c k l = stated s c l && same_party l.customer k

abbrev pub credit_of : Statement → Charge → PartyNumber → List Line → ℤ
credit_of s c t lines = cents_of (credited s c t) lines

abbrev pub debit_of : Statement → Charge → PartyNumber → List Line → ℤ
debit_of s c k lines = cents_of (debited s c k) lines
