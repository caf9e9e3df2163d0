-- The credits of all transmitters are the debits of all customers.
use Rattle.std.specs.Prelude.{◌≡◌, ℕ, zero, suc, List, ℤ, pos, ◌+ℤ◌}
use Rattle.tariff.specs.declared.charge.Charge.{Charge}
use Rattle.tariff.specs.declared.statement.Statement.{Statement}
use Rattle.ledger.specs.declared.line.Line.{Line}
use Rattle.ledger.specs.Sums.{credit_of, debit_of}

-- f 1 + f 2 + .. + f n; shut, so that nothing counts up to a numeral n
unfoldable pub sum_to : ℕ → (ℕ → ℤ) → ℤ
sum_to zero f = pos 0
sum_to (suc n) f = f (suc n) +ℤ sum_to n f

-- over all party numbers, for every statement and charge
abbrev pub Balanced : List Line → Type 0
Balanced lines =
    (s : Statement) (c : Charge)
    → sum_to 999999999 (λ t. credit_of s c (record { number = t }) lines)
    ≡ sum_to 999999999 (λ k. debit_of s c (record { number = k }) lines)
