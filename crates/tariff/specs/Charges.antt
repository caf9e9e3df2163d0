-- The charge types, their numbers as debits and as credits.
use Rattle.std.specs.Prelude.{ℕ, Bool, ◌==◌}
use Rattle.tariff.specs.declared.charge.Charge.{Charge}
use Rattle.tariff.specs.declared.charge.Charge.TheVariants.{Network, Line, Transformation}

abbrev pub charge_number : Charge → ℕ
charge_number Network = 650
charge_number Line = 651
charge_number Transformation = 652

abbrev pub credit_number : Charge → ℕ
credit_number Network = 600
credit_number Line = 601
credit_number Transformation = 602

abbrev pub same_charge : Charge → Charge → Bool
same_charge a b = charge_number a == charge_number b
