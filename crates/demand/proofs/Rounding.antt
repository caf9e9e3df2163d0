-- A charge is the nearest cent, and small enough for a ledger line.
use Rattle.std.proofs.Common.{ℕ, ◌*◌, ◌≤◌, arith}
use Rattle.std.proofs.lemmas.Nat.{mul-le}
use Rattle.demand.specs.Charges.{charge_of, Nearest}

module _ (determinant rate : ℕ) (d_small : determinant ≤ 9999999900) (r_small : rate ≤ 10000000) where
  pub product_small : determinant * rate ≤ 9999999900 * 10000000
  product_small = mul-le determinant rate 9999999900 10000000 d_small r_small

  pub charge_nearest : Nearest determinant rate (charge_of determinant rate)
  charge_nearest = record { not_above = omega arith; not_below = omega arith; small = omega (arith, product_small) }
