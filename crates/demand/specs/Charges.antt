-- Determinants, in ten-thousandths of a kW, and charges, in cents.
use Rattle.std.specs.Prelude.{ℕ, ◌+◌, ◌*◌, ◌/◌, ◌<◌, ◌≤◌, cond, ◌&&◌, Some, None, Option, nat_le}
use Rattle.demand.specs.Peaks.{Triple}

-- 100 × C at the system peak if that is no less than 85 × Q, otherwise 85 × Q at Q's own day and hour
abbrev pub network_of : Triple → ℕ → Triple → Triple
network_of system C own =
    cond {A = Triple} (nat_le (85 * own.0) (100 * C)) (100 * C, system.1, system.2) (85 * own.0, own.1, own.2)

-- 100 × the greatest demand, at its day and hour
abbrev pub connection_of : Triple → Triple
connection_of own = (100 * own.0, own.1, own.2)

-- a determinant at a rate in hundred-thousandths of a dollar per kW
abbrev pub charge_of : ℕ → ℕ → ℕ
charge_of determinant rate = (determinant * rate + 5_000_000) / 10_000_000

-- what is charged, where determinant and rate are within their limits
abbrev pub charged : ℕ → ℕ → Option ℕ
charged determinant rate = cond (nat_le determinant 9_999_999_900 && nat_le rate 10_000_000) (Some (charge_of determinant rate)) None

-- what that means: the nearest cent, the upper one of two equally near, and no more than a ledger line takes
pub record Nearest (determinant rate cents : ℕ) : Type 0 where
  pub not_above : 10_000_000 * cents ≤ determinant * rate + 5_000_000
  pub not_below : determinant * rate < 10_000_000 * cents + 5_000_000
  pub small : cents ≤ 9_999_999_900
