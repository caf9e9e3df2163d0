-- What the dues depend on.
use Rattle.std.specs.Prelude.{◌≡◌, ℕ, ◌+◌, ◌-◌, ◌≤◌, length}
use Rattle.hours.specs.Hours.{Inside}
use Rattle.dues.specs.Facts.{Facts, last_day}

-- two months with the same points and days, the same sheets for them, the same hours of the peak period,
-- and the same on record: the service of its days, the rest of its last day
pub record SameFacts (f g : Facts) : Type 0 where
  pub kinds : f.kinds ≡ g.kinds
  pub days : f.days ≡ g.days
  pub first : f.first ≡ g.first
  pub sheets : (p d : ℕ) → 1 ≤ p → p ≤ length f.kinds → 1 ≤ d → d ≤ f.days → f.sheets p d ≡ g.sheets p d
  pub admits : (d h : ℕ) → Inside f.days d h → f.admits d h ≡ g.admits d h
  pub customers : (p : ℕ) → 1 ≤ p → p ≤ length f.kinds → f.customer_on p (last_day f) ≡ g.customer_on p (last_day f)
  pub transmitters : (p : ℕ) → 1 ≤ p → p ≤ length f.kinds → f.transmitter_on p (last_day f) ≡ g.transmitter_on p (last_day f)
  pub service : (p d : ℕ) → 1 ≤ p → p ≤ length f.kinds → 1 ≤ d → d ≤ f.days → f.served_on p (f.first + (d - 1)) ≡ g.served_on p (f.first + (d - 1))
  pub rates : f.rates_on (last_day f) ≡ g.rates_on (last_day f)
