-- The greatest quantity over the admitted hours of a month's first n days, with its day and its hour.
use Rattle.std.specs.Prelude.{◌≡◌, ℕ, zero, suc, ◌<◌, ◌≤◌, Bool, true, cond, ◌&&◌, ◌⊎◌, ◌≢◌, nat_le}
use Rattle.hours.specs.Hours.{Inside}

-- a quantity, its day and its hour
abbrev pub Triple : Type 0
Triple = ℕ × ℕ × ℕ

-- the hour in place of the best so far, where it is admitted and its quantity is no less
abbrev pub taken : Bool → ℕ → ℕ → ℕ → Triple → Triple
taken a q d h best = cond {A = Triple} (a && nat_le best.0 q) (q, d, h) best

-- the best so far and the first h hours of day d
unfoldable pub best_of_day : (ℕ → ℕ → Bool) → (ℕ → ℕ → ℕ) → Triple → ℕ → ℕ → Triple
best_of_day A q best d zero = best
best_of_day A q best d (suc h) = taken (A d (suc h)) (q d (suc h)) d (suc h) (best_of_day A q best d h)

-- days 1 to n, from (0, 0, 0) on
unfoldable pub peak_over : (ℕ → ℕ → Bool) → (ℕ → ℕ → ℕ) → ℕ → Triple
peak_over A q zero = (0, 0, 0)
peak_over A q (suc d) = best_of_day A q (peak_over A q d) (suc d) 24

-- ---- what the peak is, in its own words

-- the hour h of day d is that of day d' and hour h', or an earlier one
abbrev pub NotAfter : ℕ → ℕ → ℕ → ℕ → Type 0
NotAfter d h d' h' = (d < d') ⊎ ((d ≡ d') × (h ≤ h'))

abbrev pub NoHour : (ℕ → ℕ → Bool) → ℕ → Type 0
NoHour A n = (d h : ℕ) → Inside n d h → A d h ≢ true

-- an admitted hour with its quantity, which no admitted hour passes, and the last of those that have it
pub record PeakAt (A : ℕ → ℕ → Bool) (q : ℕ → ℕ → ℕ) (n : ℕ) (r : Triple) : Type 0 where
  pub inside : Inside n r.1 r.2
  pub admitted : A r.1 r.2 ≡ true
  pub amount : r.0 ≡ q r.1 r.2
  pub greatest : (d h : ℕ) → Inside n d h → A d h ≡ true → q d h ≤ r.0
  pub latest : (d h : ℕ) → Inside n d h → A d h ≡ true → q d h ≡ r.0 → NotAfter d h r.1 r.2

abbrev pub IsPeak : (ℕ → ℕ → Bool) → (ℕ → ℕ → ℕ) → ℕ → Triple → Type 0
IsPeak A q n r = (NoHour A n × (r ≡ (0, 0, 0))) ⊎ PeakAt A q n r

-- two months that are alike at each hour
abbrev pub Alike : ℕ → (ℕ → ℕ → Bool) → (ℕ → ℕ → ℕ) → (ℕ → ℕ → Bool) → (ℕ → ℕ → ℕ) → Type 0
Alike n A q B p = (d h : ℕ) → Inside n d h → (A d h ≡ B d h) × (q d h ≡ p d h)
