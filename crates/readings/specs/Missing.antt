-- The first place without a sheet, by point and then by day.
use Rattle.std.specs.Prelude.{◌≡◌, ℕ, zero, suc, ◌<◌, ◌≤◌, true, cond, is_some, Some, None, Option}
use Rattle.std.specs.Option.{option_or}
use Rattle.tariff.specs.declared.refusal.Refusal.{Refusal}
use Rattle.tariff.specs.declared.refusal.Refusal.TheVariants.{SheetMissing}
use Rattle.readings.specs.Meaning.{Sheets}

-- the first that f has for the numbers 1 to n
abbrev pub first_of : {X : Type 0} → (ℕ → Option X) → ℕ → Option X
first_of f zero = None
first_of f (suc n) = option_or (first_of f n) (f (suc n))

abbrev pub no_sheet : Sheets → ℕ → ℕ → Option Refusal
no_sheet sheets p d = cond (is_some (sheets p d)) None (Some (SheetMissing p d))

abbrev pub first_missing : Sheets → ℕ → ℕ → Option Refusal
first_missing sheets points days = first_of (λ p. first_of (no_sheet sheets p) days) points

-- the point p has a sheet on each of the days 1 to n
abbrev pub Complete : Sheets → ℕ → ℕ → Type 0
Complete sheets n p = (d : ℕ) → 1 ≤ d → d ≤ n → is_some (sheets p d) ≡ true

-- the point p has no sheet on the day d, and nothing is missing before that
pub record MissingAt (sheets : Sheets) (points days p d : ℕ) : Type 0 where
  pub point : (1 ≤ p) × (p ≤ points)
  pub day : (1 ≤ d) × (d ≤ days)
  pub absent : sheets p d ≡ None
  pub earlier_points : (q : ℕ) → 1 ≤ q → q < p → Complete sheets days q
  pub earlier_days : (e : ℕ) → 1 ≤ e → e < d → is_some (sheets p e) ≡ true

-- what an answer says of the sheets of so many points and days
pub record FirstMissing (sheets : Sheets) (points days : ℕ) (r : Option Refusal) : Type 0 where
  pub complete : r ≡ None → (p : ℕ) → 1 ≤ p → p ≤ points → Complete sheets days p
  pub missing : (p d : ℕ) → r ≡ Some (SheetMissing p d) → MissingAt sheets points days p d
  pub nothing_else : (x : Refusal) → r ≡ Some x → (p : ℕ) × (d : ℕ) × (x ≡ SheetMissing p d)
