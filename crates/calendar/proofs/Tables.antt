-- Rules of tables, each shown by one test that is computed at every entry.
use Rattle.std.proofs.Common.{◌≡◌, ℕ, zero, suc, ◌+◌, ◌-◌, ◌*◌, ◌/◌, ◌<◌, ◌≤◌, Bool, true, false, cond, ◌&&◌, eqb, ltb, sym, refl, subst, ⊎_elim, arith}
use Rattle.std.proofs.lemmas.Bool.Decides.{Decides-eqb, Decides-ltb, Decides-below_and}
use Rattle.std.proofs.lemmas.Bool.{cases_eq}
use Rattle.calendar.specs.Dates.{is_leap, length_of, days_in, days_of, days_before_year, month_start}

abbrev pub all_below : (ℕ → Bool) → ℕ → Bool
all_below f zero = true
all_below f (suc n) = f n && all_below f n

pub same_below : (f g : ℕ → ℕ) (n : ℕ) → all_below (λ k. eqb (f k) (g k)) n ≡ true → (k : ℕ) → k < n → f k ≡ g k
same_below f g n =
    (Decides-below_and (λ k. eqb (f k) (g k)) (λ k. f k ≡ g k) (all_below (λ k. eqb (f k) (g k))) (λ k. Decides-eqb (f k) (g k)) refl (λ _. refl) n).0

pub bound_below : (f : ℕ → ℕ) (m n : ℕ) → all_below (λ k. ltb (f k) m) n ≡ true → (k : ℕ) → k < n → f k < m
bound_below f m n =
    (Decides-below_and (λ k. ltb (f k) m) (λ k. f k < m) (all_below (λ k. ltb (f k) m)) (λ k. Decides-ltb (f k) m) refl (λ _. refl) n).0

pub years_before : (n : ℕ) → n < 100 → 365 * n + (n + 3) / 4 ≡ days_before_year n
years_before = same_below (λ n. 365 * n + (n + 3) / 4) days_before_year 100 refl

-- the days up to the end of month m
year_below : (leap : Bool) (m : ℕ) → m < 13 → days_of leap (m - 1) + length_of leap m < cond leap 367 366
year_below true = bound_below (λ m. days_of true (m - 1) + length_of true m) 367 13 refl
year_below false = bound_below (λ m. days_of false (m - 1) + length_of false m) 366 13 refl

leap_or_not : (leap : Bool) → cond leap 367 366 ≤ 367
leap_or_not true = omega arith
leap_or_not false = omega arith

pub months_below : (leap : Bool) (m : ℕ) → m < 13 → days_of leap (m - 1) + length_of leap m < 367
months_below leap m h = omega (arith, year_below leap m h, leap_or_not leap)

-- the last day of the last month has number 36_524
pub month_ends : (y m : ℕ) → 2000 ≤ y → y ≤ 2099 → m ≤ 12 → month_start y m + days_in y m ≤ 36525
month_ends y m low high h = ⊎_elim at_last before_last (cases_eq y 2099)
  where
    lt : m < 13
    lt = omega arith

    years : 365 * (y - 2000) + (y - 2000 + 3) / 4 ≡ days_before_year (y - 2000)
    years = years_before (y - 2000) (omega arith)

    before_last : (y ≡ 2099 → ⊥) → month_start y m + days_in y m ≤ 36525
    before_last ne = omega (arith, years, months_below (is_leap y) m lt)

    at_last : y ≡ 2099 → month_start y m + days_in y m ≤ 36525
    at_last e = let P : ℕ → Type 0 = λ x. month_start x m + days_in x m ≤ 36525 in subst P (sym e) (omega (arith, year_below false m lt))
