-- The Gregorian calendar from 2000 on: leap years, months, day numbers and weekdays.
use Rattle.std.specs.Prelude.{ℕ, zero, suc, ◌+◌, ◌-◌, ◌%◌, Bool, cond, not, ◌&&◌, ◌||◌, Some, None, Option, ◌==◌}
use Rattle.tariff.specs.Ranges.{between, within}

-- every fourth year, but of the full centuries only every fourth
abbrev pub is_leap : ℕ → Bool
is_leap y = (y % 4 == 0 && not (y % 100 == 0)) || y % 400 == 0

-- April, June, September and November
abbrev pub is_short : ℕ → Bool
is_short m = m == 4 || (m == 6 || (m == 9 || m == 11))

abbrev pub length_of : Bool → ℕ → ℕ
length_of leap m = cond (m == 2) (cond leap 29 28) (cond (is_short m) 30 31)

abbrev pub days_in : ℕ → ℕ → ℕ
days_in y m = length_of (is_leap y) m

-- the days of the first k months of a year
abbrev pub days_of : Bool → ℕ → ℕ
days_of leap zero = 0
days_of leap (suc k) = days_of leap k + length_of leap (suc k)

abbrev pub days_before_month : ℕ → ℕ → ℕ
days_before_month y k = days_of (is_leap y) k

-- the days of the first n years from 2000 on
abbrev pub days_before_year : ℕ → ℕ
days_before_year zero = 0
days_before_year (suc n) = days_before_year n + days_before_month (2000 + n) 12

-- the day number of the first of month m in year y: the days that passed since 1 January 2000
abbrev pub month_start : ℕ → ℕ → ℕ
month_start y m = days_before_year (y - 2000) + days_before_month y (m - 1)

-- year y has a month m, and that has a day d
abbrev pub is_date : ℕ → ℕ → ℕ → Bool
is_date y m d = within 12 m && within (days_in y m) d

-- the day number of a date of the years 2000 to 2099
abbrev pub number_on : ℕ → ℕ → ℕ → Option ℕ
number_on y m d = cond (between 2000 2099 y && is_date y m d) (Some (month_start y m + (d - 1))) None

-- Monday is 0 and Sunday 6. 1 January 2000, day number 0, is a Saturday, and each day has the weekday after that of the day before.
unfoldable pub weekday_of : ℕ → ℕ
weekday_of zero = 5
weekday_of (suc n) = (weekday_of n + 1) % 7
