-- The month that arguments make.
use Rattle.std.specs.Prelude.{ℕ, Bool, cond, ◌&&◌, List, [], length, Some, None, Ok, Err, Option, Result, ◌==◌, slice_index}
use Rattle.std.specs.Result.{result_map_both}
use Rattle.tariff.specs.declared.points.PointKind.{PointKind}
use Rattle.tariff.specs.declared.refusal.Refusal.{Refusal}
use Rattle.tariff.specs.Points.{kinds_of}
use Rattle.calendar.specs.declared.month.Calendar.{Calendar as MonthCalendar}
use Rattle.calendar.specs.Marks.{refusal_of}
use Rattle.text.specs.Format.{parts}
use Rattle.job.specs.Masks.{days_of}
use Rattle.job.specs.Numbers.{whole_of}
use Rattle.job.specs.Points.{points_from}
use Rattle.desk.specs.declared.arguments.Asked.{Asked}
use Rattle.desk.specs.declared.arguments.BadArgument.{BadArgument}
use Rattle.desk.specs.declared.arguments.BadArgument.TheVariants.{Year, Month, Holidays, Summer, Calendar, Point}

-- year, month, and the marks for holidays and summer days
pub record Numbers : Type 0 where
  pub year : ℕ
  pub month : ℕ
  pub holidays : ℕ
  pub summer : ℕ

abbrev pub numbers_in : MonthCalendar → Numbers
numbers_in c = record { year = c.year; month = c.month; holidays = c.holidays; summer = c.summer }

abbrev pub month_in : Asked → Numbers × List PointKind
month_in a = (numbers_in a.calendar, kinds_of a.points)

abbrev pub is_hyphen : List ℕ → Bool
is_hyphen text = length text == 1 && slice_index text 0 == 45

-- a hyphen (45) stands for an empty list
abbrev pub unless_hyphen : List ℕ → List ℕ
unless_hyphen text = cond (is_hyphen text) [] text

-- an empty text is no list of days
abbrev pub days_asked : List ℕ → Option ℕ
days_asked text = cond (length text == 0) None (days_of (unless_hyphen text))

abbrev pub points_asked : List ℕ → Result (List PointKind) BadArgument
points_asked text = cond (is_hyphen text) (Ok []) (result_map_both (λ kinds. kinds) Point (points_from [] (parts 44 text)))

-- what follows from a value that is there
abbrev pub given : {X Y : Type 0} → Option X → BadArgument → (X → Result Y BadArgument) → Result Y BadArgument
given None fault f = Err fault
given (Some x) fault f = f x

-- a month that there is, and marks on its days only
abbrev pub unless_refused : Option Refusal → Numbers → Result Numbers BadArgument
unless_refused None n = Ok n
unless_refused (Some e) n = Err (Calendar e)

abbrev pub calendar_asked : List ℕ → List ℕ → List ℕ → List ℕ → Result Numbers BadArgument
calendar_asked a b c d =
    given (whole_of a) Year (λ y. given (whole_of b) Month (λ m. given (days_asked c) Holidays (λ h. given (days_asked d) Summer (λ s.
    unless_refused (refusal_of y m h s) (record { year = y; month = m; holidays = h; summer = s })))))

abbrev pub with_points : Numbers → Result (List PointKind) BadArgument → Result (Numbers × List PointKind) BadArgument
with_points n (Ok kinds) = Ok (n, kinds)
with_points n (Err fault) = Err fault

-- the calendar, then the points
abbrev pub month_of : Result Numbers BadArgument → Result (List PointKind) BadArgument → Result (Numbers × List PointKind) BadArgument
month_of (Ok n) points = with_points n points
month_of (Err fault) points = Err fault

abbrev pub month_asked : List ℕ → List ℕ → List ℕ → List ℕ → List ℕ → Result (Numbers × List PointKind) BadArgument
month_asked y m h s p = month_of (calendar_asked y m h s) (points_asked p)
