-- Which delivery points a list of points writes.
use Rattle.std.specs.Prelude.{ℕ, ◌+◌, Bool, true, false, cond, ◌&&◌, List, [], ◌∷◌, ◌++◌, length, Some, None, Ok, Err, Option, Result, ◌==◌}
use Rattle.std.specs.Option.{option_to_list}
use Rattle.tariff.specs.declared.points.PointKind.{PointKind}
use Rattle.tariff.specs.declared.refusal.Refusal.{Refusal}
use Rattle.tariff.specs.Points.{kind_from, declared}
use Rattle.job.specs.declared.point_list.PointFault.{PointFault}

-- the marks for line and transformation: L (76), T (84) or LT, or none
abbrev pub marks_of : List ℕ → Option (Bool × Bool)
marks_of [] = Some (false, false)
marks_of (a ∷ []) = cond (a == 76) (Some (true, false)) (cond (a == 84) (Some (false, true)) None)
marks_of (a ∷ b ∷ []) = cond (a == 76 && b == 84) (Some (true, true)) None
marks_of (a ∷ b ∷ c ∷ cs) = None

abbrev pub kind_marked : ℕ → Option (Bool × Bool) → Option PointKind
kind_marked letter None = None
kind_marked letter (Some marks) = kind_from letter marks.0 marks.1

-- a letter, and then marks
abbrev pub point_kind : List ℕ → Option PointKind
point_kind [] = None
point_kind (letter ∷ others) = kind_marked letter (marks_of others)

abbrev pub fault : ℕ → Refusal → PointFault
fault n e = record { number = n; refusal = e }

-- r, unless a point of a number is refused
abbrev pub unless_refused : Result ℕ Refusal → ℕ → Result (List PointKind) PointFault → Result (List PointKind) PointFault
unless_refused (Ok n) number r = r
unless_refused (Err e) number r = Err (fault number e)

-- the points so far and those of the parts, or the number of the first that is refused, and why
abbrev pub points_from : List PointKind → List (List ℕ) → Result (List PointKind) PointFault
points_from kinds [] = Ok kinds
points_from kinds (p ∷ ps) =
    unless_refused (declared (length kinds) (point_kind p)) (length kinds + 1) (points_from (kinds ++ option_to_list (point_kind p)) ps)
