-- The delivery points of a month.
use Rattle.std.specs.Prelude.{ℕ, ◌+◌, ◌-◌, Bool, true, false, cond, not, ◌&&◌, ◌||◌, List, ◌++◌, length, Some, None, Ok, Err, Option, Result, ◌==◌, nat_lt, slice_index_or}
use Rattle.std.specs.Option.{option_to_list}
use Rattle.tariff.specs.declared.charge.Charge.{Charge}
use Rattle.tariff.specs.declared.charge.Charge.TheVariants as charge
use Rattle.tariff.specs.declared.points.Declaration.{Declaration}
use Rattle.tariff.specs.declared.points.PointKind.{PointKind}
use Rattle.tariff.specs.declared.points.PointKind.TheVariants.{Network, Connection}
use Rattle.tariff.specs.declared.points.PointList.{PointList}
use Rattle.tariff.specs.declared.refusal.Refusal.{Refusal}
use Rattle.tariff.specs.declared.refusal.Refusal.TheVariants.{NotAPointKind, TooManyPoints}
use Rattle.tariff.specs.Ranges.{within}
use Rattle.fixed_list.specs.Lists.{items_of}

abbrev pub is_network : PointKind → Bool
is_network Network = true
is_network (Connection line transformation) = false

-- whether a point of the kind has the charge
abbrev pub has : PointKind → Charge → Bool
has Network charge.Network = true
has Network charge.Line = false
has Network charge.Transformation = false
has (Connection line transformation) charge.Network = false
has (Connection line transformation) charge.Line = line
has (Connection line transformation) charge.Transformation = transformation

-- the letter N (78) without marks, or C (67) with one or two
abbrev pub kind_from : ℕ → Bool → Bool → Option PointKind
kind_from letter line transformation =
    cond (letter == 78 && (not line && not transformation)) (Some Network)
    (cond (letter == 67 && (line || transformation)) (Some (Connection line transformation)) None)

-- the kind of a point as it is declared
abbrev pub kind_declared : Declaration → Option PointKind
kind_declared d = kind_from d.letter d.line d.transformation

-- the points declared so far, in their order
abbrev pub kinds_of : PointList → List PointKind
kinds_of l = items_of l.kinds

-- what the point p, counted from 1, is
abbrev pub kind_at : List PointKind → ℕ → Option PointKind
kind_at kinds p = cond (within (length kinds) p) (Some (slice_index_or kinds (p - 1) Network)) None

abbrev pub numbered : ℕ → Option PointKind → Result ℕ Refusal
numbered n None = Err NotAPointKind
numbered n (Some kind) = Ok (n + 1)

-- the number of one more point, after n
abbrev pub declared : ℕ → Option PointKind → Result ℕ Refusal
declared n kind = cond (nat_lt n 400) (numbered n kind) (Err TooManyPoints)

-- the points after that: one more at the end, or as they were
abbrev pub with_point : Result ℕ Refusal → Option PointKind → List PointKind → List PointKind
with_point (Ok n) kind kinds = kinds ++ option_to_list kind
with_point (Err e) kind kinds = kinds
