use Rattle.std.proofs.Common.{◌≡◌, []}
use Rattle.tariff.specs.Points.{kinds_of}
use Rattle.text.specs.Format.{parts}
use Rattle.text.specs.Parting.{left_in}
use Rattle.job.specs.Points.{points_from}
use Rattle.job.proofs.point_list.point_list.Given as goal

abbrev pub invariant-loop-part : goal.invariant-loop-part
invariant-loop-part l = points_from (kinds_of l.points) (left_in l.part-iterator) ≡ points_from [] (parts 44 l.list)
