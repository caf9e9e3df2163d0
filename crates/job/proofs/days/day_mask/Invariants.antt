use Rattle.text.specs.Format.{parts}
use Rattle.text.specs.Parting.{left_in}
use Rattle.job.proofs.Naming.{SoFar}
use Rattle.job.proofs.days.day_mask.Given as goal

abbrev pub invariant-loop-part : goal.invariant-loop-part
invariant-loop-part l = SoFar (parts 44 l.list) (left_in l.part-iterator) l.mask
