use Rattle.std.proofs.Common.{◌≡◌, ◌+◌, drop}
use Rattle.tariff.specs.Readings.{too_large}
use Rattle.tariff.proofs.reading.first_too_large.Given as goal

abbrev pub invariant-loop-i : goal.invariant-loop-i
invariant-loop-i l = too_large (l.i + 1) (drop l.i l.readings) ≡ too_large 1 l.readings
