use Rattle.std.proofs.Common.{◌≡◌, length}
use Rattle.records.specs.Books.{latest}
use Rattle.records.proofs.entries.latest_of.Given as goal

abbrev pub invariant-loop-rest : goal.invariant-loop-rest
invariant-loop-rest g l = latest l.rest l.subject l.day ≡ latest l.entries l.subject l.day

abbrev pub decreases-loop-rest : goal.decreases-loop-rest
decreases-loop-rest g l = length l.rest
