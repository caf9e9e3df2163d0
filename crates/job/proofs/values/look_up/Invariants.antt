use Rattle.std.proofs.Common.{◌≡◌, drop, map}
use Rattle.job.specs.Values.{look_up}
use Rattle.job.proofs.values.look_up.Given as goal

abbrev pub invariant-loop-name : goal.invariant-loop-name
invariant-loop-name g l = look_up (map (λ e. (e.0.now, e.1)) (drop l.name-index l.table)) l.text ≡ look_up (map (λ e. (e.0.now, e.1)) l.table) l.text
