use Rattle.std.proofs.Common.{◌≡◌, ◌≤◌, min, drop}
use Rattle.std.specs.Str.{all_ascii_digits}
use Rattle.text.specs.Format.{read_on}
use Rattle.job.proofs.numbers.whole.Given as goal

abbrev pub invariant-loop-b : goal.invariant-loop-b
invariant-loop-b l =
    (all_ascii_digits (drop l.b-index l.text) ≡ all_ascii_digits l.text)
    × (min (read_on l.n (drop l.b-index l.text)) 4294967295 ≡ min (read_on 0 l.text) 4294967295)
    × (l.n ≤ 4294967295)
