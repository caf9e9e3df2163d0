use Rattle.std.proofs.Common.{◌≡◌, ◌^◌, ◌<◌, drop}
use Rattle.std.specs.Str.{all_ascii_digits}
use Rattle.text.specs.Format.{read_on}
use Rattle.text.proofs.digits.number.Given as goal

abbrev pub invariant-loop-b : goal.invariant-loop-b
invariant-loop-b l =
    (l.n < 10 ^ l.b-index)
    × (all_ascii_digits (drop l.b-index l.text) ≡ all_ascii_digits l.text)
    × (read_on l.n (drop l.b-index l.text) ≡ read_on 0 l.text)
