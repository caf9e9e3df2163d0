use Rattle.std.proofs.Common.{◌≡◌, ◌+◌, ◌++◌, length, take, drop}
use Rattle.std.specs.List.{flat_map}
use Rattle.listing.specs.Rows.{line_text}
use Rattle.listing.proofs.listing.put_lines.Given as goal

abbrev pub invariant-loop-line : goal.invariant-loop-line
invariant-loop-line l =
    (l.at + length (flat_map line_text (drop l.line-index l.lines)) ≡ l.start + length (flat_map line_text l.lines))
    × (take l.at l.out ≡ take l.start l.initial.out ++ flat_map line_text (take l.line-index l.lines))
    × (drop l.at l.out ≡ drop l.at l.initial.out)
