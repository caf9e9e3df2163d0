use Rattle.std.proofs.Common.{◌≡◌, ◌+◌, ◌*◌, ◌≤◌, length, drop}
use Rattle.std.specs.List.{flat_map}
use Rattle.listing.specs.Rows.{line_text}
use Rattle.listing.proofs.listing.texts_length.Given as goal

abbrev pub invariant-loop-line : goal.invariant-loop-line
invariant-loop-line l =
    (l.sum + length (flat_map line_text (drop l.line-index l.lines)) ≡ length (flat_map line_text l.lines))
    × (l.sum ≤ 256 * l.line-index)
