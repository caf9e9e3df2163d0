use Rattle.std.proofs.Common.{◌≡◌, ◌*◌, drop, pos, ◌+ℤ◌, ◌≤ℤ◌}
use Rattle.ledger.specs.Sums.{cents_of}
use Rattle.ledger.proofs.sound_lines.SoundLines.cents.Given as goal

-- the sum so far and what is left make the whole, and the sum grows by at most a line's cents a turn
abbrev pub invariant-loop-line : goal.invariant-loop-line
invariant-loop-line g l =
    ((l.sum +ℤ cents_of (g.S.Selects.chosen l.which) (drop l.line-index l.lines))
    ≡ cents_of (g.S.Selects.chosen l.which) l.lines)
    × (l.sum ≤ℤ pos (9999999900 * l.line-index))
    × (pos 0 ≤ℤ (l.sum +ℤ pos (9999999900 * l.line-index)))
