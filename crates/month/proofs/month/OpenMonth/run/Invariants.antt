use Rattle.std.proofs.Common.{◌≡◌, ◌++◌, take, drop}
use Rattle.month.specs.States.{state_of}
use Rattle.month.specs.Journals.{after, answered}
use Rattle.month.proofs.month.OpenMonth.run.Given as goal

abbrev pub invariant-loop-noted : goal.invariant-loop-noted
invariant-loop-noted g l =
    let state = state_of g.S.Readings.meaning g.H.HourRule.admits in
    (state l.self ≡ after (state l.initial.self) (take l.noted-index l.initial.journal))
    × (l.journal ≡ answered (state l.initial.self) (take l.noted-index l.initial.journal) ++ drop l.noted-index l.initial.journal)
