use Rattle.std.proofs.Common.{◌∙◌, sym, arith}
use Rattle.calendar.proofs.Picked.{marks_same, day_marked, day_unmarked}
use Rattle.calendar.proofs.marks.mask_of.Goals as goal
use Rattle.calendar.proofs.marks.mask_of.Goals.{then-picks_day, else-picks_day}

pub loop-day-preserved : goal.loop-day-preserved
loop-day-preserved g c = record {
  days = omega arith;
  marks =
      elim c.if-picks_day.branch [
        | then-picks_day w ↦ rw w.mask-is (day_marked _ (omega arith) (omega arith) (omega arith) c.loop-day.invariant.marks (sym w.if-picks_day.true ∙ c.picks_day.ensures))
        | else-picks_day w ↦ rw w.mask-is (day_unmarked _ (omega arith) (omega arith) (omega arith) c.loop-day.invariant.marks (sym w.if-picks_day.false ∙ c.picks_day.ensures))
      ];
}

pub returns : goal.returns
returns g c = marks_same _ _ (omega arith) c.loop-day.invariant.marks

pub returns-after-picks_day : goal.returns-after-picks_day
returns-after-picks_day g c =
    elim c.if-picks_day.branch [
      | then-picks_day w ↦ rw w.mask-is (day_marked _ (omega arith) (omega arith) (omega arith) c.loop-day.invariant.marks (sym w.if-picks_day.true ∙ c.picks_day.ensures))
      | else-picks_day w ↦ rw w.mask-is (day_unmarked _ (omega arith) (omega arith) (omega arith) c.loop-day.invariant.marks (sym w.if-picks_day.false ∙ c.picks_day.ensures))
    ]
