use Rattle.std.proofs.Common.{sym, subst}
use Rattle.dues.proofs.Soundness.{points_in, month_in}
use Rattle.month.specs.States.{state_of}
use Rattle.month.specs.Laws.{MonthLaws}
use Rattle.month.proofs.Runs.{laws_hold}
use Rattle.month.proofs.Stepping.{run_more, run_all}
use Rattle.month.proofs.month.OpenMonth.run.Goals as goal

pub loop-noted-preserved : goal.loop-noted-preserved
loop-noted-preserved g c =
    let state = state_of g.S.Readings.meaning g.H.HourRule.admits in
    run_more (state c.args.self.now) (state c.loop-noted.self) (state c.take.new.self) c.args.journal.now c.loop-noted.journal c.loop-noted.noted-index _ c.take.result
    c.loop-noted-test.true c.loop-noted.invariant.0 c.loop-noted.invariant.1 c.take.ensures.answers c.take.ensures.leaves

pub returns : goal.returns
returns g c =
    let state = state_of g.S.Readings.meaning g.H.HourRule.admits in
    let ran = run_all (state c.args.self.now) (state c.loop-noted.self) c.args.journal.now c.loop-noted.journal c.loop-noted.noted-index c.loop-noted-test.false c.loop-noted.invariant.0 c.loop-noted.invariant.1 in
    let s = state c.args.self.now in
    let setup = c.args.self.now.setup in
    record {
      state = ran.0;
      outcomes = ran.1;
      laws = λ bare. subst (MonthLaws s) (sym ran.1) (laws_hold s (points_in setup.points) (month_in setup.calendar) bare c.args.journal.now);
    }
