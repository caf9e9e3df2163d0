use Rattle.std.proofs.Common.{ap, ◌∙◌}
use Rattle.ledger.specs.Dues.{all_facts}
use Rattle.ledger.specs.Ledgers.{shelf_of, issue_answer, issued}
use Rattle.dues.specs.Lists.{facts_in}
use Rattle.month.specs.States.{state_of}
use Rattle.month.proofs.Issues.{issue_accepted}
use Rattle.month.proofs.month.OpenMonth.issue.Goals as goal

pub returns : goal.returns
returns g c =
    let s = state_of g.S.Readings.meaning g.H.HourRule.admits c.args.self.now in
    let st = c.args.statement in
    let same = c.as_slice.ensures in
    let done = issue_accepted s st (facts_in c.in_ok-dues.dues) c.in_ok-dues.ensures c.in_ok-count.count (shelf_of c.issue.new.self)
    (c.in_ok-count.ensures.answer ∙ ap (λ l. issue_answer s.ledger st (all_facts l)) same)
    (c.in_ok-count.ensures.after ∙ ap (λ l. issued s.ledger st (all_facts l)) same) in
    record { answers = done.0; leaves = done.1 }
