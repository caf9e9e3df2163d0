use Rattle.std.proofs.Common.{ap, sym, ◌∙◌, rules}
use Rattle.ledger.specs.Passes.{written}
use Rattle.ledger.proofs.Writing.{written_nil, written_turn}
use Rattle.ledger.proofs.new_lines.walk.write_lines.Goals as goal

pub loop-at-preserved : goal.loop-at-preserved
loop-at-preserved c =
    let turn = c.in-Some.ensures.steps in (
      search rules,
      search rules,
      written_turn c.loop-at.room c.loop-at.at-iterator.count _ _ _ _ _ turn.0 turn.1 turn.2 (search rules) ∙ c.loop-at.invariant.2,
      search rules,
    )

pub returns : goal.returns
returns c =
    sym (written_nil c.loop-at.room c.loop-at.at-iterator.count)
    ∙ ap (written c.loop-at.room c.loop-at.at-iterator.count) (sym c.in-None.ensures.steps.0.0) ∙ c.loop-at.invariant.2
