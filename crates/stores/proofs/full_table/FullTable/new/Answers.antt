use Rattle.std.proofs.Common.{length, is_ok, sym, ap, ◌∙◌}
use Rattle.std.proofs.lemmas.Bool.{cond-true}
use Rattle.stores.proofs.Tables.{table_cleared}
use Rattle.stores.proofs.full_table.FullTable.new.Goals as goal

pub returns : goal.returns
returns c =
    let passed = ap is_ok (sym c.check.ensures) ∙ c.if-is_err.ensures.negation in
    record {
      holds = table_cleared c.args.points c.args.days (length c.args.memory.now) c.clear.new.words passed c.clear.ensures ∙ sym (cond-true _ _ _ passed);
      words = c.clear.ensures ∙ sym (cond-true _ _ _ passed);
    }
