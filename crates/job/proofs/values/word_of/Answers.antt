use Rattle.std.proofs.Common.{◌∙◌}
use Rattle.job.proofs.Tables.{word_found}
use Rattle.job.proofs.values.word_of.Goals as goal

pub returns : goal.returns
returns c = c.look_up.ensures ∙ word_found c.args.text.now
