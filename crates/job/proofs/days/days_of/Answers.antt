use Rattle.std.proofs.Common.{sym, ◌∙◌}
use Rattle.std.proofs.lemmas.Bool.{cond-false}
use Rattle.text.specs.Format.{parts}
use Rattle.job.specs.Days.{ranges_of}
use Rattle.job.proofs.Masking.{marks_mask}
use Rattle.job.proofs.days.days_of.Goals as goal

pub returns : goal.returns
returns c = marks_mask c.day_mask.result (ranges_of (parts 44 c.args.text.now)) c.day_mask.ensures ∙ sym (cond-false _ _ _ (sym c.if-is_empty.ensures))
