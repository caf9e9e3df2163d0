use Rattle.std.proofs.lemmas.Nat.{ones-le}
use Rattle.calendar.specs.Calendars.{length_in}
use Rattle.calendar.proofs.Working.{count_working}
use Rattle.calendar.proofs.month.Calendar.working_days.Goals as goal

pub returns : goal.returns
returns c =
    let cal = c.args.self.now in
    let m = c.working_mask.result in
    let mask = c.working_mask.ensures in
    (count_working cal m mask.0 mask.1, ones-le (length_in cal) m mask.0)
