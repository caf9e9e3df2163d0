use Rattle.std.proofs.Common.{arith}
use Rattle.calendar.specs.Calendars.{length_in, first_in}
use Rattle.records.specs.Histories.{shelf_of}
use Rattle.hours.specs.Services.{serves_on}
use Rattle.hours.proofs.Serving.{marks_admit}
use Rattle.hours.proofs.service.days.service_days.Goals as goal

pub returns : goal.returns
returns c =
    let cal = c.args.calendar.now in
    record {
      span = c.days-days.ensures.0;
      admits =
          marks_admit (serves_on (shelf_of c.args.history.now) c.args.point) (length_in cal) c.days-days.result (first_in cal) c.mask_of.result (omega arith) c.days-days.ensures.0
          c.mask_of.ensures;
    }
