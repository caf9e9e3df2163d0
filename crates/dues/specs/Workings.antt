-- The facts of a month, from what its workings borrow.
use Rattle.std.specs.Prelude.{ℕ, Bool}
use Rattle.tariff.specs.Points.{kinds_of}
use Rattle.calendar.specs.Calendars.{length_in, first_in}
use Rattle.readings.specs.Meaning.{Meaning}
use Rattle.records.specs.Histories.{shelf_of}
use Rattle.dues.specs.declared.histories.Histories.{Histories}
use Rattle.dues.specs.declared.histories.MonthHistories.{MonthHistories}
use Rattle.dues.specs.declared.workings.Workings.{Workings}
use Rattle.dues.specs.Records.{Records}
use Rattle.dues.specs.Facts.{Facts, facts_by}

-- the histories that a month keeps
abbrev pub records_in : MonthHistories → Records
records_in h = record {
  customers = shelf_of h.customers;
  transmitters = shelf_of h.transmitters;
  service = shelf_of h.service;
  rates = shelf_of h.rates;
}

-- histories that are read
abbrev pub records_of : Histories → Records
records_of h = record {
  customers = shelf_of h.customers.now;
  transmitters = shelf_of h.transmitters.now;
  service = shelf_of h.service.now;
  rates = shelf_of h.rates.now;
}

abbrev pub facts_for : {R H : Type 0} → (R → Meaning) → (H → ℕ → ℕ → Bool) → Workings R H → Facts
facts_for meaning admits w =
    facts_by (kinds_of w.points.now) (length_in w.calendar.now) (first_in w.calendar.now)
    (meaning w.readings.now).sheets (admits w.peak_period.now) (records_of w.histories)
