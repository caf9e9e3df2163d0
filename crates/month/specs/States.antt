-- An open month as a value.
use Rattle.std.specs.Prelude.{ℕ, Bool, List, None, Option}
use Rattle.tariff.specs.declared.points.PointKind.{PointKind}
use Rattle.tariff.specs.declared.statement.Statement.{Statement}
use Rattle.tariff.specs.Points.{kinds_of}
use Rattle.tariff.specs.Shelves.{Shelf}
use Rattle.calendar.specs.Calendars.{length_in, first_in}
use Rattle.readings.specs.Meaning.{Meaning}
use Rattle.ledger.specs.declared.line.Line.{Line}
use Rattle.ledger.specs.Ledgers.{shelf_of as ledger_shelf}
use Rattle.dues.specs.Records.{Records}
use Rattle.dues.specs.Facts.{Facts, facts_by}
use Rattle.dues.specs.Workings.{records_in}
use Rattle.month.specs.declared.setup.MonthSetup.{MonthSetup}
use Rattle.month.specs.declared.month.OpenMonth.{OpenMonth}

-- what is fixed when the month opens
pub record Setup : Type 0 where
  pub kinds : List PointKind
  pub days : ℕ
  -- the day number of the first day
  pub first : ℕ
  -- the hours of the peak period
  pub admits : ℕ → ℕ → Bool

pub record State : Type 0 where
  pub setup : Setup
  pub store : Meaning
  pub records : Records
  pub ledger : Shelf Line
  pub last : Option Statement

abbrev pub setup_of : MonthSetup → (ℕ → ℕ → Bool) → Setup
setup_of u admits = record { kinds = kinds_of u.points; days = length_in u.calendar; first = first_in u.calendar; admits = admits }

-- an open month, by what its store means and its rule admits
abbrev pub state_of : {S H : Type 0} → (S → Meaning) → (H → ℕ → ℕ → Bool) → OpenMonth S H → State
state_of meaning admits m = record {
  setup = setup_of m.setup (admits m.peak_period);
  store = meaning m.store;
  records = records_in m.histories;
  ledger = ledger_shelf m.ledger;
  last = m.last;
}

-- a month as it opens: nothing is issued
abbrev pub opened : Setup → Meaning → Records → Shelf Line → State
opened setup store records ledger = record { setup = setup; store = store; records = records; ledger = ledger; last = None }

-- all that its dues are worked out from
abbrev pub facts_at : State → Facts
facts_at s = facts_by s.setup.kinds s.setup.days s.setup.first s.store.sheets s.setup.admits s.records
