-- A worked month of one network point and one day, and another run of it.
use Rattle.std.specs.Prelude.{◌≡◌, ℕ, true, List, [], ◌∷◌, map, take, replicate, pos, Some, None, Ok, Option, Result}
use Rattle.tariff.specs.declared.charge.Charge.TheVariants.{Network}
use Rattle.tariff.specs.declared.parties.PartyNumber.{PartyNumber}
use Rattle.tariff.specs.declared.points.PointKind.TheVariants as kind
use Rattle.tariff.specs.declared.reading.Reading.TheVariants.{Withdrawal}
use Rattle.tariff.specs.declared.reading.Sheet.{Sheet}
use Rattle.tariff.specs.declared.refusal.Refusal.{Refusal}
use Rattle.tariff.specs.declared.statement.Statement.TheVariants.{P, F, R1}
use Rattle.tariff.specs.Shelves.{Shelf}
use Rattle.readings.specs.Meaning.{no_sheets}
use Rattle.records.specs.Entering.{dated}
use Rattle.hours.specs.Hours.{in_month}
use Rattle.ledger.specs.declared.line.Account.{Account}
use Rattle.ledger.specs.declared.line.Line.{Line}
use Rattle.ledger.specs.Ledgers.{sound_ledger}
use Rattle.ledger.specs.Sums.{total_of}
use Rattle.dues.specs.Records.{sound_records}
use Rattle.month.specs.declared.calls.Call.{Call}
use Rattle.month.specs.declared.calls.Call.TheVariants.{Post, Customer, Transmitter, Rates, Issue}
use Rattle.month.specs.declared.calls.JournalEntry.{JournalEntry}
use Rattle.month.specs.States.{State, opened}
use Rattle.month.specs.Journals.{after, answered}
use Rattle.month.specs.Laws.{Bare, Alike, SameMet, ends_in_issue, last_met, lines_after}

abbrev party : ℕ → PartyNumber
party n = record { number = n }

-- a withdrawal of the same quantity in every hour of day 1
abbrev sheet : ℕ → Sheet
sheet q = record { point = 1; day = 1; readings = replicate 24 (Withdrawal q) }

-- lent memory of so many places, none in use, with something in each
abbrev lent : {X : Type 0} → ℕ → X → Shelf X
lent n x = record { memory = replicate n x; used = 0 }

abbrev line : Line
line = record { statement = P; point = 9; charge = Network; customer = party 9; transmitter = party 9; cents = pos 9; quantity = 9; day = 9; hour = 9 }

-- 1 May 2023 as a month of one day; every hour is one of the peak period
abbrev month_with : ℕ → State
month_with places =
    opened (record { kinds = kind.Network ∷ []; days = 1; first = 8521; admits = in_month 1 })
    (no_sheets 1 1)
    (record {
      customers = lent places (dated 9 9 (party 9));
      transmitters = lent places (dated 9 9 (party 9));
      service = lent places (dated 9 9 (record { in_service = true }));
      rates = lent places (dated 9 9 (record { network = 9; line = 9; transformation = 9 }));
    })
    (lent places line)

abbrev noted_down : List Call → List JournalEntry
noted_down [] = []
noted_down (c ∷ cs) = record { call = c; outcome = None } ∷ noted_down cs

abbrev pub start : State
start = month_with 4

-- customer 41, then 43 from the last day on; the sheet is revised after F
abbrev pub journal : List JournalEntry
journal = noted_down (
    Customer 1 8500 (party 41)
    ∷ Transmitter 1 8500 (party 7)
    ∷ Rates 8500 (record { network = 500000; line = 90000; transformation = 200000 })
    ∷ Post (sheet 1000)
    ∷ Issue P
    ∷ Customer 1 8521 (party 43)
    ∷ Issue F
    ∷ Post (sheet 2000)
    ∷ Issue R1
    ∷ [])

-- another month of the same set-up, in another order and with one statement
abbrev pub other : State
other = month_with 6

abbrev pub theirs : List JournalEntry
theirs = noted_down (
    Post (sheet 2000)
    ∷ Customer 1 8521 (party 43)
    ∷ Rates 8500 (record { network = 500000; line = 90000; transformation = 200000 })
    ∷ Customer 1 8500 (party 41)
    ∷ Transmitter 1 8500 (party 7)
    ∷ Issue P
    ∷ [])

abbrev account : ℕ → Account
account customer = record { point = 1; charge = Network; customer = party customer; transmitter = party 7 }

abbrev outcomes : List JournalEntry → List (Option (Result ℕ Refusal))
outcomes j = map (λ e. e.outcome) j

pub record Worked : Type 0 where
  pub bare : Bare start
  -- P writes one line, F takes it back and charges the new owner, R1 adds what the revised sheet makes more
  pub takes : outcomes (answered start journal) ≡ map (λ n. Some (Ok n)) (0 ∷ 0 ∷ 0 ∷ 0 ∷ 1 ∷ 0 ∷ 2 ∷ 0 ∷ 1 ∷ [])
  pub first_issue : ends_in_issue (take 5 (answered start journal)) ≡ true
  pub second_issue : ends_in_issue (take 7 (answered start journal)) ≡ true
  pub third_issue : ends_in_issue (answered start journal) ≡ true
  pub charged : total_of (account 41) (lines_after start (take 5 journal)) ≡ pos 5000
  pub taken_back : total_of (account 41) (lines_after start journal) ≡ pos 0
  pub new_owner : total_of (account 43) (lines_after start journal) ≡ pos 10000
  -- histories and a ledger that are sound and not empty
  pub sound_histories : sound_records (after start journal).records ≡ true
  pub entries : (after start journal).records.customers.used ≡ 2
  pub sound_lines : sound_ledger (after start journal).ledger ≡ true
  pub lines : (after start journal).ledger.used ≡ 4
  -- the other run meets what the third law asks for
  pub bare_too : Bare other
  pub alike : Alike start.setup other.setup
  pub same_met : SameMet (last_met (answered start journal)) (last_met (answered other theirs))
