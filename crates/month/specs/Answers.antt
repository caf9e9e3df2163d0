-- What each call of an open month answers, and what it leaves.
use Rattle.std.specs.Prelude.{◌≡◌, ℕ, Bool, true, false, cond, ◌&&◌, List, length, is_ok, Some, None, Ok, Err, Option, Result, ◌==◌, nat_le}
use Rattle.std.specs.Result.{result_map_both}
use Rattle.tariff.specs.declared.parties.PartyNumber.{PartyNumber}
use Rattle.tariff.specs.declared.parties.Rates.{Rates as RateRecord}
use Rattle.tariff.specs.declared.parties.Service.{Service as ServiceRecord}
use Rattle.tariff.specs.declared.points.PointKind.{PointKind}
use Rattle.tariff.specs.declared.reading.Sheet.{Sheet}
use Rattle.tariff.specs.declared.refusal.Refusal.{Refusal}
use Rattle.tariff.specs.declared.refusal.Refusal.TheVariants.{StoreDoesNotFit, UnknownPoint, DayOutOfRange, PartyOutOfRange, RateTooHigh, ServiceOfNetworkPoint, OutOfTurn, Unsound}
use Rattle.tariff.specs.declared.statement.Statement.{Statement}
use Rattle.tariff.specs.Parties.{party_in_range, rates_in_range}
use Rattle.tariff.specs.Points.{is_network, kind_at}
use Rattle.tariff.specs.Ranges.{within}
use Rattle.tariff.specs.Shelves.{Shelf}
use Rattle.tariff.specs.Statements.{in_turn}
use Rattle.readings.specs.Meaning.{Meaning, posted, verdict}
use Rattle.records.specs.declared.dated.Dated.{Dated}
use Rattle.records.specs.Entering.{dated, entered_shelf, entry_answer}
use Rattle.records.specs.Soundness.{sound_within}
use Rattle.ledger.specs.declared.line.Line.{Line}
use Rattle.ledger.specs.Dues.{DueFacts}
use Rattle.ledger.specs.Ledgers.{sound_ledger, issued, issue_answer as ledger_answer}
use Rattle.dues.specs.Records.{Records, sound_records}
use Rattle.dues.specs.Dues.{dues_of, dues_answer}
use Rattle.month.specs.declared.calls.Call.{Call}
use Rattle.month.specs.declared.calls.Call.TheVariants.{Post, Customer, Transmitter, Service, Rates, Issue}
use Rattle.month.specs.declared.month.OpenMonth.{OpenMonth}
use Rattle.month.specs.States.{State, state_of, facts_at}

-- ---- what is answered

-- the store is of the month's points and days
abbrev pub store_fits : State → Bool
store_fits s = s.store.points == length s.setup.kinds && s.store.days == s.setup.days

abbrev pub post_answer : State → Sheet → Result (Unit {0}) Refusal
post_answer s x = cond (store_fits s) (verdict s.store x) (Err StoreDoesNotFit)

-- an item for a subject from a day not after 31 December 2099
abbrev pub from_day_answer : {T : Type 0} → Shelf (Dated T) → ℕ → ℕ → T → Bool → Refusal → Result (Unit {0}) Refusal
from_day_answer h subject day item ok otherwise =
    cond (nat_le day 36524) (cond ok (entry_answer h (dated subject day item)) (Err otherwise)) (Err DayOutOfRange)

abbrev pub party_answer : List PointKind → Shelf (Dated PartyNumber) → ℕ → ℕ → PartyNumber → Result (Unit {0}) Refusal
party_answer kinds h point day party =
    cond (sound_within party_in_range 1 400 h)
    (cond (within (length kinds) point) (from_day_answer h point day party (party_in_range party) PartyOutOfRange) (Err UnknownPoint))
    (Err Unsound)

-- what only a connection point has
abbrev pub if_connection : Option PointKind → Result (Unit {0}) Refusal → Result (Unit {0}) Refusal
if_connection None r = Err UnknownPoint
if_connection (Some kind) r = cond (is_network kind) (Err ServiceOfNetworkPoint) r

abbrev pub service_answer : List PointKind → Shelf (Dated ServiceRecord) → ℕ → ℕ → ServiceRecord → Result (Unit {0}) Refusal
service_answer kinds h point day service =
    cond (sound_within (λ _. true) 1 400 h)
    (if_connection (kind_at kinds point) (cond (nat_le day 36524) (entry_answer h (dated point day service)) (Err DayOutOfRange)))
    (Err Unsound)

-- the rates stand under subject 0
abbrev pub rates_answer : Shelf (Dated RateRecord) → ℕ → RateRecord → Result (Unit {0}) Refusal
rates_answer h day rates =
    cond (sound_within rates_in_range 0 0 h) (from_day_answer h 0 day rates (rates_in_range rates) RateTooHigh) (Err Unsound)

-- what is due, where the statement is in turn, the store fits and the ledger and the histories are sound
abbrev pub dues_to_issue : State → Statement → Result (List DueFacts) Refusal
dues_to_issue s st =
    cond (in_turn s.last st)
    (cond (store_fits s)
    (cond (sound_ledger s.ledger) (dues_answer (sound_records s.records) (facts_at s)) (Err Unsound))
    (Err StoreDoesNotFit))
    (Err OutOfTurn)

-- an issue of what is due
abbrev pub issue_of : Shelf Line → Statement → Result (List DueFacts) Refusal → Result ℕ Refusal
issue_of g st (Ok dues) = ledger_answer g st dues
issue_of g st (Err e) = Err e

abbrev pub issue_answer : State → Statement → Result ℕ Refusal
issue_answer s st = issue_of s.ledger st (dues_to_issue s st)

-- a call that writes no line
abbrev pub plain : Result (Unit {0}) Refusal → Result ℕ Refusal
plain r = result_map_both (λ x. 0) (λ e. e) r

-- how many lines a call writes
abbrev pub answer : State → Call → Result ℕ Refusal
answer s (Post x) = plain (post_answer s x)
answer s (Customer p d k) = plain (party_answer s.setup.kinds s.records.customers p d k)
answer s (Transmitter p d k) = plain (party_answer s.setup.kinds s.records.transmitters p d k)
answer s (Service p d x) = plain (service_answer s.setup.kinds s.records.service p d x)
answer s (Rates d x) = plain (rates_answer s.records.rates d x)
answer s (Issue st) = issue_answer s st

-- what a journal notes of a call: nothing as long as it is not taken
abbrev pub is_accepted : Option (Result ℕ Refusal) → Bool
is_accepted None = false
is_accepted (Some r) = is_ok r

-- ---- what is left

abbrev pub with_store : State → Meaning → State
with_store s m = record { setup = s.setup; store = m; records = s.records; ledger = s.ledger; last = s.last }

abbrev pub with_records : State → Records → State
with_records s r = record { setup = s.setup; store = s.store; records = r; ledger = s.ledger; last = s.last }

abbrev pub with_customers : Records → Shelf (Dated PartyNumber) → Records
with_customers r h = record { customers = h; transmitters = r.transmitters; service = r.service; rates = r.rates }

abbrev pub with_transmitters : Records → Shelf (Dated PartyNumber) → Records
with_transmitters r h = record { customers = r.customers; transmitters = h; service = r.service; rates = r.rates }

abbrev pub with_service : Records → Shelf (Dated ServiceRecord) → Records
with_service r h = record { customers = r.customers; transmitters = r.transmitters; service = h; rates = r.rates }

abbrev pub with_rates : Records → Shelf (Dated RateRecord) → Records
with_rates r h = record { customers = r.customers; transmitters = r.transmitters; service = r.service; rates = h }

-- by an accepted call
abbrev pub taken : State → Call → State
taken s (Post x) = with_store s (posted s.store x)
taken s (Customer p d k) = with_records s (with_customers s.records (entered_shelf s.records.customers (dated p d k)))
taken s (Transmitter p d k) = with_records s (with_transmitters s.records (entered_shelf s.records.transmitters (dated p d k)))
taken s (Service p d x) = with_records s (with_service s.records (entered_shelf s.records.service (dated p d x)))
taken s (Rates d x) = with_records s (with_rates s.records (entered_shelf s.records.rates (dated 0 d x)))
taken s (Issue st) = record {
  setup = s.setup;
  store = s.store;
  records = s.records;
  ledger = issued s.ledger st (dues_of (facts_at s));
  last = Some st;
}

-- a refused call leaves all as it was
abbrev pub next : State → Call → State
next s c = cond (is_ok (answer s c)) (taken s c) s

-- what a call of an open month answers, and leaves
pub record Takes {S H : Type 0} (meaning : S → Meaning) (admits : H → ℕ → ℕ → Bool) (before : OpenMonth S H) (call : Call) (outcome : Result ℕ Refusal) (left : OpenMonth S H) : Type 0 where
  pub answers : outcome ≡ answer (state_of meaning admits before) call
  pub leaves : state_of meaning admits left ≡ next (state_of meaning admits before) call
