-- What it says of a month that a call is accepted.
use Rattle.std.proofs.Common.{◌≡◌, ℕ, Bool, true, false, cond, leb, List, length, is_ok, Some, None, Ok, Err, Option, Result, refl}
use Rattle.std.proofs.lemmas.Bool.{false≢true}
use Rattle.tariff.specs.declared.parties.PartyNumber.{PartyNumber}
use Rattle.tariff.specs.declared.parties.Rates.{Rates}
use Rattle.tariff.specs.declared.parties.Service.{Service}
use Rattle.tariff.specs.declared.points.PointKind.{PointKind}
use Rattle.tariff.specs.declared.reading.Sheet.{Sheet}
use Rattle.tariff.specs.declared.refusal.Refusal.{Refusal}
use Rattle.tariff.specs.declared.refusal.Refusal.TheVariants.{StoreDoesNotFit, UnknownPoint, UnknownDay, DayOutOfRange, PartyOutOfRange, RateTooHigh, ServiceOfNetworkPoint, OutOfTurn, Unsound}
use Rattle.tariff.specs.declared.statement.Statement.{Statement}
use Rattle.tariff.specs.Parties.{party_in_range, rates_in_range}
use Rattle.tariff.specs.Points.{is_network, kind_at}
use Rattle.tariff.specs.Ranges.{within}
use Rattle.tariff.specs.Readings.{too_large}
use Rattle.tariff.specs.Sheets.{quantities_judged}
use Rattle.tariff.specs.Shelves.{Shelf}
use Rattle.tariff.specs.Statements.{in_turn}
use Rattle.records.specs.declared.dated.Dated.{Dated}
use Rattle.records.specs.Entering.{dated, entry_answer}
use Rattle.records.specs.Soundness.{sound_within}
use Rattle.ledger.specs.declared.line.Line.{Line}
use Rattle.ledger.specs.Dues.{DueFacts}
use Rattle.ledger.specs.Ledgers.{sound_ledger, issue_answer as ledger_answer}
use Rattle.dues.specs.Records.{sound_records}
use Rattle.dues.specs.Facts.{refusal_of}
use Rattle.dues.specs.Dues.{dues_of, unless}
use Rattle.month.specs.States.{State, facts_at}
use Rattle.month.specs.Answers.{store_fits, post_answer, if_connection, from_day_answer, party_answer, service_answer, rates_answer, issue_of, issue_answer, plain}

passed : {X : Type 0} (b : Bool) (r : Result X Refusal) (e : Refusal) → is_ok (cond b r (Err e)) ≡ true → (b ≡ true) × (is_ok r ≡ true)
passed true r e h = (refl, h)
passed false r e h = absurd (false≢true h)

pub plain_accepted : (r : Result (Unit {0}) Refusal) → is_ok (plain r) ≡ is_ok r
plain_accepted (Ok x) = refl
plain_accepted (Err e) = refl

no_quantity : (o : Option ℕ) → is_ok (quantities_judged o) ≡ true → o ≡ None
no_quantity None h = refl
no_quantity (Some n) h = absurd (false≢true h)

-- a post: no quantity of the sheet is above the limit
pub post_limited : (s : State) (x : Sheet) → is_ok (post_answer s x) ≡ true → too_large 1 x.readings ≡ None
post_limited s x h =
    let quantities = quantities_judged (too_large 1 x.readings) in
    let known-day = cond (within s.store.days x.day) quantities (Err UnknownDay) in
    let known-point = cond (within s.store.points x.point) known-day (Err UnknownPoint) in
    let fits = passed (store_fits s) known-point StoreDoesNotFit h in
    let at-point = passed (within s.store.points x.point) known-day UnknownPoint fits.1 in
    no_quantity (too_large 1 x.readings) (passed (within s.store.days x.day) quantities UnknownDay at-point.1).1

-- an entry: its history takes it
from_day_entered : {T : Type 0} (h : Shelf (Dated T)) (k d : ℕ) (x : T) (b : Bool) (e : Refusal) → is_ok (from_day_answer h k d x b e) ≡ true → is_ok (entry_answer h (dated k d x)) ≡ true
from_day_entered h k d x b e ok =
    let entry = entry_answer h (dated k d x) in
    (passed b entry e (passed (leb d 36524) (cond b entry (Err e)) DayOutOfRange ok).1).1

pub party_entered : (kinds : List PointKind) (h : Shelf (Dated PartyNumber)) (p d : ℕ) (k : PartyNumber) → is_ok (party_answer kinds h p d k) ≡ true → is_ok (entry_answer h (dated p d k)) ≡ true
party_entered kinds h p d k ok =
    let entry = from_day_answer h p d k (party_in_range k) PartyOutOfRange in
    let sound = passed (sound_within party_in_range 1 400 h) (cond (within (length kinds) p) entry (Err UnknownPoint)) Unsound ok in
    from_day_entered h p d k (party_in_range k) PartyOutOfRange (passed (within (length kinds) p) entry UnknownPoint sound.1).1

connection_passed : (o : Option PointKind) (r : Result (Unit {0}) Refusal) → is_ok (if_connection o r) ≡ true → is_ok r ≡ true
connection_passed None r ok = absurd (false≢true ok)
connection_passed (Some kind) r ok = go (is_network kind) ok
  where
    go : (b : Bool) → is_ok (cond b (Err ServiceOfNetworkPoint) r) ≡ true → is_ok r ≡ true
    go true e = absurd (false≢true e)
    go false e = e

pub service_entered : (kinds : List PointKind) (h : Shelf (Dated Service)) (p d : ℕ) (x : Service) → is_ok (service_answer kinds h p d x) ≡ true → is_ok (entry_answer h (dated p d x)) ≡ true
service_entered kinds h p d x ok =
    let entry = entry_answer h (dated p d x) in
    let from-day = cond (leb d 36524) entry (Err DayOutOfRange) in
    let sound = passed (sound_within (λ _. true) 1 400 h) (if_connection (kind_at kinds p) from-day) Unsound ok in
    (passed (leb d 36524) entry DayOutOfRange (connection_passed (kind_at kinds p) from-day sound.1)).1

pub rates_entered : (h : Shelf (Dated Rates)) (d : ℕ) (x : Rates) → is_ok (rates_answer h d x) ≡ true → is_ok (entry_answer h (dated 0 d x)) ≡ true
rates_entered h d x ok =
    let entry = from_day_answer h 0 d x (rates_in_range x) RateTooHigh in
    from_day_entered h 0 d x (rates_in_range x) RateTooHigh (passed (sound_within rates_in_range 0 0 h) entry Unsound ok).1

-- an issue: the histories are sound, nothing is lacking, and the ledger takes what is due
pub record Issuable (s : State) (st : Statement) : Type 0 where
  pub sound : sound_records s.records ≡ true
  pub complete : refusal_of (facts_at s) ≡ None
  pub taken : is_ok (ledger_answer s.ledger st (dues_of (facts_at s))) ≡ true

dues_issued : (g : Shelf Line) (st : Statement) (o : Option Refusal) (dues : List DueFacts) → is_ok (issue_of g st (unless o dues)) ≡ true → (o ≡ None) × (is_ok (ledger_answer g st dues) ≡ true)
dues_issued g st None dues ok = (refl, ok)
dues_issued g st (Some e) dues ok = absurd (false≢true ok)

dues_passed : (g : Shelf Line) (st : Statement) (b : Bool) (r : Result (List DueFacts) Refusal) (e : Refusal) → is_ok (issue_of g st (cond b r (Err e))) ≡ true → (b ≡ true) × (is_ok (issue_of g st r) ≡ true)
dues_passed g st true r e ok = (refl, ok)
dues_passed g st false r e ok = absurd (false≢true ok)

pub issuable : (s : State) (st : Statement) → is_ok (issue_answer s st) ≡ true → Issuable s st
issuable s st ok =
    let g = s.ledger in
    let complete = unless (refusal_of (facts_at s)) (dues_of (facts_at s)) in
    let recorded = cond (sound_records s.records) complete (Err Unsound) in
    let ledger = cond (sound_ledger g) recorded (Err Unsound) in
    let turn = dues_passed g st (in_turn s.last st) (cond (store_fits s) ledger (Err StoreDoesNotFit)) OutOfTurn ok in
    let fits = dues_passed g st (store_fits s) ledger StoreDoesNotFit turn.1 in
    let ready = dues_passed g st (sound_ledger g) recorded Unsound fits.1 in
    let sound = dues_passed g st (sound_records s.records) complete Unsound ready.1 in
    let rest = dues_issued g st (refusal_of (facts_at s)) (dues_of (facts_at s)) sound.1 in
    record { sound = sound.0; complete = rest.0; taken = rest.1 }
