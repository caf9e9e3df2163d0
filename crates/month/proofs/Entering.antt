-- What the functions that enter answer and leave, by how far they came.
use Rattle.std.proofs.Common.{◌≡◌, ℕ, ◌≤◌, Bool, true, false, cond, leb, List, length, is_ok, is_err, Some, Ok, Err, Result, sym, refl, ap, ◌∙◌, arith}
use Rattle.std.proofs.lemmas.Bool.{cond-true, cond-false, false≢true}
use Rattle.tariff.specs.declared.parties.PartyNumber.{PartyNumber}
use Rattle.tariff.specs.declared.parties.Rates.{Rates}
use Rattle.tariff.specs.declared.parties.Service.{Service}
use Rattle.tariff.specs.declared.points.PointKind.{PointKind}
use Rattle.tariff.specs.declared.refusal.Refusal.{Refusal}
use Rattle.tariff.specs.declared.refusal.Refusal.TheVariants.{HistoryFull, UnknownPoint, DayOutOfRange, PartyOutOfRange, RateTooHigh, ServiceOfNetworkPoint, Unsound}
use Rattle.tariff.specs.Parties.{party_in_range, rates_in_range}
use Rattle.tariff.specs.Points.{is_network, kind_at}
use Rattle.tariff.specs.Ranges.{within, within_from}
use Rattle.tariff.specs.Shelves.{Shelf}
use Rattle.records.specs.declared.dated.Dated.{Dated}
use Rattle.records.specs.Entering.{dated, has_place, with_entry, entered_shelf, entry_answer}
use Rattle.records.specs.Soundness.{sound_within, check_answer}
use Rattle.month.specs.Answers.{if_connection, from_day_answer, party_answer, service_answer, rates_answer}

-- a history that is refused
module _ (b : Bool) (r : Result (Unit {0}) Refusal) (bad : is_err r ≡ true) (is : r ≡ cond b (Ok tt) (Err Unsound)) where
  pub not_sound : (rest : Result (Unit {0}) Refusal) → r ≡ cond b rest (Err Unsound)
  not_sound rest = go b is
    where
      go : (b : Bool) → r ≡ cond b (Ok tt) (Err Unsound) → r ≡ cond b rest (Err Unsound)
      go true e = absurd (false≢true (sym (ap is_err e) ∙ bad))
      go false e = e

-- one that is not
pub sound_is : (b : Bool) (u : Unit {0}) → Ok u ≡ cond b (Ok tt) (Err Unsound) → b ≡ true
sound_is true u e = refl
sound_is false u e = let z : ◌≡◌ {A = ℕ} 0 1 = cc in absurd (omega arith)

pub left_alone : {X : Type 0} (r : Result (Unit {0}) Refusal) (x y : X) → is_err r ≡ true → y ≡ cond (is_ok r) x y
left_alone (Ok u) x y bad = absurd (false≢true bad)
left_alone (Err e) x y bad = refl

pub entered_if : {T : Type 0} (h h' : Shelf (Dated T)) (e : Dated T) (r : Result (Unit {0}) Refusal) → r ≡ entry_answer h e → h' ≡ entered_shelf h e → h' ≡ cond (is_ok r) (entered_shelf h e) h
entered_if h h' e r says leaves = go (has_place h e) says leaves
  where
    go : (b : Bool) → r ≡ cond b (Ok tt) (Err HistoryFull) → h' ≡ cond b (with_entry h e) h → h' ≡ cond (is_ok r) (cond b (with_entry h e) h) h
    go true s l = l ∙ sym (cond-true (is_ok r) (with_entry h e) h (ap is_ok s))
    go false s l = l ∙ sym (cond-false (is_ok r) h h (ap is_ok s))

pub party_reached : (kinds : List PointKind) (h : Shelf (Dated PartyNumber)) (p d : ℕ) (k : PartyNumber) (u : Unit {0})
    → Ok u ≡ check_answer party_in_range 1 400 h → 1 ≤ p → p ≤ length kinds
    → party_answer kinds h p d k ≡ from_day_answer h p d k (party_in_range k) PartyOutOfRange
party_reached kinds h p d k u sound low high =
    let entry = from_day_answer h p d k (party_in_range k) PartyOutOfRange in
    cond-true (sound_within party_in_range 1 400 h) (cond (within (length kinds) p) entry (Err UnknownPoint)) (Err Unsound) (sound_is _ u sound)
    ∙ cond-true (within (length kinds) p) entry (Err UnknownPoint) (within_from (length kinds) p low high)

pub service_reached : (kinds : List PointKind) (h : Shelf (Dated Service)) (p d : ℕ) (x : Service) (kind : PointKind) (u : Unit {0})
    → Ok u ≡ check_answer (λ _. true) 1 400 h → kind_at kinds p ≡ Some kind → is_network kind ≡ false
    → service_answer kinds h p d x ≡ from_day_answer h p d x true Unsound
service_reached kinds h p d x kind u sound is other =
    let entry = entry_answer h (dated p d x) in
    let from-day = cond (leb d 36524) entry (Err DayOutOfRange) in
    cond-true (sound_within (λ _. true) 1 400 h) (if_connection (kind_at kinds p) from-day) (Err Unsound) (sound_is _ u sound)
    ∙ ap (λ o. if_connection o from-day) is
    ∙ cond-false (is_network kind) (Err ServiceOfNetworkPoint) from-day other

pub rates_reached : (h : Shelf (Dated Rates)) (d : ℕ) (x : Rates) (u : Unit {0})
    → Ok u ≡ check_answer rates_in_range 0 0 h → rates_answer h d x ≡ from_day_answer h 0 d x (rates_in_range x) RateTooHigh
rates_reached h d x u sound =
    let entry = from_day_answer h 0 d x (rates_in_range x) RateTooHigh in
    cond-true (sound_within rates_in_range 0 0 h) entry (Err Unsound) (sound_is _ u sound)
