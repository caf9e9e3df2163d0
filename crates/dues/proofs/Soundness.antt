-- Each due is sound, where the readings and the records are.
use Rattle.std.proofs.Common.{◌≡◌, ℕ, ◌*◌, ◌≤◌, Bool, true, eqb, leb, List, length, is_some, Some, None, Option, sym, refl, ap, subst, inl, inr, arith}
use Rattle.std.proofs.lemmas.List.{length-take-le}
use Rattle.std.proofs.lemmas.Bool.{and_from, and_parts, leb-true, le-leb, cond_both, false≢true}
use Rattle.tariff.specs.declared.charge.Charge.{Charge}
use Rattle.tariff.specs.declared.charge.Charge.TheVariants as charge
use Rattle.tariff.specs.declared.parties.PartyNumber.{PartyNumber}
use Rattle.tariff.specs.declared.parties.Rates.{Rates}
use Rattle.tariff.specs.declared.points.PointKind.{PointKind}
use Rattle.tariff.specs.declared.points.PointList.{PointList}
use Rattle.tariff.specs.declared.refusal.Refusal.TheVariants.{NothingOnRecord}
use Rattle.tariff.specs.Parties.{rate_of, party_in_range, rates_in_range}
use Rattle.tariff.specs.Points.{kinds_of}
use Rattle.tariff.specs.Ranges.{within_from}
use Rattle.calendar.specs.declared.month.Calendar.{Calendar}
use Rattle.calendar.specs.Dates.{is_leap, is_short}
use Rattle.calendar.specs.Calendars.{length_in, first_in}
use Rattle.readings.specs.Meaning.{Meaning, Sound}
use Rattle.readings.specs.Demands.{demand_at, network_demand}
use Rattle.readings.specs.Missing.{first_missing}
use Rattle.readings.specs.Options.{from_none}
use Rattle.readings.proofs.Bounds.{demand_limited}
use Rattle.readings.proofs.Firsts.{right_none, none_before}
use Rattle.records.specs.Soundness.{passes}
use Rattle.records.proofs.Keeping.{record_passes}
use Rattle.hours.specs.Hours.{in_month, is_in_service}
use Rattle.demand.specs.Peaks.{Triple, peak_over, IsPeak}
use Rattle.demand.specs.Charges.{network_of, connection_of}
use Rattle.demand.proofs.Peaking.{peak_is, peak_bounded}
use Rattle.demand.proofs.Rounding.{charge_nearest}
use Rattle.ledger.specs.Lines.{every}
use Rattle.ledger.specs.Dues.{sound_due}
use Rattle.dues.specs.declared.workings.Workings.{Workings}
use Rattle.dues.specs.Records.{Records, sound_records}
use Rattle.dues.specs.Facts.{Facts, facts_by, last_day, no_rates, no_parties, refusal_of}
use Rattle.dues.specs.Dues.{peak_of, determinant_of, party_or_none, due_of, dues_at, dues_of}
use Rattle.dues.specs.Workings.{records_of, facts_for}
use Rattle.dues.proofs.Among.{every_from, all_up_to}

-- what bounds the facts of a month
pub record Limited (f : Facts) : Type 0 where
  pub few : length f.kinds ≤ 400
  pub month : f.days ≤ 31
  pub demands : (p d h : ℕ) → demand_at f.sheets p d h ≤ 99999999
  pub customers : (p d : ℕ) → passes party_in_range (f.customer_on p d) ≡ true
  pub transmitters : (p d : ℕ) → passes party_in_range (f.transmitter_on p d) ≡ true
  pub rates : (d : ℕ) → passes rates_in_range (f.rates_on d) ≡ true

-- sound readings and sound records keep these bounds
pub limited : (kinds : List PointKind) (days first : ℕ) (m : Meaning) (admits : ℕ → ℕ → Bool) (r : Records)
    → length kinds ≤ 400 → days ≤ 31 → Sound m → sound_records r ≡ true → Limited (facts_by kinds days first m.sheets admits r)
limited kinds days first m admits r few month sound e =
    let one = and_parts _ _ e in
    let two = and_parts _ _ one.1 in
    let three = and_parts _ _ two.1 in
    record {
      few = few;
      month = month;
      demands = demand_limited m sound;
      customers = λ p d. record_passes party_in_range 1 400 r.customers p d one.0;
      transmitters = λ p d. record_passes party_in_range 1 400 r.transmitters p d two.0;
      rates = λ d. record_passes rates_in_range 0 0 r.rates 0 d three.1;
    }

pub month_in : (c : Calendar) → length_in c ≤ 31
month_in c =
    cond_both (eqb c.month 2) _ _ (λ n. n ≤ 31)
    (λ _. cond_both (is_leap c.year) 29 28 (λ n. n ≤ 31) (λ _. omega arith) (λ _. omega arith))
    (λ _. cond_both (is_short c.month) 30 31 (λ n. n ≤ 31) (λ _. omega arith) (λ _. omega arith))

pub points_in : (l : PointList) → length (kinds_of l) ≤ 400
points_in l =
    let few = l.kinds.few in
    let full = l.kinds.full in
    omega (arith, length-take-le l.kinds.count l.kinds.places (omega arith))

pub limited_for : {R H : Type 0} (meaning : R → Meaning) → ((s : R) → Sound (meaning s)) → (admits : H → ℕ → ℕ → Bool) (w : Workings R H)
    → sound_records (records_of w.histories) ≡ true → Limited (facts_for meaning admits w)
limited_for meaning sound admits w e =
    limited (kinds_of w.points.now) (length_in w.calendar.now) (first_in w.calendar.now) (meaning w.readings.now) (admits w.peak_period.now) (records_of w.histories)
    (points_in w.points.now) (month_in w.calendar.now) (sound w.readings.now) e

-- ---- quantities, days and hours

abbrev InRange : Triple → Type 0
InRange x = (x.0 ≤ 9999999900) × (x.1 ≤ 31) × (x.2 ≤ 24)

hours_in : (A : ℕ → ℕ → Bool) (q : ℕ → ℕ → ℕ) (n : ℕ) (r : Triple) → IsPeak A q n r → (r.1 ≤ n) × (r.2 ≤ 24)
hours_in A q n r (inl x) = (omega (arith, ap {B = ℕ} (λ y. y.1) x.1), omega (arith, ap {B = ℕ} (λ y. y.2) x.1))
hours_in A q n r (inr x) = (x.inside.0.1, x.inside.1.1)

connection_in : (Q : Triple) → Q.0 ≤ 99999999 → Q.1 ≤ 31 → Q.2 ≤ 24 → InRange (connection_of Q)
connection_in Q a b c = (omega arith, b, c)

network_in : (C : ℕ) (S Q : Triple) → C ≤ 99999999 → S.1 ≤ 31 → S.2 ≤ 24 → Q.0 ≤ 99999999 → Q.1 ≤ 31 → Q.2 ≤ 24 → InRange (network_of S C Q)
network_in C S Q c s₁ s₂ q₀ q₁ q₂ =
    cond_both {A = Triple} (leb (85 * Q.0) (100 * C)) (100 * C, S.1, S.2) (85 * Q.0, Q.1, Q.2) InRange (λ _. (omega arith, s₁, s₂)) (λ _. (omega arith, q₁, q₂))

module _ (f : Facts) (ok : Limited f) where
  own : (A : ℕ → ℕ → Bool) (p : ℕ) → ((peak_over A (demand_at f.sheets p) f.days).0 ≤ 99999999) × ((peak_over A (demand_at f.sheets p) f.days).1 ≤ 31) × ((peak_over A (demand_at f.sheets p) f.days).2 ≤ 24)
  own A p =
      let q = demand_at f.sheets p in
      let r = peak_over A q f.days in
      let is = peak_is A q f.days in
      let at = hours_in A q f.days r is in
      let month = ok.month in
      (peak_bounded A q f.days r is 99999999 (λ d h _. ok.demands p d h), omega arith, at.1)

  peak_in : ((peak_of f).1 ≤ 31) × ((peak_of f).2 ≤ 24)
  peak_in =
      let q : ℕ → ℕ → ℕ = λ d h. network_demand f.kinds f.sheets d h (length f.kinds) in
      let at = hours_in (in_month f.days) q f.days (peak_of f) (peak_is (in_month f.days) q f.days) in
      let month = ok.month in
      (omega arith, at.1)

  connection_ranged : (p : ℕ) → InRange (connection_of (peak_over (is_in_service f.days f.first (f.served_on p)) (demand_at f.sheets p) f.days))
  connection_ranged p = let o = own (is_in_service f.days f.first (f.served_on p)) p in connection_in _ o.0 o.1 o.2

  determinant_in : (p : ℕ) (c : Charge) → InRange (determinant_of f (peak_of f) p c)
  unfolding determinant_of
  determinant_in p charge.Network =
      let o = own f.admits p in
      let s = peak_in in
      network_in _ (peak_of f) (peak_over f.admits (demand_at f.sheets p) f.days) (ok.demands p (peak_of f).1 (peak_of f).2) s.0 s.1 o.0 o.1 o.2
  determinant_in p charge.Line = connection_ranged p
  determinant_in p charge.Transformation = connection_ranged p

-- ---- rates and parties

rate_in : (r : Rates) (c : Charge) → rates_in_range r ≡ true → rate_of r c ≤ 10000000
rate_in r c e = let p = and_parts _ _ e in let q = and_parts _ _ p.1 in each c (leb-true _ _ p.0) (leb-true _ _ q.0) (leb-true _ _ q.1)
  where
    each : (c : Charge) → r.network ≤ 10000000 → r.line ≤ 10000000 → r.transformation ≤ 10000000 → rate_of r c ≤ 10000000
    each charge.Network a b c = a
    each charge.Line a b c = b
    each charge.Transformation a b c = c

party_in : (o : Option PartyNumber) → is_some o ≡ true → passes party_in_range o ≡ true → party_in_range (party_or_none o) ≡ true
party_in None e ok = absurd (false≢true e)
party_in (Some p) e ok = ok

module _ (f : Facts) (ok : Limited f) (none : refusal_of f ≡ None) where
  pub rates_ranged : (r : Rates) → f.rates_on (last_day f) ≡ Some r → rates_in_range r ≡ true
  rates_ranged r on = subst (λ o. passes rates_in_range o ≡ true) on (ok.rates (last_day f))

  on_record : (p : ℕ) → 1 ≤ p → p ≤ length f.kinds → (is_some (f.customer_on p (last_day f)) ≡ true) × (is_some (f.transmitter_on p (last_day f)) ≡ true)
  on_record p low high =
      let rest = right_none (first_missing f.sheets (length f.kinds) f.days) _ none in
      let all = right_none (no_rates (f.rates_on (last_day f))) _ rest in
      let here = none_before (no_parties f.customer_on f.transmitter_on (last_day f)) (length f.kinds) p all low high in
      and_parts (is_some (f.customer_on p (last_day f))) (is_some (f.transmitter_on p (last_day f))) (from_none _ None (NothingOnRecord p) here).0

  -- each due of the month, at its system peak and rates
  pub due_in : (system : Triple) → system ≡ peak_of f → (r : Rates) → f.rates_on (last_day f) ≡ Some r
      → (p : ℕ) (c : Charge) → 1 ≤ p → p ≤ length f.kinds → sound_due (due_of f system r p c) ≡ true
  unfolding due_of
  due_in system is r on p c low high =
      let few = ok.few in
      let there = on_record p low high in
      let x : InRange (determinant_of f system p c) = subst (λ s. InRange (determinant_of f s p c)) (sym is) (determinant_in f ok p c) in
      and_from _ _
      (and_from _ _
      (and_from _ _
      (and_from _ _ (within_from 400 p low (omega arith)) (party_in _ there.0 (ok.customers p (last_day f))))
      (party_in _ there.1 (ok.transmitters p (last_day f))))
      (and_from _ _ (le-leb 0 _ (omega arith)) (le-leb _ 9999999900 (charge_nearest (determinant_of f system p c).0 (rate_of r c) x.0 (rate_in r c (rates_ranged r on))).small)))
      (and_from _ _ (and_from _ _ (le-leb _ 9999999900 x.0) (le-leb _ 31 x.1)) (le-leb _ 24 x.2))

  pub all_sound : every sound_due (dues_of f) ≡ true
  all_sound = by (f.rates_on (last_day f)) refl
    where
      by : (o : Option Rates) → f.rates_on (last_day f) ≡ o → every sound_due (dues_at f o) ≡ true
      by None on = refl
      by (Some r) on =
          every_from sound_due _ (all_up_to f (peak_of f) r (λ d. sound_due d ≡ true) (length f.kinds) (λ p c low high _. due_in (peak_of f) refl r on p c low high))

pub dues_sound : (kinds : List PointKind) (days first : ℕ) (m : Meaning) (admits : ℕ → ℕ → Bool) (r : Records)
    → length kinds ≤ 400 → days ≤ 31 → Sound m → sound_records r ≡ true
    → refusal_of (facts_by kinds days first m.sheets admits r) ≡ None
    → every sound_due (dues_of (facts_by kinds days first m.sheets admits r)) ≡ true
dues_sound kinds days first m admits r few month sound e none = all_sound (facts_by kinds days first m.sheets admits r) (limited kinds days first m admits r few month sound e) none
