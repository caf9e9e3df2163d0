-- The dues depend on no more than `SameFacts` says.
use Rattle.std.proofs.Common.{◌≡◌, ℕ, zero, suc, ◌+◌, ◌≤◌, Bool, cond, ◌&&◌, List, ◌++◌, length, is_some, Some, None, Err, Option, sym, refl, ap, ◌∙◌, ap₂, inl, inr, arith}
use Rattle.std.specs.Option.{option_or}
use Rattle.tariff.specs.declared.charge.Charge.{Charge}
use Rattle.tariff.specs.declared.charge.Charge.TheVariants as charge
use Rattle.tariff.specs.declared.parties.Rates.{Rates}
use Rattle.tariff.specs.declared.reading.Reading.{Reading}
use Rattle.tariff.specs.declared.refusal.Refusal.TheVariants.{SheetMissing, NothingOnRecord, Unsound}
use Rattle.tariff.specs.Parties.{rate_of}
use Rattle.tariff.specs.Points.{kind_at}
use Rattle.readings.specs.Meaning.{hour_of}
use Rattle.readings.specs.Demands.{demand_if, demand_at, if_network, network_demand}
use Rattle.readings.specs.Missing.{first_of, no_sheet}
use Rattle.readings.proofs.Firsts.{first_alike}
use Rattle.hours.specs.Hours.{in_month, is_in_service}
use Rattle.demand.specs.Peaks.{Triple, IsPeak}
use Rattle.demand.specs.Charges.{network_of, connection_of}
use Rattle.demand.specs.Determinants.{network_determinant, connection_determinant}
use Rattle.demand.proofs.Peaking.{peak_is, peak_alike}
use Rattle.ledger.specs.Dues.{DueFacts}
use Rattle.dues.specs.Facts.{Facts, last_day, no_rates, no_parties, refusal_of}
use Rattle.dues.specs.Dues.{peak_of, has_charge, determinant_of, party_or_none, due_of, when, point_dues, dues_up_to, dues_at, dues_of, unless, dues_answer}
use Rattle.dues.specs.Sameness.{SameFacts}
use Rattle.dues.proofs.Making.{due_made}

-- there is no demand in an hour 0
demand_zero : (o : Option (List Reading)) → demand_if (hour_of o 0) ≡ 0
demand_zero None = refl
demand_zero (Some rs) = refl

-- g, with the points and days of f
abbrev framed : Facts → Facts → Facts
framed f g = record {
  kinds = f.kinds;
  days = f.days;
  first = f.first;
  sheets = g.sheets;
  admits = g.admits;
  customer_on = g.customer_on;
  transmitter_on = g.transmitter_on;
  served_on = g.served_on;
  rates_on = g.rates_on;
}

module _ (f g : Facts) (same : SameFacts f g) where
  framed_is : framed f g ≡ g
  framed_is = λ i. record {
    kinds = same.kinds i;
    days = same.days i;
    first = same.first i;
    sheets = g.sheets;
    admits = g.admits;
    customer_on = g.customer_on;
    transmitter_on = g.transmitter_on;
    served_on = g.served_on;
    rates_on = g.rates_on;
  }

  demand_alike : (p d h : ℕ) → 1 ≤ p → p ≤ length f.kinds → 1 ≤ d → d ≤ f.days → demand_at f.sheets p d h ≡ demand_at g.sheets p d h
  demand_alike p d h a b c e = ap (λ o. demand_if (hour_of o h)) (same.sheets p d a b c e)

  system_alike : (d h : ℕ) → 1 ≤ d → d ≤ f.days → (n : ℕ) → n ≤ length f.kinds → network_demand f.kinds f.sheets d h n ≡ network_demand f.kinds g.sheets d h n
  system_alike d h a b zero le = refl
  system_alike d h a b (suc n) le =
      ap₂ (λ x y. x + y) (system_alike d h a b n (omega arith)) (ap (if_network (kind_at f.kinds (suc n))) (demand_alike (suc n) d h (omega arith) le a b))

  peak_same : peak_of f ≡ peak_of (framed f g)
  peak_same =
      let A = in_month f.days in
      let q : ℕ → ℕ → ℕ = λ d h. network_demand f.kinds f.sheets d h (length f.kinds) in
      let r : ℕ → ℕ → ℕ = λ d h. network_demand f.kinds g.sheets d h (length f.kinds) in
      peak_alike A A q r f.days (λ d h i. (refl, system_alike d h i.0.0 i.0.1 (length f.kinds) (omega arith)))

  -- at the system peak too, since where there is none its hour is 0
  coincident_same : (p : ℕ) → 1 ≤ p → p ≤ length f.kinds → demand_at f.sheets p (peak_of f).1 (peak_of f).2 ≡ demand_at g.sheets p (peak_of f).1 (peak_of f).2
  coincident_same p a b = by (peak_of f) (peak_is (in_month f.days) (λ d h. network_demand f.kinds f.sheets d h (length f.kinds)) f.days)
    where
      by : (r : Triple) → IsPeak (in_month f.days) (λ d h. network_demand f.kinds f.sheets d h (length f.kinds)) f.days r → demand_at f.sheets p r.1 r.2 ≡ demand_at g.sheets p r.1 r.2
      by r (inl x) =
          let zero-hour : r.2 ≡ 0 = ap {B = ℕ} (λ y. y.2) x.1 in
          ap (λ h. demand_at f.sheets p r.1 h) zero-hour ∙ (demand_zero (f.sheets p r.1) ∙ (sym (demand_zero (g.sheets p r.1)) ∙ ap (λ h. demand_at g.sheets p r.1 h) (sym zero-hour)))
      by r (inr x) = demand_alike p r.1 r.2 a b x.inside.0.0 x.inside.0.1

  network_same : (p : ℕ) → 1 ≤ p → p ≤ length f.kinds → network_determinant f.sheets f.admits f.days (peak_of f) p ≡ network_determinant g.sheets g.admits f.days (peak_of f) p
  network_same p a b =
      let own = peak_alike f.admits g.admits (demand_at f.sheets p) (demand_at g.sheets p) f.days (λ d h i. (same.admits d h i, demand_alike p d h a b i.0.0 i.0.1)) in
      ap₂ (λ (c : ℕ) (o : Triple). network_of (peak_of f) c o) (coincident_same p a b) own

  connection_same : (p : ℕ) → 1 ≤ p → p ≤ length f.kinds → connection_determinant f.sheets (is_in_service f.days f.first (f.served_on p)) f.days p ≡ connection_determinant g.sheets (is_in_service f.days f.first (g.served_on p)) f.days p
  connection_same p a b =
      let own = peak_alike (is_in_service f.days f.first (f.served_on p)) (is_in_service f.days f.first (g.served_on p)) (demand_at f.sheets p) (demand_at g.sheets p) f.days
      (λ d h i. (ap (λ v. in_month f.days d h && v) (same.service p d a b i.0.0 i.0.1), demand_alike p d h a b i.0.0 i.0.1)) in
      ap connection_of own

  determinant_same : (p : ℕ) (c : Charge) → 1 ≤ p → p ≤ length f.kinds → determinant_of f (peak_of f) p c ≡ determinant_of (framed f g) (peak_of f) p c
  unfolding determinant_of
  determinant_same p charge.Network a b = network_same p a b
  determinant_same p charge.Line a b = connection_same p a b
  determinant_same p charge.Transformation a b = connection_same p a b

  due_same : (r : Rates) (p : ℕ) (c : Charge) → 1 ≤ p → p ≤ length f.kinds → due_of f (peak_of f) r p c ≡ due_of (framed f g) (peak_of f) r p c
  unfolding due_of
  due_same r p c a b =
      due_made (framed f g) (peak_of f) r p c _ _ (rate_of r c) _ (determinant_of f (peak_of f) p c)
      (ap party_or_none (same.customers p a b)) (ap party_or_none (same.transmitters p a b)) (determinant_same p c a b) refl refl

  point_same : (r : Rates) (p : ℕ) → 1 ≤ p → p ≤ length f.kinds → point_dues f (peak_of f) r p ≡ point_dues (framed f g) (peak_of f) r p
  unfolding point_dues
  point_same r p a b =
      let k = kind_at f.kinds p in
      ap₂ ◌++◌ (ap (when (has_charge k charge.Network)) (due_same r p charge.Network a b))
      (ap₂ ◌++◌ (ap (when (has_charge k charge.Line)) (due_same r p charge.Line a b)) (ap (when (has_charge k charge.Transformation)) (due_same r p charge.Transformation a b)))

  up_to_same : (r : Rates) (n : ℕ) → n ≤ length f.kinds → dues_up_to f (peak_of f) r n ≡ dues_up_to (framed f g) (peak_of f) r n
  up_to_same r zero le = refl
  up_to_same r (suc n) le = ap₂ ◌++◌ (up_to_same r n (omega arith)) (point_same r (suc n) (omega arith) le)

  dues_at_same : (o : Option Rates) → dues_at f o ≡ dues_at (framed f g) o
  dues_at_same None = refl
  dues_at_same (Some r) =
      up_to_same r (length f.kinds) (omega arith) ∙ ap (λ (s : Triple). dues_up_to (framed f g) s r (length f.kinds)) peak_same

  dues_same : dues_of f ≡ dues_of g
  dues_same = (dues_at_same (f.rates_on (last_day f)) ∙ ap (dues_at (framed f g)) same.rates) ∙ ap dues_of framed_is

  missing_same : (p : ℕ) → 1 ≤ p → p ≤ length f.kinds → first_of (no_sheet f.sheets p) f.days ≡ first_of (no_sheet g.sheets p) f.days
  missing_same p a b =
      first_alike (no_sheet f.sheets p) (no_sheet g.sheets p) f.days
      (λ d low high. ap (λ o. cond (is_some o) None (Some (SheetMissing p d))) (same.sheets p d a b low high))

  refusal_same : refusal_of f ≡ refusal_of g
  refusal_same =
      ap₂ option_or (first_alike (λ p. first_of (no_sheet f.sheets p) f.days) (λ p. first_of (no_sheet g.sheets p) f.days) (length f.kinds) missing_same)
      (ap₂ option_or (ap no_rates same.rates)
      (first_alike (no_parties f.customer_on f.transmitter_on (last_day f)) (no_parties g.customer_on g.transmitter_on (last_day f)) (length f.kinds)
      (λ p a b. ap₂ (λ x y. cond (is_some x && is_some y) None (Some (NothingOnRecord p))) (same.customers p a b) (same.transmitters p a b))))
      ∙ ap refusal_of framed_is

pub answer_alike : (sound : Bool) (f g : Facts) → SameFacts f g → dues_answer sound f ≡ dues_answer sound g
answer_alike sound f g same = ap₂ (λ o (ds : List DueFacts). cond sound (unless o ds) (Err Unsound)) (refusal_same f g same) (dues_same f g same)
