-- What the accounts of a month are due once its dues are settled: those of its charges by one due each, all others nothing.
use Rattle.std.proofs.Common.{◌≡◌, ℕ, ◌≤◌, Bool, true, false, cond, ◌&&◌, List, length, pos, is_some, Some, None, Option, sym, refl, ap, ◌∙◌, ap₂}
use Rattle.std.specs.Option.{option_or}
use Rattle.std.specs.List.{AllByRecursion}
use Rattle.std.proofs.ByRecursion.{all-has}
use Rattle.std.proofs.lemmas.Bool.{and_parts, false≢true}
use Rattle.tariff.specs.declared.parties.PartyNumber.{PartyNumber}
use Rattle.tariff.specs.declared.parties.Rates.{Rates}
use Rattle.tariff.specs.declared.refusal.Refusal.{Refusal}
use Rattle.tariff.specs.declared.refusal.Refusal.TheVariants.{NothingOnRecord}
use Rattle.tariff.specs.Points.{kind_at}
use Rattle.readings.specs.Missing.{first_of, first_missing}
use Rattle.readings.specs.Options.{none_some, from_none}
use Rattle.readings.proofs.Firsts.{right_none, left_none, none_before}
use Rattle.demand.specs.Peaks.{Triple}
use Rattle.ledger.specs.declared.line.Account.{Account}
use Rattle.ledger.specs.declared.line.Line.{Line}
use Rattle.ledger.specs.Issues.{is_on_record, Settled, Unmoved}
use Rattle.ledger.specs.Lines.{same_party}
use Rattle.ledger.specs.Sums.{total_of}
use Rattle.dues.specs.Facts.{Facts, last_day, no_rates, no_parties, refusal_of}
use Rattle.dues.specs.Dues.{has_charge, peak_of, party_or_none, due_of, dues_of}
use Rattle.dues.proofs.Covering.{declared_within, covers_own, due_among, covered}
use Rattle.month.specs.Books.{is_party, on_record, charge_due, due_by}

party_is : (o : Option PartyNumber) (k : PartyNumber) → is_some o ≡ true → same_party (party_or_none o) k ≡ is_party o k
party_is None k e = absurd (false≢true e)
party_is (Some x) k e = refl

some_rates : (o : Option Rates) → no_rates o ≡ None → (r : Rates) × (o ≡ Some r)
some_rates None e = none_some _ (sym e)
some_rates (Some r) e = (r, refl)

-- where nothing is lacking
module _ (f : Facts) (complete : refusal_of f ≡ None) where
  abbrev unrecorded : Option Refusal
  unrecorded = first_of (no_parties f.customer_on f.transmitter_on (last_day f)) (length f.kinds)

  abbrev rates_missing : Option Refusal
  rates_missing = no_rates (f.rates_on (last_day f))

  all_on_record : option_or rates_missing unrecorded ≡ None
  all_on_record = right_none (first_missing f.sheets (length f.kinds) f.days) (option_or rates_missing unrecorded) complete

  parties_known : (p : ℕ) → 1 ≤ p → p ≤ length f.kinds → (is_some (f.customer_on p (last_day f)) ≡ true) × (is_some (f.transmitter_on p (last_day f)) ≡ true)
  parties_known p low high =
      let all = right_none rates_missing unrecorded all_on_record in
      let here = none_before (no_parties f.customer_on f.transmitter_on (last_day f)) (length f.kinds) p all low high in
      and_parts _ _ (from_none (is_some (f.customer_on p (last_day f)) && is_some (f.transmitter_on p (last_day f))) None (NothingOnRecord p) here).0

  record_is : (system : Triple) (rates : Rates) (a : Account) → 1 ≤ a.point → a.point ≤ length f.kinds → is_on_record (due_of f system rates a.point a.charge) a ≡ on_record f a
  unfolding due_of
  record_is system rates a low high =
      let known = parties_known a.point low high in
      ap₂ ◌&&◌ (party_is (f.customer_on a.point (last_day f)) a.customer known.0) (party_is (f.transmitter_on a.point (last_day f)) a.transmitter known.1)

  -- once the dues are settled and nothing else has moved, every account has what it is due
  module _ (old new : List Line) (all : AllByRecursion (Settled new) (dues_of f)) (still : Unmoved (dues_of f) old new) (a : Account) where
    by_charge : (rates : Rates) → f.rates_on (last_day f) ≡ Some rates
        → (b : Bool) → has_charge (kind_at f.kinds a.point) a.charge ≡ b → (b ≡ false → total_of a old ≡ pos 0)
        → total_of a new ≡ cond (b && on_record f a) (charge_due f (Some rates) a) (pos 0)
    by_charge rates on true is before =
        let at = declared_within f.kinds a.point a.charge is in
        let due = due_of f (peak_of f) rates a.point a.charge in
        all-has (Settled new) (dues_of f) due all (due_among f rates on a.point a.charge is) a (covers_own f (peak_of f) rates a)
        ∙ ap (λ r. cond r due.cents (pos 0)) (record_is (peak_of f) rates a at.0 at.1)
    by_charge rates on false is before = still a (covered f rates on a ∙ is) ∙ before refl

    pub now_due : (has_charge (kind_at f.kinds a.point) a.charge ≡ false → total_of a old ≡ pos 0) → total_of a new ≡ due_by f a
    now_due before =
        let has = has_charge (kind_at f.kinds a.point) a.charge in
        let known = some_rates (f.rates_on (last_day f)) (left_none rates_missing unrecorded all_on_record) in
        by_charge known.0 known.1 has refl before
        ∙ ap (λ o. cond (has && on_record f a) (charge_due f o a) (pos 0)) (sym known.1)

-- an account of a charge that its point does not have
pub nothing_due : (f : Facts) (a : Account) → has_charge (kind_at f.kinds a.point) a.charge ≡ false → due_by f a ≡ pos 0
nothing_due f a e = ap (λ b. cond (b && on_record f a) (charge_due f (f.rates_on (last_day f)) a) (pos 0)) e
