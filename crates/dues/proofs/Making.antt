-- A due, made of its parts.
use Rattle.std.proofs.Common.{◌≡◌, ℕ, true, ℤ, pos, is_some, IfSome, Some, None, Option, sym, refl, ap, ◌∙◌, subst, ap₂, arith, w64, to_z}
use Rattle.std.proofs.lemmas.Int.{to_z_pos}
use Rattle.std.proofs.lemmas.Bool.{and_parts, false≢true, cond-true}
use Rattle.readings.specs.Options.{from_passed}
use Rattle.tariff.specs.declared.charge.Charge.{Charge}
use Rattle.tariff.specs.declared.charge.Charge.TheVariants as charge
use Rattle.tariff.specs.declared.parties.PartyNumber.{PartyNumber}
use Rattle.tariff.specs.declared.parties.Rates.{Rates}
use Rattle.tariff.specs.Parties.{rate_of, party_in_range}
use Rattle.hours.specs.Hours.{is_in_service}
use Rattle.demand.specs.Peaks.{Triple}
use Rattle.demand.specs.Charges.{charge_of, charged, Nearest}
use Rattle.demand.specs.Determinants.{network_determinant, connection_determinant}
use Rattle.ledger.specs.declared.due.Due.{Due}
use Rattle.ledger.specs.Lines.{sound_account}
use Rattle.ledger.specs.Dues.{DueFacts, sound_due, facts_if, due_from}
use Rattle.dues.specs.Facts.{Facts, last_day}
use Rattle.dues.specs.Dues.{determinant_of, party_or_none, due_of}

module _ (f : Facts) (system : Triple) (p : ℕ) where
  pub at_network : (c : Charge) → c ≡ charge.Network → network_determinant f.sheets f.admits f.days system p ≡ determinant_of f system p c
  unfolding determinant_of
  at_network c e = ap (determinant_of f system p) (sym e)

  pub at_line : (c : Charge) → c ≡ charge.Line → connection_determinant f.sheets (is_in_service f.days f.first (f.served_on p)) f.days p ≡ determinant_of f system p c
  unfolding determinant_of
  at_line c e = ap (determinant_of f system p) (sym e)

  pub at_transformation : (c : Charge) → c ≡ charge.Transformation → connection_determinant f.sheets (is_in_service f.days f.first (f.served_on p)) f.days p ≡ determinant_of f system p c
  unfolding determinant_of
  at_transformation c e = ap (determinant_of f system p) (sym e)

-- the record of a due from its parts
abbrev made_of : ℕ → Charge → PartyNumber → PartyNumber → ℤ → Triple → DueFacts
made_of p c customer transmitter cents x =
    record { account = record { point = p; charge = c; customer = customer; transmitter = transmitter }; cents = cents; quantity = x.0; day = x.1; hour = x.2 }

pub due_made : (f : Facts) (system : Triple) (rates : Rates) (p : ℕ) (c : Charge) (customer transmitter : PartyNumber) (rate : ℕ) (cents : ℤ) (x : Triple)
    → customer ≡ party_or_none (f.customer_on p (last_day f))
    → transmitter ≡ party_or_none (f.transmitter_on p (last_day f))
    → x ≡ determinant_of f system p c
    → rate ≡ rate_of rates c
    → cents ≡ pos (charge_of x.0 rate)
    → made_of p c customer transmitter cents x ≡ due_of f system rates p c
unfolding due_of
due_made f system rates p c customer transmitter rate cents x ec et ex er em =
    let much = em ∙ ap₂ (λ (y : Triple) r. pos (charge_of y.0 r)) ex er in
    λ i. made_of p c (ec i) (et i) (much i) (ex i)

-- ---- what a sound due says of its parties

some_party : (o : Option PartyNumber) → party_in_range (party_or_none o) ≡ true → is_some o ≡ true
some_party None e = absurd (false≢true e)
some_party (Some x) e = refl

module _ (f : Facts) (system : Triple) (rates : Rates) (p : ℕ) (c : Charge) (sound : sound_due (due_of f system rates p c) ≡ true) where
  parties : sound_account (due_of f system rates p c).account ≡ true
  parties = (and_parts _ _ (and_parts _ _ sound).0).0

  pub customer_there : is_some (f.customer_on p (last_day f)) ≡ true
  unfolding due_of
  customer_there = some_party _ (and_parts _ _ (and_parts _ _ parties).0).1

  pub transmitter_there : is_some (f.transmitter_on p (last_day f)) ≡ true
  unfolding due_of
  transmitter_there = some_party _ (and_parts _ _ parties).1

-- ---- the whole

-- all that a due is made of, as the calls answer it
pub due_whole : (f : Facts) (system : Triple) (rates : Rates) (p : ℕ) (c : Charge) → sound_due (due_of f system rates p c) ≡ true
    → (oc ot : Option PartyNumber) (customer transmitter : PartyNumber) (day : ℕ) (x : Triple) (rate : ℕ) (om : Option ℕ) (m : ℕ) (o : Option Due)
    → day ≡ last_day f
    → oc ≡ f.customer_on p day → oc ≡ Some customer
    → ot ≡ f.transmitter_on p day → ot ≡ Some transmitter
    → x ≡ determinant_of f system p c → rate ≡ rate_of rates c
    → om ≡ charged x.0 rate → IfSome om (Nearest x.0 rate) → om ≡ Some m
    → facts_if o ≡ due_from (record { point = p; charge = c; customer = customer; transmitter = transmitter }) (to_z w64 m) x.0 x.1 x.2
    → facts_if o ≡ Some (due_of f system rates p c)
due_whole f system rates p c sound oc ot customer transmitter day x rate om m o ed ec ec' et et' ex er em near em' eo =
    let much : Some (charge_of x.0 rate) ≡ Some m = (from_passed _ (Some (charge_of x.0 rate)) m (sym em ∙ em')).1 in
    let amount : m ≡ charge_of x.0 rate = cc in
    let small = (subst (λ y. IfSome y (Nearest x.0 rate)) em' near).small in
    let is : made_of p c customer transmitter (to_z w64 m) x ≡ due_of f system rates p c =
    due_made f system rates p c customer transmitter rate (to_z w64 m) x
    (sym (ap party_or_none (sym (ec ∙ ap (f.customer_on p) ed) ∙ ec'))) (sym (ap party_or_none (sym (et ∙ ap (f.transmitter_on p) ed) ∙ et')))
    ex er (to_z_pos w64 m (omega arith) ∙ ap pos amount) in
    eo ∙ (cond-true _ _ _ (ap sound_due is ∙ sound) ∙ ap Some is)
