-- The dues of a month, by point and then by charge.
use Rattle.std.specs.Prelude.{ℕ, zero, suc, ◌+◌, Bool, false, cond, List, [], ◌∷◌, ◌++◌, length, pos, Some, None, Ok, Err, Option, Result}
use Rattle.std.specs.Option.{unwrap_or}
use Rattle.tariff.specs.declared.charge.Charge.{Charge}
use Rattle.tariff.specs.declared.charge.Charge.TheVariants as charge
use Rattle.tariff.specs.declared.parties.PartyNumber.{PartyNumber}
use Rattle.tariff.specs.declared.parties.Rates.{Rates}
use Rattle.tariff.specs.declared.points.PointKind.{PointKind}
use Rattle.tariff.specs.declared.refusal.Refusal.{Refusal}
use Rattle.tariff.specs.declared.refusal.Refusal.TheVariants.{Unsound}
use Rattle.tariff.specs.Parties.{rate_of}
use Rattle.tariff.specs.Points.{has, kind_at}
use Rattle.hours.specs.Hours.{is_in_service}
use Rattle.demand.specs.Peaks.{Triple}
use Rattle.demand.specs.Charges.{charge_of}
use Rattle.demand.specs.Determinants.{system_peak_of, network_determinant, connection_determinant}
use Rattle.ledger.specs.Dues.{DueFacts}
use Rattle.dues.specs.Facts.{Facts, last_day, refusal_of}

-- whether a point has a charge: one that is not declared has none
abbrev pub has_charge : Option PointKind → Charge → Bool
has_charge None c = false
has_charge (Some kind) c = has kind c

-- how many charges it has
abbrev pub charge_count : Option PointKind → ℕ
charge_count k =
    cond (has_charge k charge.Network) 1 0 + (cond (has_charge k charge.Line) 1 0 + cond (has_charge k charge.Transformation) 1 0)

abbrev pub peak_of : Facts → Triple
peak_of f = system_peak_of f.kinds f.days f.sheets

-- what a charge of a point is made of, with its day and hour, where the system peak is known
unfoldable pub determinant_of : Facts → Triple → ℕ → Charge → Triple
determinant_of f system p charge.Network = network_determinant f.sheets f.admits f.days system p
determinant_of f system p charge.Line = connection_determinant f.sheets (is_in_service f.days f.first (f.served_on p)) f.days p
determinant_of f system p charge.Transformation = connection_determinant f.sheets (is_in_service f.days f.first (f.served_on p)) f.days p

-- number 0 where there is none on record
abbrev pub party_or_none : Option PartyNumber → PartyNumber
party_or_none o = unwrap_or o (record { number = 0 })

unfoldable pub due_of : Facts → Triple → Rates → ℕ → Charge → DueFacts
due_of f system rates p c = record {
  account = record {
    point = p;
    charge = c;
    customer = party_or_none (f.customer_on p (last_day f));
    transmitter = party_or_none (f.transmitter_on p (last_day f));
  };
  cents = pos (charge_of (determinant_of f system p c).0 (rate_of rates c));
  quantity = (determinant_of f system p c).0;
  day = (determinant_of f system p c).1;
  hour = (determinant_of f system p c).2;
}

abbrev pub when : {X : Type 0} → Bool → X → List X
when b x = cond b (x ∷ []) []

-- the dues of one point, by charge
unfoldable pub point_dues : Facts → Triple → Rates → ℕ → List DueFacts
point_dues f system rates p =
    when (has_charge (kind_at f.kinds p) charge.Network) (due_of f system rates p charge.Network)
    ++ (when (has_charge (kind_at f.kinds p) charge.Line) (due_of f system rates p charge.Line)
    ++ when (has_charge (kind_at f.kinds p) charge.Transformation) (due_of f system rates p charge.Transformation))

-- those of the first n points
abbrev pub dues_up_to : Facts → Triple → Rates → ℕ → List DueFacts
dues_up_to f system rates zero = []
dues_up_to f system rates (suc n) = dues_up_to f system rates n ++ point_dues f system rates (suc n)

abbrev pub dues_at : Facts → Option Rates → List DueFacts
dues_at f None = []
dues_at f (Some rates) = dues_up_to f (peak_of f) rates (length f.kinds)

abbrev pub dues_of : Facts → List DueFacts
dues_of f = dues_at f (f.rates_on (last_day f))

abbrev pub unless : {X : Type 0} → Option Refusal → X → Result X Refusal
unless None x = Ok x
unless (Some e) x = Err e

-- what working out the dues answers: histories that are not sound are refused first
abbrev pub dues_answer : Bool → Facts → Result (List DueFacts) Refusal
dues_answer sound f = cond sound (unless (refusal_of f) (dues_of f)) (Err Unsound)
