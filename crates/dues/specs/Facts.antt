-- All that the dues of a month are worked out from, as plain functions, and what is lacking.
use Rattle.std.specs.Prelude.{ℕ, ◌+◌, ◌-◌, Bool, cond, ◌&&◌, List, length, is_some, Some, None, Option}
use Rattle.std.specs.Option.{option_or}
use Rattle.tariff.specs.declared.parties.PartyNumber.{PartyNumber}
use Rattle.tariff.specs.declared.parties.Rates.{Rates}
use Rattle.tariff.specs.declared.points.PointKind.{PointKind}
use Rattle.tariff.specs.declared.refusal.Refusal.{Refusal}
use Rattle.tariff.specs.declared.refusal.Refusal.TheVariants.{NothingOnRecord}
use Rattle.tariff.specs.Shelves.{items}
use Rattle.readings.specs.Meaning.{Sheets}
use Rattle.readings.specs.Missing.{first_of, first_missing}
use Rattle.records.specs.Books.{latest}
use Rattle.hours.specs.Services.{serves_on}
use Rattle.dues.specs.Records.{Records}

-- points and the month's days are counted from 1, and records go by day numbers
pub record Facts : Type 0 where
  pub kinds : List PointKind
  pub days : ℕ
  -- the day number of the first day
  pub first : ℕ
  pub sheets : Sheets
  -- the hours of the peak period
  pub admits : ℕ → ℕ → Bool
  pub customer_on : ℕ → ℕ → Option PartyNumber
  pub transmitter_on : ℕ → ℕ → Option PartyNumber
  pub served_on : ℕ → ℕ → Bool
  pub rates_on : ℕ → Option Rates

-- by what the four histories have on record
abbrev pub facts_by : List PointKind → ℕ → ℕ → Sheets → (ℕ → ℕ → Bool) → Records → Facts
facts_by kinds days first sheets admits records = record {
  kinds = kinds;
  days = days;
  first = first;
  sheets = sheets;
  admits = admits;
  customer_on = latest (items records.customers);
  transmitter_on = latest (items records.transmitters);
  served_on = serves_on records.service;
  rates_on = latest (items records.rates) 0;
}

-- the day number of the last day
abbrev pub last_day : Facts → ℕ
last_day f = f.first + f.days - 1

abbrev pub no_rates : Option Rates → Option Refusal
no_rates None = Some (NothingOnRecord 0)
no_rates (Some r) = None

-- no customer or no transmitter on record
abbrev pub no_parties : (ℕ → ℕ → Option PartyNumber) → (ℕ → ℕ → Option PartyNumber) → ℕ → ℕ → Option Refusal
no_parties customer transmitter day p =
    cond (is_some (customer p day) && is_some (transmitter p day)) None (Some (NothingOnRecord p))

-- the first sheet that is missing, else that there are no rates, else the first point without its parties
abbrev pub refusal_of : Facts → Option Refusal
refusal_of f =
    option_or (first_missing f.sheets (length f.kinds) f.days)
    (option_or (no_rates (f.rates_on (last_day f))) (first_of (no_parties f.customer_on f.transmitter_on (last_day f)) (length f.kinds)))
