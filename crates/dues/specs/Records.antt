-- The four histories of a month, as values.
use Rattle.std.specs.Prelude.{Bool, true, ◌&&◌}
use Rattle.tariff.specs.declared.parties.PartyNumber.{PartyNumber}
use Rattle.tariff.specs.declared.parties.Rates.{Rates}
use Rattle.tariff.specs.declared.parties.Service.{Service}
use Rattle.tariff.specs.Parties.{party_in_range, rates_in_range}
use Rattle.tariff.specs.Shelves.{Shelf}
use Rattle.records.specs.declared.dated.Dated.{Dated}
use Rattle.records.specs.Soundness.{sound_within}

pub record Records : Type 0 where
  pub customers : Shelf (Dated PartyNumber)
  pub transmitters : Shelf (Dated PartyNumber)
  pub service : Shelf (Dated Service)
  pub rates : Shelf (Dated Rates)

-- points are subjects 1 to 400, and the rates stand under subject 0
abbrev pub sound_records : Records → Bool
sound_records r =
    sound_within party_in_range 1 400 r.customers
    && (sound_within party_in_range 1 400 r.transmitters
    && (sound_within (λ _. true) 1 400 r.service
    && sound_within rates_in_range 0 0 r.rates))
