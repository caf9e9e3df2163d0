-- The ranges of party numbers and rates.
use Rattle.std.specs.Prelude.{ℕ, Bool, ◌&&◌, nat_le}
use Rattle.tariff.specs.declared.charge.Charge.{Charge}
use Rattle.tariff.specs.declared.charge.Charge.TheVariants.{Network, Line, Transformation}
use Rattle.tariff.specs.declared.parties.PartyNumber.{PartyNumber}
use Rattle.tariff.specs.declared.parties.Rates.{Rates}
use Rattle.tariff.specs.Ranges.{between}

abbrev pub party_in_range : PartyNumber → Bool
party_in_range p = between 1 999999999 p.number

abbrev pub rate_of : Rates → Charge → ℕ
rate_of r Network = r.network
rate_of r Line = r.line
rate_of r Transformation = r.transformation

-- each rate is at most 10,000,000 hundred-thousandths of a dollar per kW
abbrev pub rates_in_range : Rates → Bool
rates_in_range r = nat_le r.network 10000000 && (nat_le r.line 10000000 && nat_le r.transformation 10000000)
