-- The demands that sheets tell.
use Rattle.std.specs.Prelude.{ℕ, zero, suc, ◌+◌, cond, List, Some, None, Option}
use Rattle.tariff.specs.declared.points.PointKind.{PointKind}
use Rattle.tariff.specs.declared.reading.Reading.{Reading}
use Rattle.tariff.specs.Points.{is_network, kind_at}
use Rattle.tariff.specs.Readings.{demand_of}
use Rattle.readings.specs.Meaning.{Sheets, hour_of}

-- the demand of a reading: 0 where there is none
abbrev pub demand_if : Option Reading → ℕ
demand_if None = 0
demand_if (Some r) = demand_of r

abbrev pub demand_at : Sheets → ℕ → ℕ → ℕ → ℕ
demand_at sheets p d h = demand_if (hour_of (sheets p d) h)

-- a demand, where it is that of a network point
abbrev pub if_network : Option PointKind → ℕ → ℕ
if_network None q = 0
if_network (Some kind) q = cond (is_network kind) q 0

-- what the point p adds to the demand of the network points
abbrev pub network_demand_of : List PointKind → Sheets → ℕ → ℕ → ℕ → ℕ
network_demand_of kinds sheets d h p = if_network (kind_at kinds p) (demand_at sheets p d h)

-- the demand of the network points among the first n, together
abbrev pub network_demand : List PointKind → Sheets → ℕ → ℕ → ℕ → ℕ
network_demand kinds sheets d h zero = 0
network_demand kinds sheets d h (suc n) = network_demand kinds sheets d h n + network_demand_of kinds sheets d h (suc n)
