-- The system peak and the billing demands, from sheets, points and the hours that count.
use Rattle.std.specs.Prelude.{ℕ, Bool, List, length}
use Rattle.tariff.specs.declared.points.PointKind.{PointKind}
use Rattle.readings.specs.Meaning.{Sheets}
use Rattle.readings.specs.Demands.{demand_at, network_demand}
use Rattle.hours.specs.Hours.{in_month}
use Rattle.demand.specs.Peaks.{Triple, peak_over}
use Rattle.demand.specs.Charges.{network_of, connection_of}

-- the peak of what the network points draw together in a month of so many days
abbrev pub system_peak_of : List PointKind → ℕ → Sheets → Triple
system_peak_of kinds days sheets = peak_over (in_month days) (λ d h. network_demand kinds sheets d h (length kinds)) days

-- that of a network point, where the system peak and the hours of the peak period are known
abbrev pub network_determinant : Sheets → (ℕ → ℕ → Bool) → ℕ → Triple → ℕ → Triple
network_determinant sheets admits days system p =
    network_of system (demand_at sheets p system.1 system.2) (peak_over admits (demand_at sheets p) days)

-- that of a connection point, where the hours in service are known
abbrev pub connection_determinant : Sheets → (ℕ → ℕ → Bool) → ℕ → ℕ → Triple
connection_determinant sheets is_in_service days p = connection_of (peak_over is_in_service (demand_at sheets p) days)
