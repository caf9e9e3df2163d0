-- What the soundness of readings bounds.
use Rattle.std.proofs.Common.{◌≡◌, ℕ, ◌-◌, ◌≤◌, List, get_or, Some, None, Option, refl, arith}
use Rattle.std.proofs.ByRecursion.{All-get_or}
use Rattle.std.proofs.lemmas.Bool.{cond_both}
use Rattle.tariff.specs.declared.reading.Reading.{Reading}
use Rattle.tariff.specs.declared.reading.Reading.TheVariants.{Withdrawal, Injection}
use Rattle.tariff.specs.Ranges.{within, between_parts}
use Rattle.tariff.specs.Readings.{quantity_of, demand_of, Allowed}
use Rattle.readings.specs.Meaning.{Meaning, Sound, hour_of}
use Rattle.readings.specs.Demands.{demand_if, demand_at}

pub demand_le : (r : Reading) → demand_of r ≤ quantity_of r
demand_le (Withdrawal q) = omega arith
demand_le (Injection q) = omega arith

pub demand_limited : (m : Meaning) → Sound m → (p d h : ℕ) → demand_at m.sheets p d h ≤ 99999999
demand_limited m sound p d h = go (m.sheets p d) refl
  where
    go : (o : Option (List Reading)) → m.sheets p d ≡ o → demand_if (hour_of o h) ≤ 99999999
    go None is = omega arith
    go (Some rs) is =
        let ok = sound p d rs is in
        cond_both (within 24 h) (Some (get_or rs (h - 1) (Withdrawal 0))) None (λ x. demand_if x ≤ 99999999)
        (λ inside.
        let (h1, hn) = between_parts 1 24 h inside in
        let full = ok.full in
        omega (arith, demand_le (get_or rs (h - 1) (Withdrawal 0)), All-get_or Allowed rs (h - 1) (Withdrawal 0) (omega arith) ok.limited))
        (λ _. omega arith)
