-- What it says that no hour is too large.
use Rattle.std.specs.Prelude.{◌≡◌, ℕ, ◌+◌, List, [], ◌∷◌, None, nat_le}
use Rattle.std.specs.List.{AllByRecursion}
use Rattle.std.proofs.lemmas.Bool.{leb-true}
use Rattle.tariff.specs.declared.reading.Reading.{Reading}
use Rattle.tariff.specs.Readings.{quantity_of, Allowed, too_large}
use Rattle.readings.specs.Options.{from_none}

-- where no hour is too large, each is within the limit
pub all_allowed : (h : ℕ) (rs : List Reading) → too_large h rs ≡ None → AllByRecursion Allowed rs
all_allowed h [] e = tt
all_allowed h (r ∷ rs) e = let (ok, later) = from_none (nat_le (quantity_of r) 99999999) (too_large (h + 1) rs) h e in (leb-true (quantity_of r) 99999999 ok, all_allowed (h + 1) rs later)
