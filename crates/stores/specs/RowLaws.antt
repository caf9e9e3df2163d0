-- Why the sheets of sound rows have 24 readings within the limit.
use Rattle.std.specs.Prelude.{◌≡◌, ℕ, Bool, true, false, cond, not, List, [], ◌∷◌, length, is_some, Some, Option, ◌==◌, refl}
use Rattle.std.proofs.lemmas.Bool.{and_parts, eqb-true, not-true}
use Rattle.tariff.specs.declared.reading.Reading.{Reading}
use Rattle.tariff.specs.Ranges.{within}
use Rattle.readings.specs.Meaning.{Proper}
use Rattle.readings.specs.Options.{none_some, none_from}
use Rattle.stores.specs.declared.row_store.Row.{Row}
use Rattle.stores.specs.Limits.{all_allowed}
use Rattle.stores.specs.Rows.{matches, sheet_in, row_ok, rows_ok, of_rows}

-- what one row that may be stored gives at its place
row_proper : (n days : ℕ) (all : List Row) (x : Row) → row_ok n days x ≡ true → Proper (of_rows n days all) x.point x.day x.readings
row_proper n days all x ok =
    let (wp, a) = and_parts (within n x.point) _ ok in
    let (wd, b) = and_parts (within days x.day) _ a in
    let (full, c) = and_parts (length x.readings == 24) _ b in
    record { point = wp; day = wd; full = eqb-true _ _ full; limited = all_allowed 1 x.readings (none_from _ (not-true _ c)) }

at_head : (n days : ℕ) (all : List Row) (b : Bool) (p d : ℕ) (rs : List Reading) (x : Row) (rest : Option (List Reading)) → (matches p d x ≡ b)
    → row_ok n days x ≡ true → (rest ≡ Some rs → Proper (of_rows n days all) p d rs)
    → cond b (Some x.readings) rest ≡ Some rs → Proper (of_rows n days all) p d rs
at_head n days all true p d rs x rest m ok later e =
    let (ep, ed) = and_parts (p == x.point) (d == x.day) m in
    let here = row_proper n days all x ok in
    let is : x.readings ≡ rs = cc in
    rw (eqb-true p x.point ep, eqb-true d x.day ed, ← is) here
at_head n days all false p d rs x rest m ok later e = later e

pub rows_sound : (n days : ℕ) (all xs : List Row) → rows_ok n days xs ≡ true → (p d : ℕ) (rs : List Reading) → sheet_in p d xs ≡ Some rs → Proper (of_rows n days all) p d rs
rows_sound n days all [] ok p d rs e = none_some rs e
rows_sound n days all (x ∷ xs) ok p d rs e =
    let (here, a) = and_parts (row_ok n days x) _ ok in
    let (_, later) = and_parts (not (is_some (sheet_in x.point x.day xs))) _ a in
    at_head n days all (matches p d x) p d rs x (sheet_in p d xs) refl here (rows_sound n days all xs later p d rs) e
