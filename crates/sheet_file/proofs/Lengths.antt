-- A line's text as it grows, and how long it is.
use Rattle.std.proofs.Common.{◌≡◌, ℕ, ◌+◌, ◌*◌, ◌<◌, ◌≤◌, true, false, cond, leb, List, [], ◌∷◌, ◌++◌, length, get_or, take, Some, Ok, Err, decimal, sym, refl, ap, ◌∙◌, arith, length-append}
use Rattle.std.specs.List.{AllByRecursion}
use Rattle.std.proofs.lemmas.List.{take_more, flat_map_more}
use Rattle.std.proofs.lemmas.Fmt.{length-decimal-le}
use Rattle.std.proofs.lemmas.Bool.{leb-true}
use Rattle.tariff.specs.Ranges.{within, between_parts}
use Rattle.tariff.specs.Readings.{quantity_of, Allowed, too_large}
use Rattle.tariff.specs.Sheets.{judged, quantities_judged}
use Rattle.tariff.specs.declared.reading.Reading.{Reading}
use Rattle.tariff.specs.declared.reading.Reading.TheVariants.{Withdrawal, Injection}
use Rattle.tariff.specs.declared.reading.Sheet.{Sheet}
use Rattle.tariff.specs.declared.refusal.Refusal.TheVariants.{UnknownPoint, UnknownDay}
use Rattle.sheet_file.specs.Writing.{reading_text, hours_text, sheet_text, sheet_line}

pub hours_more : (t : List ℕ) (rs : List Reading) (i : ℕ) (d : Reading) → i < length rs → (t ++ hours_text (take i rs)) ++ (124 ∷ reading_text (get_or rs i d)) ≡ t ++ hours_text (take (i + 1) rs)
hours_more t rs i d h =
    flat_map_more (λ r. 124 ∷ reading_text r) t (take i rs) (get_or rs i d) ∙ ap (λ l. t ++ hours_text l) (sym (take_more rs i d h))

-- what a sheet that may be taken holds
pub record Small (s : Sheet) : Type 0 where
  pub point : s.point ≤ 400
  pub day : s.day ≤ 31
  pub quantities : AllByRecursion Allowed s.readings

allowed : (h : ℕ) (rs : List Reading) → quantities_judged (too_large h rs) ≡ Ok tt → AllByRecursion Allowed rs
allowed h [] e = tt
allowed h (r ∷ rs) e =
    elim (leb (quantity_of r) 99999999) as (λ b. leb (quantity_of r) 99999999 ≡ b → quantities_judged (cond b (too_large (h + 1) rs) (Some h)) ≡ Ok tt → AllByRecursion Allowed (r ∷ rs)) [
      | true ↦ λ is e. (leb-true (quantity_of r) 99999999 is, allowed (h + 1) rs e)
      | false ↦ λ is e. let z : ◌≡◌ {A = ℕ} 0 1 = cc in absurd (omega arith)
    ] refl e

pub small_from_judged : (s : Sheet) → judged 400 31 s ≡ Ok tt → Small s
small_from_judged s e =
    elim (within 400 s.point) as (λ b. within 400 s.point ≡ b → cond b (cond (within 31 s.day) (quantities_judged (too_large 1 s.readings)) (Err UnknownDay)) (Err UnknownPoint) ≡ Ok tt → Small s) [
      | true ↦ λ is e.
          elim (within 31 s.day) as (λ b. within 31 s.day ≡ b → cond b (quantities_judged (too_large 1 s.readings)) (Err UnknownDay) ≡ Ok tt → Small s) [
            | true ↦ λ too e. record {
              point = (between_parts 1 400 s.point is).1;
              day = (between_parts 1 31 s.day too).1;
              quantities = allowed 1 s.readings e;
            }
            | false ↦ λ too e. let z : ◌≡◌ {A = ℕ} 0 1 = cc in absurd (omega arith)
          ] refl e
      | false ↦ λ is e. let z : ◌≡◌ {A = ℕ} 0 1 = cc in absurd (omega arith)
    ] refl e

reading_short : (r : Reading) → Allowed r → length (reading_text r) ≤ 9
reading_short (Withdrawal q) h = let short = length-decimal-le 8 q (omega arith) (omega arith) (omega arith) in omega arith
reading_short (Injection q) h = let short = length-decimal-le 8 q (omega arith) (omega arith) (omega arith) in omega arith

hours_short : (rs : List Reading) → AllByRecursion Allowed rs → length (hours_text rs) ≤ 10 * length rs
hours_short [] h = omega arith
hours_short (r ∷ rs) h =
    omega (arith, reading_short r h.0, hours_short rs h.1, length-append (reading_text r) (hours_text rs))

-- 3 and 2 digits, 24 hours of at most 10 bytes, a bar and the end
pub line_short : (s : Sheet) → Small s → length s.readings ≡ 24 → length (sheet_line s) ≤ 247
line_short s small long =
    let head = decimal s.point ++ 124 ∷ decimal s.day in
    omega (
      arith,
      length-append (sheet_text s) (10 ∷ []),
      length-append head (hours_text s.readings),
      length-append (decimal s.point) (124 ∷ decimal s.day),
      length-decimal-le 3 s.point (omega arith) (omega (arith, small.point)) (omega (arith, small.point)),
      length-decimal-le 2 s.day (omega arith) (omega (arith, small.day)) (omega (arith, small.day)),
      hours_short s.readings small.quantities,
    )
