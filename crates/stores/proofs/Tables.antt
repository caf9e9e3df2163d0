-- What a table of numbers means, and what a day that is written changes.
use Rattle.std.proofs.Common.{◌≡◌, ℕ, ◌+◌, ◌-◌, ◌*◌, ◌%◌, ◌<◌, ◌≤◌, true, ◌&&◌, List, [], ◌∷◌, ◌++◌, map, length, get_or, take, drop, replicate, is_ok, None, sym, refl, ap, ◌∙◌, arith}
use Rattle.std.specs.List.{AllByRecursion}
use Rattle.std.proofs.lemmas.List.{get_or-replicate, length-replicate, length-map, length-take-le, length-drop, get_or-take, get_or-drop, get_or_append_left, get_or-append_right, length-append}
use Rattle.std.proofs.lemmas.Bool.{cond_both, cond-true, cond-false, and_parts, eq-eqb, lt-ltb, le-ltb}
use Rattle.tariff.specs.declared.reading.Reading.{Reading}
use Rattle.tariff.specs.declared.reading.Reading.TheVariants.{Withdrawal, Injection}
use Rattle.tariff.specs.Readings.{Allowed}
use Rattle.tariff.specs.Ranges.{within, between_parts}
use Rattle.readings.specs.Meaning.{no_sheets}
use Rattle.stores.specs.Words.{encoded, decoded, offset, day_at, table, with_day}
use Rattle.stores.specs.Room.{room_judged}
use Rattle.stores.specs.TableLaws.{offset_within}
use Rattle.stores.proofs.Passing.{room_enough}

decoded_encoded : (r : Reading) → Allowed r → decoded (encoded r) ≡ r
decoded_encoded (Withdrawal q) h = cond-true _ _ _ (lt-ltb q 100000000 (omega arith))
decoded_encoded (Injection q) h = let e : (q + 100000000) % 100000000 ≡ q = omega arith in cond-false _ _ _ (le-ltb (q + 100000000) 100000000 (omega arith)) ∙ ap Injection e

pub all_decoded : (rs : List Reading) → AllByRecursion Allowed rs → map decoded (map encoded rs) ≡ rs
all_decoded [] h = refl
all_decoded (r ∷ rs) h = let e = decoded_encoded r h.0 in let f = all_decoded rs h.1 in cc

module _ (n days : ℕ) (ws : List ℕ) (fits : n * days * 24 ≤ length ws) where
  -- where each number is the mark of a missing reading, there is no sheet
  table_clear : ws ≡ replicate (length ws) 4294967295 → table n days ws ≡ no_sheets n days
  table_clear e = λ i. record { points = n; days = days; sheets = λ p d. none p d i }
    where
      none : (p d : ℕ) → (table n days ws).sheets p d ≡ None
      none p d = cond_both (within n p && within days d) (day_at ws (offset days p d)) None (λ x. x ≡ None)
          (λ inside.
          let (wp, wd) = and_parts (within n p) (within days d) inside in
          let (p1, pn) = between_parts 1 n p wp in
          let (d1, dn) = between_parts 1 days d wd in
          let h = offset_within n days p d p1 pn d1 dn in
          let v : get_or ws (offset days p d) 0 ≡ 4294967295 = ap (λ xs. get_or xs (offset days p d) 0) e ∙ get_or-replicate (length ws) (offset days p d) 4294967295 0 (omega arith) in
          cond-true _ _ _ (eq-eqb _ _ v))
          (λ _. refl)

pub table_cleared : (n days len : ℕ) (ws : List ℕ) → is_ok (room_judged n days (n * days * 24) len) ≡ true → ws ≡ replicate len 4294967295 → table n days ws ≡ no_sheets n days
table_cleared n days len ws room e =
    let same : length ws ≡ len = ap length e ∙ length-replicate len 4294967295 in
    table_clear n days ws (omega (arith, room_enough n days (n * days * 24) len room)) (e ∙ ap (λ k. replicate k 4294967295) (sym same))

-- a table with one day's numbers written
module _ (ws : List ℕ) (o : ℕ) (rs : List Reading) (full : length rs ≡ 24) (fits : o + 24 ≤ length ws) where
  front : length (take o ws) ≡ o
  front = length-take-le o ws (omega arith)

  middle : length (map encoded rs) ≡ 24
  middle = length-map rs encoded ∙ full

  pub length_with_day : length (with_day ws o rs) ≡ length ws
  length_with_day = simp (length-append, length-drop) (omega (arith, front, middle))

  pub with_day_before : (k : ℕ) → k < o → get_or (with_day ws o rs) k 0 ≡ get_or ws k 0
  with_day_before k h = get_or_append_left (take o ws) _ 0 k (omega (arith, front)) ∙ get_or-take o ws k 0 h

  past : (k : ℕ) → get_or (with_day ws o rs) (o + k) 0 ≡ get_or (map encoded rs ++ drop (o + 24) ws) k 0
  past k = let e : o + k - o ≡ k = omega arith in get_or-append_right (take o ws) (map encoded rs ++ drop (o + 24) ws) o (o + k) 0 front (omega arith) ∙ ap (λ j. get_or (map encoded rs ++ drop (o + 24) ws) j 0) e

  pub with_day_here : (k : ℕ) → k < 24 → get_or (with_day ws o rs) (o + k) 0 ≡ get_or (map encoded rs) k 0
  with_day_here k h = past k ∙ get_or_append_left (map encoded rs) _ 0 k (omega (arith, middle))

  pub with_day_after : (k : ℕ) → o + 24 ≤ k → get_or (with_day ws o rs) k 0 ≡ get_or ws k 0
  with_day_after k h =
      let e : o + (k - o) ≡ k = omega arith in
      let f : o + 24 + (k - o - 24) ≡ k = omega arith in
      ap (λ j. get_or (with_day ws o rs) j 0) (sym e) ∙ past (k - o)
      ∙ get_or-append_right (map encoded rs) (drop (o + 24) ws) 24 (k - o) 0 middle (omega arith)
      ∙ get_or-drop (o + 24) ws (k - o - 24) 0 ∙ ap (λ j. get_or ws j 0) f
