-- What a sheet that is posted to a table changes, and what is read of a table.
use Rattle.std.proofs.Common.{◌≡◌, ℕ, ◌+◌, ◌-◌, ◌*◌, ◌<◌, ◌≤◌, Bool, true, false, cond, ◌&&◌, eqb, ◌⊎◌, List, map, length, get_or, take, drop, is_ok, Some, None, Ok, sym, refl, ap, ◌∙◌, ap₂, inl, inr, ⊎_elim, arith}
use Rattle.std.specs.List.{AllByRecursion}
use Rattle.std.proofs.ByRecursion.{All-get_or}
use Rattle.std.proofs.lemmas.List.{ext_get_or, get_or-map, length-map, length-take-le, length-drop, get_or-take, get_or-drop}
use Rattle.std.proofs.lemmas.Bool.{cond-true, cond-false, and_parts, and_from, and_left, and_right, ne_eqb, eq-eqb, cases_eq, cases_order}
use Rattle.tariff.specs.declared.reading.Reading.{Reading}
use Rattle.tariff.specs.declared.reading.Reading.TheVariants.{Withdrawal, Injection}
use Rattle.tariff.specs.declared.reading.Sheet.{Sheet}
use Rattle.tariff.specs.Readings.{Allowed}
use Rattle.tariff.specs.Ranges.{within, between_parts}
use Rattle.tariff.specs.Sheets.{judged}
use Rattle.readings.specs.Meaning.{hour_of, reading_at, posted, after_post}
use Rattle.readings.specs.Options.{from_passed}
use Rattle.stores.specs.Words.{encoded, decoded, sheets_before, offset, day_at, table, with_day}
use Rattle.stores.specs.TableLaws.{offset_within}
use Rattle.stores.proofs.Passing.{Passed, judged_ok}
use Rattle.stores.proofs.Places.{same_place}
use Rattle.stores.proofs.Tables.{all_decoded, length_with_day, with_day_before, with_day_here, with_day_after}

-- the days of two places lie apart

apart : (days p d q e : ℕ) → 1 ≤ p → 1 ≤ q → 1 ≤ d → d ≤ days → 1 ≤ e → e ≤ days → ((p ≡ q) × (d ≡ e) → ⊥)
    → (offset days p d + 24 ≤ offset days q e) ⊎ (offset days q e + 24 ≤ offset days p d)
apart days p d q e p1 q1 d1 dn e1 en differ =
    ⊎_elim
    (λ same. absurd (differ (same_place days p d q e p1 q1 d1 dn e1 en same)))
    (⊎_elim (λ lt. inl (omega arith)) (λ gt. inr (omega arith)))
    (cases_order (sheets_before days p d) (sheets_before days q e))

-- a day is known by its 24 numbers

part_same : (xs ys : List ℕ) (o : ℕ) → o + 24 ≤ length xs → o + 24 ≤ length ys → ((k : ℕ) → k < 24 → get_or xs (o + k) 0 ≡ get_or ys (o + k) 0) → take 24 (drop o xs) ≡ take 24 (drop o ys)
part_same xs ys o hx hy same =
    let lx : length (take 24 (drop o xs)) ≡ 24 = length-take-le 24 (drop o xs) (rw length-drop (omega arith)) in
    let ly : length (take 24 (drop o ys)) ≡ 24 = length-take-le 24 (drop o ys) (rw length-drop (omega arith)) in
    ext_get_or 0 (take 24 (drop o xs)) (take 24 (drop o ys)) (lx ∙ sym ly) (λ k h.
    let k24 : k < 24 = omega arith in
    get_or-take 24 (drop o xs) k 0 k24 ∙ get_or-drop o xs k 0 ∙ same k k24 ∙ sym (get_or-take 24 (drop o ys) k 0 k24 ∙ get_or-drop o ys k 0))

day_same : (xs ys : List ℕ) (o : ℕ) → o + 24 ≤ length xs → o + 24 ≤ length ys → ((k : ℕ) → k < 24 → get_or xs (o + k) 0 ≡ get_or ys (o + k) 0) → day_at xs o ≡ day_at ys o
day_same xs ys o hx hy same =
    let zero-on : o + 0 ≡ o = omega arith in
    let first : get_or xs o 0 ≡ get_or ys o 0 = rw zero-on at (same 0 (omega arith)) in
    ap₂ (λ w part. cond (eqb w 4294967295) None (Some (map decoded part))) first (part_same xs ys o hx hy same)

encoded_small : (r : Reading) → Allowed r → encoded r < 4294967295
encoded_small (Withdrawal q) h = omega arith
encoded_small (Injection q) h = omega arith

day_written : (ws : List ℕ) (o : ℕ) (rs : List Reading) → length rs ≡ 24 → o + 24 ≤ length ws → AllByRecursion Allowed rs → day_at (with_day ws o rs) o ≡ Some rs
day_written ws o rs full fits allowed =
    let ms = map encoded rs in
    let ws' = with_day ws o rs in
    let lm : length ms ≡ 24 = length-map rs encoded ∙ full in
    let lw = length_with_day ws o rs full fits in
    let zero-on : o + 0 ≡ o = omega arith in
    let first : get_or ws' o 0 ≡ encoded (get_or rs 0 (Withdrawal 0)) =
    (rw zero-on at (with_day_here ws o rs full fits 0 (omega arith))) ∙ get_or-map encoded rs 0 (Withdrawal 0) 0 (omega arith) in
    let small = encoded_small (get_or rs 0 (Withdrawal 0)) (All-get_or Allowed rs 0 (Withdrawal 0) (omega arith) allowed) in
    let ls : length (take 24 (drop o ws')) ≡ 24 = length-take-le 24 (drop o ws') (rw length-drop (omega arith)) in
    let part : take 24 (drop o ws') ≡ ms = ext_get_or 0 (take 24 (drop o ws')) ms (ls ∙ sym lm) (λ k h.
    let k24 : k < 24 = omega arith in
    get_or-take 24 (drop o ws') k 0 k24 ∙ get_or-drop o ws' k 0 ∙ with_day_here ws o rs full fits k k24) in
    cond-false (eqb (get_or ws' o 0) 4294967295) None (Some (map decoded (take 24 (drop o ws')))) (ne_eqb (get_or ws' o 0) 4294967295 (λ e. omega (arith, first, small, e)))
    ∙ ap Some (ap (map decoded) part ∙ all_decoded rs allowed)

cond_same : {X : Type 0} (b : Bool) (x y z : X) → (b ≡ true → x ≡ y) → cond b x z ≡ cond b y z
cond_same true x y z h = h refl
cond_same false x y z h = refl

module _ (n days : ℕ) (ws : List ℕ) (s : Sheet) (fits : n * days * 24 ≤ length ws) (full : length s.readings ≡ 24) (ok : Passed n days s) where
  here : (table n days (with_day ws (offset days s.point s.day) s.readings)).sheets s.point s.day ≡ Some s.readings
  here =
      let (p1, pn) = between_parts 1 n s.point ok.point in
      let (d1, dn) = between_parts 1 days s.day ok.day in
      cond-true (within n s.point && within days s.day) _ _ (and_from _ _ ok.point ok.day)
      ∙ day_written ws (offset days s.point s.day) s.readings full (omega (arith, offset_within n days s.point s.day p1 pn d1 dn)) ok.allowed

  elsewhere : (p d : ℕ) → ((p ≡ s.point) × (d ≡ s.day) → ⊥)
      → (table n days (with_day ws (offset days s.point s.day) s.readings)).sheets p d ≡ (table n days ws).sheets p d
  elsewhere p d differ = cond_same (within n p && within days d) _ _ None (λ inside.
      let (wp, wd) = and_parts (within n p) (within days d) inside in
      let (p1, pn) = between_parts 1 n p wp in
      let (d1, dn) = between_parts 1 days d wd in
      let (q1, qn) = between_parts 1 n s.point ok.point in
      let (e1, en) = between_parts 1 days s.day ok.day in
      let o = offset days s.point s.day in
      let there : offset days p d + 24 ≤ length ws = omega (arith, offset_within n days p d p1 pn d1 dn) in
      let room : o + 24 ≤ length ws = omega (arith, offset_within n days s.point s.day q1 qn e1 en) in
      let lw = length_with_day ws o s.readings full room in
      day_same (with_day ws o s.readings) ws (offset days p d) (omega (arith, lw, there)) there (λ k h.
      ⊎_elim
      (λ before. with_day_before ws o s.readings full room (offset days p d + k) (omega arith))
      (λ after. with_day_after ws o s.readings full room (offset days p d + k) (omega arith))
      (apart days p d s.point s.day p1 q1 d1 dn e1 en differ)))

  pub table_posted : table n days (with_day ws (offset days s.point s.day) s.readings) ≡ posted (table n days ws) s
  table_posted = λ i. record { points = n; days = days; sheets = λ p d. at p d i }
    where
      at : (p d : ℕ) → (table n days (with_day ws (offset days s.point s.day) s.readings)).sheets p d ≡ (posted (table n days ws) s).sheets p d
      at p d =
          ⊎_elim
          (λ ep. ⊎_elim
          (λ ed. ap₂ (λ x y. (table n days (with_day ws (offset days s.point s.day) s.readings)).sheets x y) ep ed ∙ here
          ∙ sym (cond-true (eqb p s.point && eqb d s.day) _ _ (and_from _ _ (eq-eqb p s.point ep) (eq-eqb d s.day ed))))
          (λ nd. elsewhere p d (λ h. nd h.1) ∙ sym (cond-false (eqb p s.point && eqb d s.day) _ _ (and_right _ _ (ne_eqb d s.day nd))))
          (cases_eq d s.day))
          (λ np. elsewhere p d (λ h. np h.0) ∙ sym (cond-false (eqb p s.point && eqb d s.day) _ _ (and_left _ _ (ne_eqb p s.point np))))
          (cases_eq p s.point)

-- where a day is found, it lies at its offset
pub found_at : (n days p d o : ℕ) → Some o ≡ cond (within n p && within days d) (Some (offset days p d)) None → (within n p && within days d ≡ true) × (o ≡ offset days p d)
found_at n days p d o e = let (b, is) = from_passed (within n p && within days d) (Some (offset days p d)) o (sym e) in (b, cc)

pub table_after : (n days : ℕ) (ws : List ℕ) (s : Sheet) (o : ℕ) → n * days * 24 ≤ length ws → length s.readings ≡ 24 → Ok tt ≡ judged n days s
    → Some o ≡ cond (within n s.point && within days s.day) (Some (offset days s.point s.day)) None
    → table n days (with_day ws o s.readings) ≡ after_post (table n days ws) s
table_after n days ws s o fits full ok at =
    let (_, is) = found_at n days s.point s.day o at in
    ap (λ k. table n days (with_day ws k s.readings)) is
    ∙ table_posted n days ws s fits full (judged_ok n days s (sym ok))
    ∙ sym (cond-true (is_ok (judged n days s)) _ _ (ap is_ok (sym ok)))

pub table_reading : (n days : ℕ) (ws : List ℕ) (p d h o : ℕ) → n * days * 24 ≤ length ws
    → Some o ≡ cond (within n p && within days d) (Some (offset days p d)) None → (get_or ws o 0 ≡ 4294967295 → ⊥) → within 24 h ≡ true
    → reading_at (table n days ws) p d h ≡ Some (decoded (get_or ws (o + (h - 1)) 0))
table_reading n days ws p d h o fits at there hour =
    let (h1, hn) = between_parts 1 24 h hour in
    let (inside, is) = found_at n days p d o at in
    let (wp, wd) = and_parts (within n p) (within days d) inside in
    let (p1, pn) = between_parts 1 n p wp in
    let (d1, dn) = between_parts 1 days d wd in
    let room : o + 24 ≤ length ws = omega (arith, offset_within n days p d p1 pn d1 dn, is) in
    let part = take 24 (drop o ws) in
    let long : length part ≡ 24 = length-take-le 24 (drop o ws) (rw length-drop (omega arith)) in
    let day : (table n days ws).sheets p d ≡ Some (map decoded part) =
    cond-true (within n p && within days d) _ _ inside ∙ ap (day_at ws) (sym is)
    ∙ cond-false (eqb (get_or ws o 0) 4294967295) None (Some (map decoded part)) (ne_eqb _ _ there) in
    ap (λ x. hour_of x h) day
    ∙ cond-true (within 24 h) _ _ hour
    ∙ ap Some (get_or-map decoded part (h - 1) 0 (Withdrawal 0) (omega arith) ∙ ap decoded (get_or-take 24 (drop o ws) (h - 1) 0 (omega arith) ∙ get_or-drop o ws (h - 1) 0))
