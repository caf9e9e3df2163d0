-- What a sheet that is posted to rows changes, and why there is room for it.
use Rattle.std.proofs.Common.{◌≡◌, ℕ, ◌+◌, ◌-◌, ◌*◌, ◌<◌, ◌≤◌, max, true, false, not, eqb, List, [], ◌∷◌, map, length, take, set, is_some, is_ok, Some, None, Ok, sym, refl, ap, ◌∙◌, ap₂, ⊎_elim, arith}
use lib.Seq.{take-set-lt}
use Rattle.std.proofs.lemmas.Nat.{mul-add-lt, mul-le}
use Rattle.std.proofs.lemmas.List.{length_push, length-take-le, take_more_set}
use Rattle.std.proofs.lemmas.Bool.{cond-true, cond-false, and_parts, and_from, or_from, eqb-true, eq-eqb, ne_eqb, cases_lt, cases_Bool, not-true, both_ways}
use Rattle.tariff.specs.declared.reading.Sheet.{Sheet}
use Rattle.tariff.specs.Ranges.{within, between_parts}
use Rattle.tariff.specs.Sheets.{judged}
use Rattle.readings.specs.Meaning.{posted, after_post}
use Rattle.readings.specs.Options.{none_from}
use Rattle.stores.specs.declared.row_store.Row.{Row}
use Rattle.stores.specs.Rows.{matches, sheet_in, place_of, row_ok, row_of, rows_ok, of_rows}
use Rattle.stores.specs.Words.{sheets_before}
use Rattle.stores.proofs.Pigeons.{among, spread, spread_le, spread_none, spread_new}
use Rattle.stores.proofs.Passing.{Passed, judged_ok}
use Rattle.stores.proofs.Places.{same_place}
use Rattle.stores.proofs.RowPlaces.{put_row, place_le, sheet_put, put_at, put_last, matches_apart}

-- rows stay sound

rows_ok_put : (n days : ℕ) (r : Row) (xs : List Row) → row_ok n days r ≡ true → rows_ok n days xs ≡ true → rows_ok n days (put_row r xs) ≡ true
rows_ok_put n days r [] ok all = and_from (row_ok n days r) true ok refl
rows_ok_put n days r (x ∷ xs) ok all =
    let b = matches r.point r.day x in
    let (here, a) = and_parts (row_ok n days x) _ all in
    let (alone, later) = and_parts (not (is_some (sheet_in x.point x.day xs))) (rows_ok n days xs) a in
    ⊎_elim
    (λ e.
    let (ep, ed) = and_parts (eqb r.point x.point) (eqb r.day x.day) e in
    let still : not (is_some (sheet_in r.point r.day xs)) ≡ true =
    ap₂ (λ p d. not (is_some (sheet_in p d xs))) (eqb-true _ _ ep) (eqb-true _ _ ed) ∙ alone in
    ap (rows_ok n days) (cond-true b (r ∷ xs) (x ∷ put_row r xs) e) ∙ and_from (row_ok n days r) _ ok (and_from _ (rows_ok n days xs) still later))
    (λ e.
    let self : matches x.point x.day x ≡ true = and_from _ _ (eq-eqb x.point x.point refl) (eq-eqb x.day x.day refl) in
    let gone = sheet_put r xs x.point x.day ∙ cond-false _ _ _ (matches_apart r x e x.point x.day self) in
    let still : not (is_some (sheet_in x.point x.day (put_row r xs))) ≡ true = ap (λ o. not (is_some o)) gone ∙ alone in
    ap (rows_ok n days) (cond-false b (r ∷ xs) (x ∷ put_row r xs) e) ∙ and_from (row_ok n days x) _ here (and_from _ _ still (rows_ok_put n days r xs ok later)))
    (cases_Bool b)

-- sound rows are at most as many as there are places

abbrev key : ℕ → Row → ℕ
key days x = sheets_before days x.point x.day

row_within : (n days : ℕ) (x : Row) → row_ok n days x ≡ true → (1 ≤ x.point) × (x.point ≤ n) × (1 ≤ x.day) × (x.day ≤ days)
row_within n days x ok =
    let (wp, a) = and_parts (within n x.point) _ ok in
    let (wd, _) = and_parts (within days x.day) _ a in
    let (p1, pn) = between_parts 1 n x.point wp in
    let (d1, dn) = between_parts 1 days x.day wd in
    (p1, pn, d1, dn)

key_matches : (n days : ℕ) (x y : Row) → row_ok n days x ≡ true → row_ok n days y ≡ true → key days x ≡ key days y → matches x.point x.day y ≡ true
key_matches n days x y okx oky same =
    let hx = row_within n days x okx in
    let hy = row_within n days y oky in
    let (ps, ds) = same_place days x.point x.day y.point y.day hx.0 hy.0 hx.2 hx.3 hy.2 hy.3 same in
    and_from _ _ (eq-eqb x.point y.point ps) (eq-eqb x.day y.day ds)

no_key : (n days : ℕ) (x : Row) (xs : List Row) → row_ok n days x ≡ true → rows_ok n days xs ≡ true → sheet_in x.point x.day xs ≡ None → among (key days x) (map (key days) xs) ≡ false
no_key n days x [] ok all gone = refl
no_key n days x (y ∷ ys) ok all gone =
    let (here, a) = and_parts (row_ok n days y) _ all in
    let (_, later) = and_parts (not (is_some (sheet_in y.point y.day ys))) (rows_ok n days ys) a in
    let b = matches x.point x.day y in
    ⊎_elim
    (λ e. let some : sheet_in x.point x.day (y ∷ ys) ≡ Some y.readings = cond-true b _ _ e in let z : ◌≡◌ {A = ℕ} 0 1 = cc in absurd (omega arith))
    (λ e.
    let apart : eqb (key days x) (key days y) ≡ false = ne_eqb _ _ (λ same. both_ways b e (key_matches n days x y ok here same)) in
    or_from _ _ apart (no_key n days x ys ok later (sym (cond-false b _ _ e) ∙ gone)))
    (cases_Bool b)

spread_rows : (n days : ℕ) (xs : List Row) → rows_ok n days xs ≡ true → spread (map (key days) xs) (n * days) ≡ length xs
spread_rows n days [] all = spread_none (n * days)
spread_rows n days (x ∷ xs) all =
    let (here, a) = and_parts (row_ok n days x) _ all in
    let (alone, later) = and_parts (not (is_some (sheet_in x.point x.day xs))) (rows_ok n days xs) a in
    let h = row_within n days x here in
    let below = mul-add-lt (x.point - 1) days (x.day - 1) n (omega arith) (omega arith) in
    let one = spread_new (key days x) (map (key days) xs) (n * days) (omega (arith, below)) (no_key n days x xs here later (none_from _ (not-true _ alone))) in
    omega (arith, one, spread_rows n days xs later)

rows_few : (n days : ℕ) (xs : List Row) → rows_ok n days xs ≡ true → length xs ≤ n * days
rows_few n days xs all = omega (arith, spread_le (map (key days) xs) (n * days), spread_rows n days xs all)

-- a sheet as a row

row_of_ok : (n days : ℕ) (s : Sheet) → length s.readings ≡ 24 → Passed n days s → row_ok n days (row_of s) ≡ true
row_of_ok n days s full ok =
    and_from _ _ ok.point (and_from _ _ ok.day (and_from _ _ (eq-eqb _ _ full) (ap (λ o. not (is_some o)) ok.none)))

module _ (n days used : ℕ) (rows : List Row) (s : Sheet) (i : ℕ) (filled : used ≤ length rows) (fits : n * days ≤ length rows)
    (sound : rows_ok n days (take used rows) ≡ true) (full : length s.readings ≡ 24) (ok : Ok tt ≡ judged n days s) (at : i ≡ place_of s.point s.day (take used rows)) where
  taken : length (take used rows) ≡ used
  taken = length-take-le used rows filled

  stays : rows_ok n days (put_row (row_of s) (take used rows)) ≡ true
  stays = rows_ok_put n days (row_of s) (take used rows) (row_of_ok n days s full (judged_ok n days s (sym ok))) sound

  pub row_small : n ≤ 400 → days ≤ 31 → i ≤ 12400
  row_small few short = omega (arith, at, taken, place_le s.point s.day (take used rows), rows_few n days (take used rows) sound, mul-le n days 400 31 few short)

  -- there is room for the row
  pub row_room : i < length rows
  row_room =
      ⊎_elim
      (λ lt. omega (arith, taken))
      (λ ge.
      let few = rows_few n days (put_row (row_of s) (take used rows)) stays in
      let more : length (put_row (row_of s) (take used rows)) ≡ used + 1 =
      ap length (put_last (row_of s) (take used rows) (omega (arith, ge, at, taken))) ∙ length_push (take used rows) (row_of s) ∙ ap (λ k. k + 1) taken in
      omega (arith, few, more, at, taken, place_le s.point s.day (take used rows)))
      (cases_lt i used)

  rows_put : take (max used (i + 1)) (set rows i (row_of s)) ≡ put_row (row_of s) (take used rows)
  rows_put =
      ⊎_elim
      (λ lt.
      let e : max used (i + 1) ≡ used = omega arith in
      ap (λ k. take k (set rows i (row_of s))) e ∙ take-set-lt used rows i (row_of s) lt
      ∙ ap (λ k. set (take used rows) k (row_of s)) at ∙ sym (put_at (row_of s) (take used rows) (omega (arith, lt, at, taken))))
      (λ ge.
      let e : i ≡ used = omega (arith, ge, at, taken, place_le s.point s.day (take used rows)) in
      let m : max used (i + 1) ≡ used + 1 = omega arith in
      ap₂ (λ k j. take k (set rows j (row_of s))) m e ∙ take_more_set rows used (row_of s) (omega (arith, row_room, e))
      ∙ sym (put_last (row_of s) (take used rows) (omega (arith, ge, at, taken))))
      (cases_lt i used)

  stored : (used' : ℕ) (rows' : List Row) → used' ≡ max used (i + 1) → rows' ≡ set rows i (row_of s) → take used' rows' ≡ put_row (row_of s) (take used rows)
  stored used' rows' more put = ap₂ take more put ∙ rows_put

  pub rows_stay : (used' : ℕ) (rows' : List Row) → used' ≡ max used (i + 1) → rows' ≡ set rows i (row_of s) → rows_ok n days (take used' rows') ≡ true
  rows_stay used' rows' more put = ap (rows_ok n days) (stored used' rows' more put) ∙ stays

  pub rows_after : (used' : ℕ) (rows' : List Row) → used' ≡ max used (i + 1) → rows' ≡ set rows i (row_of s)
      → of_rows n days (take used' rows') ≡ after_post (of_rows n days (take used rows)) s
  rows_after used' rows' more put =
      let all : of_rows n days (put_row (row_of s) (take used rows)) ≡ posted (of_rows n days (take used rows)) s =
      λ k. record { points = n; days = days; sheets = λ p d. sheet_put (row_of s) (take used rows) p d k } in
      ap (of_rows n days) (stored used' rows' more put) ∙ all ∙ sym (cond-true (is_ok (judged n days s)) _ _ (ap is_ok (sym ok)))
