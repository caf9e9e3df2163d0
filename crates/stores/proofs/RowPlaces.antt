-- Where rows stand, and what putting one changes.
use Rattle.std.specs.List.{position_or_len}
use Rattle.std.specs.Option.{unwrap_or}
use Rattle.std.proofs.lemmas.List.Sums.{prefix_len-le-length}
use Rattle.std.proofs.Common.{not, ◌≡◌, ℕ, suc, ◌+◌, ◌-◌, ◌<◌, ◌≤◌, Bool, true, false, cond, ◌&&◌, eqb, ltb, List, [], ◌∷◌, ◌++◌, length, get_or, take, set, is_some, Some, None, Option, sym, refl, ap, ◌∙◌, ap₂, ⊎_elim, arith}
use Rattle.std.proofs.lemmas.List.{length-take-le, get_or-take}
use Rattle.std.proofs.lemmas.Bool.{cond-true, cond-false, cond_both, and_parts, and_from, eqb-true, eq-eqb, lt-ltb, le-ltb, cases_lt, cases_Bool, both_ways}
use Rattle.tariff.specs.declared.reading.Reading.{Reading}
use Rattle.tariff.specs.declared.reading.Reading.TheVariants.{Withdrawal}
use Rattle.tariff.specs.Ranges.{within}
use Rattle.readings.specs.Meaning.{hour_of, reading_at}
use Rattle.stores.specs.declared.row_store.Row.{Row}
use Rattle.stores.specs.Rows.{matches, sheet_in, place_of, of_rows}

-- the first row of a place, or the end
first-is : (p d : ℕ) (xs : List Row) → position_or_len (matches p d) xs ≡ place_of p d xs
first-is p d [] = refl
first-is p d (x ∷ xs) = step (matches p d x) (first-is p d xs)
  where
    step : {n m : ℕ} (b : Bool) → n ≡ m → cond (not b) (1 + n) 0 ≡ cond b 0 (suc m)
    step true h = refl
    step false h = omega (arith, h)

pub place_first : (p d : ℕ) (xs : List Row) → let n = position_or_len (matches p d) xs in unwrap_or (cond (ltb n (length xs)) (Some n) None) (length xs) ≡ place_of p d xs
place_first p d xs = go (position_or_len (matches p d) xs) (length xs) (prefix_len-le-length (λ x. not (matches p d x)) xs) ∙ first-is p d xs
  where
    go : (n m : ℕ) → n ≤ m → unwrap_or (cond (ltb n m) (Some n) None) m ≡ n
    go n m le = ⊎_elim (λ lt. ap (λ b. unwrap_or (cond b (Some n) None) m) (lt-ltb n m lt)) (λ ge. ap (λ b. unwrap_or (cond b (Some n) None) m) (le-ltb n m ge) ∙ omega arith) (cases_lt n m)

-- what stands there
pub place_le : (p d : ℕ) (xs : List Row) → place_of p d xs ≤ length xs
place_le p d [] = omega arith
place_le p d (x ∷ xs) = cond_both (matches p d x) 0 (suc (place_of p d xs)) (λ k. k ≤ suc (length xs)) (λ _. omega arith) (λ _. omega (arith, place_le p d xs))

sheet_none : (p d : ℕ) (xs : List Row) → length xs ≤ place_of p d xs → sheet_in p d xs ≡ None
sheet_none p d [] h = refl
sheet_none p d (x ∷ xs) h =
    ⊎_elim
    (λ e. let g : place_of p d (x ∷ xs) ≡ 0 = cond-true (matches p d x) _ _ e in absurd (omega (arith, g, h)))
    (λ e. let g : place_of p d (x ∷ xs) ≡ suc (place_of p d xs) = cond-false (matches p d x) _ _ e in cond-false (matches p d x) _ _ e ∙ sheet_none p d xs (omega (arith, g, h)))
    (cases_Bool (matches p d x))

sheet_some : (p d : ℕ) (xs : List Row) (z : Row) → place_of p d xs < length xs → sheet_in p d xs ≡ Some (get_or xs (place_of p d xs) z).readings
sheet_some p d [] z h = absurd (omega arith)
sheet_some p d (x ∷ xs) z h =
    ⊎_elim
    (λ e. let g : place_of p d (x ∷ xs) ≡ 0 = cond-true (matches p d x) _ _ e in
    cond-true (matches p d x) _ _ e ∙ ap (λ k. Some (get_or (x ∷ xs) k z).readings) (sym g))
    (λ e. let g : place_of p d (x ∷ xs) ≡ suc (place_of p d xs) = cond-false (matches p d x) _ _ e in
    cond-false (matches p d x) _ _ e ∙ sheet_some p d xs z (omega (arith, g, h)) ∙ ap (λ k. Some (get_or (x ∷ xs) k z).readings) (sym g))
    (cases_Bool (matches p d x))

has_place : (p d : ℕ) (xs : List Row) → is_some (sheet_in p d xs) ≡ ltb (place_of p d xs) (length xs)
has_place p d [] = refl
has_place p d (x ∷ xs) =
    ⊎_elim
    (λ lt. ap is_some (sheet_some p d (x ∷ xs) x lt) ∙ sym (lt-ltb _ _ lt))
    (λ ge. ap is_some (sheet_none p d (x ∷ xs) ge) ∙ sym (le-ltb _ _ ge))
    (cases_lt (place_of p d (x ∷ xs)) (length (x ∷ xs)))

-- a row, put in the place of an earlier one or else at the end
abbrev pub put_row : Row → List Row → List Row
put_row r [] = r ∷ []
put_row r (x ∷ xs) = cond (matches r.point r.day x) (r ∷ xs) (x ∷ put_row r xs)

pub put_at : (r : Row) (xs : List Row) → place_of r.point r.day xs < length xs → put_row r xs ≡ set xs (place_of r.point r.day xs) r
put_at r [] h = absurd (omega arith)
put_at r (x ∷ xs) h =
    let b = matches r.point r.day x in
    let i = place_of r.point r.day xs in
    ⊎_elim
    (λ e. let g : place_of r.point r.day (x ∷ xs) ≡ 0 = cond-true b _ _ e in cond-true b _ _ e ∙ ap (λ k. set (x ∷ xs) k r) (sym g))
    (λ e. let g : place_of r.point r.day (x ∷ xs) ≡ suc i = cond-false b _ _ e in
    cond-false b _ _ e ∙ ap (λ ys. x ∷ ys) (put_at r xs (omega (arith, g, h))) ∙ ap (λ k. set (x ∷ xs) k r) (sym g))
    (cases_Bool b)

pub put_last : (r : Row) (xs : List Row) → length xs ≤ place_of r.point r.day xs → put_row r xs ≡ xs ++ (r ∷ [])
put_last r [] h = refl
put_last r (x ∷ xs) h =
    let b = matches r.point r.day x in
    let i = place_of r.point r.day xs in
    ⊎_elim
    (λ e. let g : place_of r.point r.day (x ∷ xs) ≡ 0 = cond-true b _ _ e in absurd (omega (arith, g, h)))
    (λ e. let g : place_of r.point r.day (x ∷ xs) ≡ suc i = cond-false b _ _ e in
    cond-false b _ _ e ∙ ap (λ ys. x ∷ ys) (put_last r xs (omega (arith, g, h))))
    (cases_Bool b)

-- two rows of one place are found alike
matches_same : (r x : Row) → matches r.point r.day x ≡ true → (p d : ℕ) → matches p d x ≡ matches p d r
matches_same r x e p d =
    let (ep, ed) = and_parts (eqb r.point x.point) (eqb r.day x.day) e in
    ap₂ (λ a b. eqb p a && eqb d b) (sym (eqb-true _ _ ep)) (sym (eqb-true _ _ ed))

-- one place is not that of two rows of different places
pub matches_apart : (r x : Row) → matches r.point r.day x ≡ false → (p d : ℕ) → matches p d x ≡ true → matches p d r ≡ false
matches_apart r x ne p d mx =
    ⊎_elim
    (λ mr.
    let (ep, ed) = and_parts (eqb p r.point) (eqb d r.day) mr in
    let (fp, fd) = and_parts (eqb p x.point) (eqb d x.day) mx in
    absurd (both_ways (matches r.point r.day x) ne
    (and_from _ _ (eq-eqb r.point x.point (sym (eqb-true _ _ ep) ∙ eqb-true _ _ fp)) (eq-eqb r.day x.day (sym (eqb-true _ _ ed) ∙ eqb-true _ _ fd)))))
    (λ e. e)
    (cases_Bool (matches p d r))

cond_twice : {X : Type 0} (b : Bool) (x y z : X) → cond b x y ≡ cond b x (cond b z y)
cond_twice true x y z = refl
cond_twice false x y z = refl

cond_swap : {X : Type 0} (a b : Bool) (x y z : X) → (a ≡ true → b ≡ false) → cond a x (cond b y z) ≡ cond b y (cond a x z)
cond_swap true true x y z h = absurd (both_ways true (h refl) refl)
cond_swap true false x y z h = refl
cond_swap false b x y z h = refl

pub sheet_put : (r : Row) (xs : List Row) (p d : ℕ) → sheet_in p d (put_row r xs) ≡ cond (matches p d r) (Some r.readings) (sheet_in p d xs)
sheet_put r [] p d = refl
sheet_put r (x ∷ xs) p d =
    let b = matches r.point r.day x in
    ⊎_elim
    (λ e.
    ap (sheet_in p d) (cond-true b (r ∷ xs) (x ∷ put_row r xs) e)
    ∙ cond_twice (matches p d r) (Some r.readings) (sheet_in p d xs) (Some x.readings)
    ∙ ap (λ m. cond (matches p d r) (Some r.readings) (cond m (Some x.readings) (sheet_in p d xs))) (sym (matches_same r x e p d)))
    (λ e.
    ap (sheet_in p d) (cond-false b (r ∷ xs) (x ∷ put_row r xs) e)
    ∙ ap (cond (matches p d x) (Some x.readings)) (sheet_put r xs p d)
    ∙ cond_swap (matches p d x) (matches p d r) (Some x.readings) (Some r.readings) (sheet_in p d xs) (matches_apart r x e p d))
    (cases_Bool b)

-- what is read of rows

hour_outside : (o : Option (List Reading)) (h : ℕ) → within 24 h ≡ false → hour_of o h ≡ None
hour_outside None h e = refl
hour_outside (Some rs) h e = cond-false (within 24 h) _ _ e

module _ (n days used : ℕ) (rows : List Row) (p d i : ℕ) (filled : used ≤ length rows) (at : i ≡ place_of p d (take used rows)) where
  taken : length (take used rows) ≡ used
  taken = length-take-le used rows filled

  pub rows_has : ltb i used ≡ is_some (sheet_in p d (take used rows))
  rows_has = ap₂ ltb at (sym taken) ∙ sym (has_place p d (take used rows))

  pub rows_no_sheet : (h : ℕ) → used ≤ i → reading_at (of_rows n days (take used rows)) p d h ≡ None
  rows_no_sheet h ge = ap (λ o. hour_of o h) (sheet_none p d (take used rows) (omega (arith, at, taken)))

  pub rows_outside : (h : ℕ) → within 24 h ≡ false → reading_at (of_rows n days (take used rows)) p d h ≡ None
  rows_outside h out = hour_outside (sheet_in p d (take used rows)) h out

  pub rows_reading : (h : ℕ) (z : Row) → i < used → within 24 h ≡ true → reading_at (of_rows n days (take used rows)) p d h ≡ Some (get_or (get_or rows i z).readings (h - 1) (Withdrawal 0))
  rows_reading h z lt inside =
      ap (λ o. hour_of o h) (sheet_some p d (take used rows) z (omega (arith, at, taken)) ∙ ap (λ k. Some (get_or (take used rows) k z).readings) (sym at))
      ∙ cond-true (within 24 h) _ _ inside
      ∙ ap (λ x. Some (get_or x.readings (h - 1) (Withdrawal 0))) (get_or-take used rows i z lt)
