-- The readings of a line, one by one, and the ways of a line.
use Rattle.std.proofs.Common.{◌≡◌, ℕ, ◌+◌, ◌≤◌, eqb, List, [], ◌∷◌, ◌++◌, length, Some, None, Ok, Err, Result, sym, ap, ◌∙◌, arith}
use Rattle.std.specs.Option.{ok_or}
use Rattle.std.proofs.lemmas.Bool.{cond-true, eq-eqb}
use Rattle.text.specs.Format.{number_of, before, after}
use Rattle.text.proofs.Parts.{parts_three}
use Rattle.sheet_file.specs.Values.{values, reading_of}
use Rattle.sheet_file.specs.Sheets.{and_then, readings_from, sheet_from, sheet_of}
use Rattle.tariff.specs.declared.reading.Reading.{Reading}

-- xs, and then what r gives
abbrev pub ahead : List Reading → Result (List Reading) ℕ → Result (List Reading) ℕ
ahead xs (Ok ys) = Ok (xs ++ ys)
ahead xs (Err p) = Err p

-- the first place at which there is no reading is not before the first place
later : (p k : ℕ) (r : Result (List Reading) ℕ) (x : Reading) → (r ≡ Err k → p + 1 ≤ k) → and_then r (λ rs. Ok (x ∷ rs)) ≡ Err k → p ≤ k
later p k (Ok rs) x h e = let z : ◌≡◌ {A = ℕ} 0 1 = cc in omega arith
later p k (Err j) x h e = let less : p + 1 ≤ k = h (cc) in omega arith

pub place_from : (p : ℕ) (vs : List (List ℕ)) (k : ℕ) → readings_from p vs ≡ Err k → p ≤ k
place_from p [] k e = let z : ◌≡◌ {A = ℕ} 0 1 = cc in omega arith
place_from p (v ∷ vs) k e =
    elim (reading_of v) as (λ o. and_then (ok_or o p) (λ r. and_then (readings_from (p + 1) vs) (λ rs. Ok (r ∷ rs))) ≡ Err k → p ≤ k) [
      | None ↦ λ e. let same : p ≡ k = cc in omega arith
      | Some x ↦ later p k (readings_from (p + 1) vs) x (place_from (p + 1) vs k)
    ] e

-- the ways of a line of 26 values
module _ (a b : List ℕ) (hs : List (List ℕ)) where
  pub all_read : (p d : ℕ) (rs : List Reading) → number_of 9 a ≡ Some p → number_of 2 b ≡ Some d → readings_from 3 hs ≡ Ok rs → sheet_from (a ∷ b ∷ hs) ≡ Ok (record { point = p; day = d; readings = rs })
  all_read p d rs e f g = rw (e, f, g)

-- a line of 26 values, cut twice
module _ (text first others second hours : List ℕ) (long : length (values text) ≡ 26) (front : first ≡ before 124 text) (back : others ≡ after 124 text) (front2 : second ≡ before 124 others) (back2 : hours ≡ after 124 others) where
  three : values text ≡ first ∷ second ∷ values hours
  three =
      let b : second ≡ before 124 (after 124 text) = front2 ∙ ap (before 124) back in
      let h : hours ≡ after 124 (after 124 text) = back2 ∙ ap (after 124) back in
      parts_three 124 text (omega arith) ∙ (λ i. sym front i ∷ sym b i ∷ values (sym h i))

  pub hours_long : length (values hours) ≡ 24
  hours_long = omega (arith, ap length three)

  pub sheet_cut : sheet_of (values text) ≡ sheet_from (first ∷ second ∷ values hours)
  sheet_cut = cond-true (eqb (length (values text)) 26) _ _ (eq-eqb _ 26 long) ∙ ap sheet_from three
