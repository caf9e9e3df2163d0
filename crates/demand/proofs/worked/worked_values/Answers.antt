use Rattle.std.proofs.Common.{◌≡◌, ℕ, Bool, true, ◌&&◌, eqb, List, [], ◌∷◌, refl}
use Rattle.std.proofs.lemmas.Bool.{and_parts, eqb-true}
use Rattle.calendar.specs.Dates.{weekday_of}
use Rattle.demand.specs.Peaks.{best_of_day, peak_over}
use Rattle.demand.specs.Worked.{rows, Agree}
use Rattle.demand.proofs.worked.worked_values.Goals as goal

test : List (ℕ × ℕ) → Bool
test [] = true
test (row ∷ rest) = eqb row.0 row.1 && test rest

agree : (rs : List (ℕ × ℕ)) → test rs ≡ true → Agree rs
unfolding test
agree [] e = tt
agree (row ∷ rest) e = let p = and_parts (eqb row.0 row.1) (test rest) e in (eqb-true row.0 row.1 p.0, agree rest p.1)

passes : test rows ≡ true
unfolding test best_of_day peak_over weekday_of
passes = refl

pub returns : goal.returns
returns c = (refl, agree rows passes)
