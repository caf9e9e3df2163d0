-- Reading a number of any length, with what is read so far held at a limit.
use Rattle.std.proofs.Common.{◌≡◌, ℕ, ◌+◌, ◌-◌, ◌*◌, ◌≤◌, min, List, [], ◌∷◌, ap, ⊎_elim, arith}
use Rattle.std.proofs.lemmas.Bool.{cases_lt}
use Rattle.text.specs.Format.{read_on}

read_grows : (n : ℕ) (ds : List ℕ) → n ≤ read_on n ds
read_grows n [] = omega arith
read_grows n (c ∷ cs) = omega (arith, read_grows (10 * n + (c - 48)) cs)

pub read_capped : (most n : ℕ) (ds : List ℕ) → min (read_on (min n most) ds) most ≡ min (read_on n ds) most
read_capped most n ds =
    ⊎_elim (λ lt. let same : min n most ≡ n = omega arith in ap (λ m. min (read_on m ds) most) same)
    (λ ge. omega (arith, read_grows n ds, read_grows (min n most) ds)) (cases_lt n most)
