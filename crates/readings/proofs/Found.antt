-- The first that a search of the numbers 1 to n finds, each counted from 0.
use Rattle.std.proofs.Common.{◌≡◌, ℕ, zero, suc, ◌+◌, ◌<◌, IsTrue, MatchOption, IfSome, IsSomeAnd, Some, None, Option, sym, refl, ap, ◌∙◌, subst, arith}
use Rattle.std.specs.declared.ops.Range.{Range}
use Rattle.std.specs.Fn.{Mut, Called}
use Rattle.std.specs.Iterator.Runs.{SomeRun, AllItemsGive, IsFirstToGive, CallKeepsClosure}
use Rattle.std.specs.Option.{option_map}
use Rattle.std.proofs.iter.Yields.{nat_range_steps}
use Rattle.std.proofs.iter.runs.Sources.{range_runs}
use Rattle.readings.specs.Missing.{first_of}
use Rattle.readings.proofs.Firsts.{first_none, first_found}

module _ {X : Type 0} (f : ℕ → Option X) where
  -- none of the first n numbers has any
  abbrev pub NoneBelow : ℕ → Type 0
  NoneBelow n = (k : ℕ) → k < n → f (k + 1) ≡ None

  none_below : (n : ℕ) → NoneBelow n → first_of f n ≡ None
  none_below zero none = refl
  none_below (suc n) none = let e : n + 1 ≡ suc n = omega arith in subst (λ m. first_of f m ≡ None) e (first_none f n (none_below n (λ k lt. none k (omega arith))) (none n (omega arith)))

  pub first_is : (n : ℕ) (r : Option X) → MatchOption r (NoneBelow n) (λ y. (k : ℕ) × (k < n) × (f (k + 1) ≡ Some y) × NoneBelow k) → r ≡ first_of f n
  first_is n None none = sym (none_below n none)
  first_is n (Some y) (k, lt, here, before) = sym (first_found f k n y lt (none_below k before) here)

same_number : (o : Option ℕ) (m : ℕ) → option_map (λ y. y) o ≡ Some m → o ≡ Some m
same_number None m e = e
same_number (Some x) m e = e

-- what `find_map` finds over the numbers 0 to n - 1
module _ {X F : Type 0} {g : Mut F (ℕ × Unit {0}) (Option X)} {h : F} (f : ℕ → Option X) (n : ℕ) (s : Range ℕ) (is : s ≡ record { start = 0; end = n }) where
  pub found : (r : Option X)
      → SomeRun nat_range_steps s (λ p. MatchOption r (IsTrue p.whole × AllItemsGive p g h None) (λ y. (i : ℕ) × (i < p.len) × (p.len ≡ i + 1) × IsFirstToGive p g h (Some y) None i))
      → CallKeepsClosure g h → ((x : ℕ) (o : Option X) (h' : F) → Called g h (x, tt) o h' → o ≡ f (x + 1)) → r ≡ first_of f n
  found None run keeps gives =
      let p = run.0 in
      let up = range_runs p p.seen in
      let a : p.from.start ≡ 0 = ap (λ t. t.start) (run.1 ∙ is) in
      let b : p.from.end ≡ n = ap (λ t. t.end) (run.1 ∙ is) in
      let len : p.len ≡ n = omega (arith, up.1 run.2.0, a, b) in
      let at : (k : ℕ) → k < n → p.at k ≡ Some k = λ k lt. let e : p.from.start + k ≡ k = omega (arith, a) in same_number (p.at k) k (up.3 k (omega (arith, len, lt)) ∙ ap Some e) in
      first_is f n None (λ k lt. sym (gives k None h (subst (λ o. IfSome o (λ x. Called g h (x, tt) None h)) (at k lt) (run.2.1 keeps k))))
  found (Some y) run keeps gives =
      let p = run.0 in
      let up = range_runs p p.seen in
      let a : p.from.start ≡ 0 = ap (λ t. t.start) (run.1 ∙ is) in
      let b : p.from.end ≡ n = ap (λ t. t.end) (run.1 ∙ is) in
      let (i, lt, last, first) = run.2 in
      let at : (k : ℕ) → k < p.len → p.at k ≡ Some k = λ k lt. let e : p.from.start + k ≡ k = omega (arith, a) in same_number (p.at k) k (up.3 k lt ∙ ap Some e) in
      let here = gives i (Some y) h (subst (λ o. IsSomeAnd o (λ x. Called g h (x, tt) (Some y) h)) (at i lt) (first keeps).0) in
      first_is f n (Some y)
      (i, omega (arith, up.0, a, b, lt), sym here, λ k before. sym (gives k None h (subst (λ o. IsSomeAnd o (λ x. Called g h (x, tt) None h)) (at k (omega (arith, before, lt))) ((first keeps).1 k before))))
