-- The demand of the network points as a sum over the numbers 1 to n.
use Rattle.std.proofs.Common.{◌≡◌, ℕ, zero, suc, ◌+◌, ◌*◌, ◌<◌, ◌≤◌, true, List, [], ◌∷◌, map, length, get_or, Some, None, Option, sym, ap, ◌∙◌, arith}
use Rattle.std.specs.declared.ops.Range.{Range}
use Rattle.std.specs.Fn.{Mut}
use Rattle.std.specs.Iterator.{ActsAs}
use Rattle.std.specs.Iterator.Runs.{Run, SomeRun, IsMapRun}
use Rattle.std.specs.List.{fold}
use Rattle.std.specs.Option.{option_map}
use Rattle.std.proofs.iter.Yields.{nat_range_steps}
use Rattle.std.proofs.iter.runs.Sources.{range_runs}
use Rattle.std.proofs.lemmas.Bool.{cond_both}
use Rattle.tariff.specs.declared.points.PointKind.{PointKind}
use Rattle.tariff.specs.Points.{is_network, kind_at}
use Rattle.readings.specs.Meaning.{Meaning, Sound, Sheets}
use Rattle.readings.specs.Demands.{demand_at, if_network, network_demand_of, network_demand}
use Rattle.readings.proofs.Bounds.{demand_limited}

-- what each point adds is bounded, so that the sum is too

if_network_le : (o : Option PointKind) (q b : ℕ) → q ≤ b → if_network o q ≤ b
if_network_le None q b le = omega arith
if_network_le (Some kind) q b le = cond_both (is_network kind) q 0 (λ x. x ≤ b) (λ _. le) (λ _. omega arith)

pub network_demand_le : (kinds : List PointKind) (m : Meaning) → Sound m → (d h n : ℕ) → network_demand kinds m.sheets d h n ≤ 99999999 * n
network_demand_le kinds m sound d h zero = omega arith
network_demand_le kinds m sound d h (suc n) =
    omega (arith, network_demand_le kinds m sound d h n, if_network_le (kind_at kinds (suc n)) (demand_at m.sheets (suc n) d h) 99999999 (demand_limited m sound (suc n) d h))

same_number : (o : Option ℕ) (x y : ℕ) → o ≡ Some x → o ≡ Some y → x ≡ y
same_number o x y a b = let e : Some x ≡ Some y = sym a ∙ b in cc

module _ (kinds : List PointKind) (sheets : Sheets) (d h : ℕ) where
  -- what the point of a number counted from 0 adds
  abbrev pub adds : ℕ → ℕ
  adds k = network_demand_of kinds sheets d h (k + 1)

  -- a sum that goes on after the first m
  summed : (xs : List ℕ) (m a : ℕ) → a ≡ network_demand kinds sheets d h m → ((k : ℕ) → k < length xs → get_or xs k 0 ≡ m + k)
      → fold (λ s x. s + x) a (map adds xs) ≡ network_demand kinds sheets d h (m + length xs)
  summed [] m a is at = let e : m ≡ m + 0 = omega arith in is ∙ ap (network_demand kinds sheets d h) e
  summed (x ∷ xs) m a is at =
      let next : x + 1 ≡ suc m = omega (arith, at 0 (omega arith)) in
      let e : suc m + length xs ≡ m + length (x ∷ xs) = omega arith in
      let more : a + adds x ≡ network_demand kinds sheets d h (suc m) = omega (arith, is, ap (network_demand_of kinds sheets d h) next) in
      summed xs (suc m) (a + adds x) more (λ k lt. omega (arith, at (suc k) (omega arith))) ∙ ap (network_demand kinds sheets d h) e

  module _ {F S : Type 0} {steps : S → Option ℕ → S → Type 0} {g : Mut F (ℕ × Unit {0}) ℕ} {c : F} (n : ℕ) (s : Range ℕ) (is : s ≡ record { start = 0; end = n }) where
    pub run_summed : (p : Run steps) → SomeRun nat_range_steps s (λ q. IsMapRun p q g c) → ActsAs g c adds
        → (fold (λ a x. a + x) 0 p.items ≡ network_demand kinds sheets d h p.len) × (p.len ≤ n) × (p.whole ≡ true → p.len ≡ n)
    run_summed p (q, from, mapped) acts =
        let up = range_runs q q.seen in
        let a : q.from.start ≡ 0 = ap (λ t. t.start) (from ∙ is) in
        let b : q.from.end ≡ n = ap (λ t. t.end) (from ∙ is) in
        let (whole, len, _, items, _) = mapped in
        let at : (k : ℕ) → k < length q.items → get_or q.items k 0 ≡ 0 + k =
        λ k lt. let there : k < q.len = omega (arith, q.long) in
        omega (arith, a, same_number (option_map (λ y. y) (q.at k)) (get_or q.items k 0) (q.from.start + k) (q.reads k 0 there) (up.3 k there)) in
        let long : 0 + length q.items ≡ p.len = omega (arith, q.long, len) in (
          ap (fold (λ a x. a + x) 0) (items adds acts) ∙ summed q.items 0 0 (omega arith) at ∙ ap (network_demand kinds sheets d h) long,
          omega (arith, len, up.0, a, b),
          λ w. omega (arith, len, up.1 (whole ∙ w), a, b),
        )
