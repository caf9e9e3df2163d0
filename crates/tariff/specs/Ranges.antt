-- Numbers within a range.
use Rattle.std.specs.Prelude.{◌≡◌, ℕ, ◌≤◌, Bool, true, ◌&&◌, nat_le}
use Rattle.std.proofs.lemmas.Bool.{and_parts, and_from, leb-true, le-leb}

-- k is one of a to b
abbrev pub between : ℕ → ℕ → ℕ → Bool
between a b k = nat_le a k && nat_le k b

-- k is one of 1 to n
abbrev pub within : ℕ → ℕ → Bool
within n k = between 1 n k

pub between_parts : (a b k : ℕ) → between a b k ≡ true → (a ≤ k) × (k ≤ b)
between_parts a b k e = let p = and_parts (nat_le a k) (nat_le k b) e in (leb-true a k p.0, leb-true k b p.1)

pub within_from : (n k : ℕ) → 1 ≤ k → k ≤ n → within n k ≡ true
within_from n k low high = and_from (nat_le 1 k) (nat_le k n) (le-leb 1 k low) (le-leb k n high)
