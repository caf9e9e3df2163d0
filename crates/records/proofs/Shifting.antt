-- An entry written behind the others and rotated to its place.
use Rattle.std.proofs.Common.{◌≡◌, ℕ, ◌+◌, ◌-◌, ◌<◌, ◌≤◌, List, [], ◌∷◌, ◌++◌, length, take, drop, set, sym, ap, ◌∙◌, append_assoc, arith, length-drop}
use borrow.Rule.Slice.PartMut.{put_mid}
use Rattle.std.specs.List.{insert}
use Rattle.std.proofs.lemmas.List.{drop-drop, drop_at, drop-take, drop-set-lt, drop-set-add, take_at, take-take, take-set-le, take_more_set, length_push, length-take-le}

module _ {X : Type 0} (m : List X) (p k : ℕ) (e : X) (fits : p + k < length m) where
  -- the part that is rotated
  part_is : take (k + 1) (drop p (set m (p + k) e)) ≡ take k (drop p m) ++ e ∷ []
  part_is = ap (take (k + 1)) (drop-set-add p m k e) ∙ take_more_set (drop p m) k e (rw length-drop (omega arith))

  front : length (take k (drop p m)) ≡ k
  front = length-take-le k (drop p m) (rw length-drop (omega arith))

  rotated : (r : List X) → let q : List X = take (k + 1) (drop p (set m (p + k) e)) in
      r ≡ drop (length q - 1) q ++ take (length q - 1) q → r ≡ e ∷ take k (drop p m)
  rotated r after =
      let q : List X = take k (drop p m) ++ e ∷ [] in
      let size : length q - 1 ≡ k = omega (arith, length_push (take k (drop p m)) e, front) in
      let there : r ≡ drop (length q - 1) q ++ take (length q - 1) q = rw part_is at after in
      there ∙ ap (λ n. drop n q ++ take n q) size
      ∙ ap (λ z. z ++ take k q) (drop_at (take k (drop p m)) (e ∷ []) k front)
      ∙ ap (λ z. e ∷ z) (take_at (take k (drop p m)) (e ∷ []) k front)

  pub shifted_add : (r : List X) → let q : List X = take (k + 1) (drop p (set m (p + k) e)) in
      r ≡ drop (length q - 1) q ++ take (length q - 1) q →
      put_mid p (k + 1) (set m (p + k) e) r ≡ insert (take (p + k) m) p e ++ drop (p + k + 1) m
  shifted_add r after =
      let behind : drop (k + 1) (drop p (set m (p + k) e)) ≡ drop (p + k + 1) m =
      drop-drop (k + 1) p (set m (p + k) e) ∙ drop-set-lt (p + (k + 1)) m (p + k) e (omega arith)
      ∙ (let n : p + (k + 1) ≡ p + k + 1 = omega arith in ap (λ z. drop z m) n) in
      rw (rotated r after, take-set-le p m (p + k) e (omega arith), behind, take-take p (p + k) m (omega arith), drop-take p k m)
      (sym (append_assoc (take p m) (e ∷ take k (drop p m)) (drop (p + k + 1) m)))

shifted_by : {X : Type 0} (m : List X) (p k u n : ℕ) (e : X) (r : List X) → p + k ≡ u → k + 1 ≡ n → u < length m →
    let q : List X = take n (drop p (set m u e)) in
    r ≡ drop (length q - 1) q ++ take (length q - 1) q →
    put_mid p n (set m u e) r ≡ insert (take u m) p e ++ drop (u + 1) m
shifted_by m p k u n e r at size fits after =
    rw (← at, ← size) (shifted_add m p k e (rw at fits) r (rw (← at, ← size) at after))

pub shifted : {X : Type 0} (m : List X) (u p : ℕ) (e : X) (r : List X) → p ≤ u → u < length m →
    let q : List X = take (u + 1 - p) (drop p (set m u e)) in
    r ≡ drop (length q - 1) q ++ take (length q - 1) q →
    put_mid p (u + 1 - p) (set m u e) r ≡ insert (take u m) p e ++ drop (u + 1) m
shifted m u p e r low fits after = shifted_by m p (u - p) u (u + 1 - p) e r (omega arith) (omega arith) fits after
