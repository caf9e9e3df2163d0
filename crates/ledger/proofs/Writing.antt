-- Memory with lines written at a place.
use Rattle.std.proofs.Common.{◌≡◌, ℕ, ◌+◌, ◌<◌, ◌≤◌, List, [], ◌∷◌, ◌++◌, length, take, drop, set, sym, ap, ◌∙◌, ap₂, append_assoc, add-zero, add_assoc, add-one, arith}
use Rattle.std.proofs.lemmas.List.{take_at, drop_at, drop-drop, take-append-drop, length-append, length-take-le, length-drop, set_split}
use Rattle.ledger.specs.declared.line.Line.{Line}
use Rattle.ledger.specs.Passes.{written}

module _ (m : List Line) (at : ℕ) where
  pub written_nil : written m at [] ≡ m
  written_nil = ap (λ n. take at m ++ drop n m) (add-zero at) ∙ take-append-drop at m

  written_one : (x : Line) → at < length m → set m at x ≡ written m at (x ∷ [])
  written_one x h = set_split m at x h ∙ ap (λ n. take at m ++ (x ∷ drop n m)) (sym (add-one at))

  module _ (xs : List Line) (fits : at + length xs ≤ length m) where
    front_length : length (take at m ++ xs) ≡ at + length xs
    front_length = length-append (take at m) xs ∙ ap (λ n. n + length xs) (length-take-le at m (omega arith))

    parted : written m at xs ≡ (take at m ++ xs) ++ drop (at + length xs) m
    parted = sym (append_assoc (take at m) xs (drop (at + length xs) m))

    pub written_length : length (written m at xs) ≡ length m
    written_length =
        ap length parted ∙ (length-append (take at m ++ xs) (drop (at + length xs) m)
        ∙ omega (arith, front_length, length-drop (at + length xs) m))

    -- the lines up to the end of those written
    pub written_taken : take (at + length xs) (written m at xs) ≡ take at m ++ xs
    written_taken = ap (take (at + length xs)) parted ∙ take_at (take at m ++ xs) (drop (at + length xs) m) (at + length xs) front_length

    written_rest : (k : ℕ) → drop (at + length xs + k) (written m at xs) ≡ drop (at + length xs + k) m
    written_rest k =
        let n : ℕ = at + length xs in
        ap (drop (n + k)) parted
        ∙ (sym (drop-drop k n ((take at m ++ xs) ++ drop n m))
        ∙ (ap (drop k) (drop_at (take at m ++ xs) (drop n m) n front_length) ∙ drop-drop k n m))

    -- one write after another
    written_more : (ys : List Line) → written (written m at xs) (at + length xs) ys ≡ written m at (xs ++ ys)
    written_more ys =
        ap₂ (λ a b. a ++ (ys ++ b)) written_taken (written_rest (length ys))
        ∙ (append_assoc (take at m) xs (ys ++ drop (at + length xs + length ys) m)
        ∙ ap (λ z. take at m ++ z)
        (sym (append_assoc xs ys (drop (at + length xs + length ys) m))
        ∙ ap (λ n. (xs ++ ys) ++ drop n m) (add_assoc at (length xs) (length ys) ∙ ap (λ n. at + n) (sym (length-append xs ys)))))

  -- the first of some lines, and then the others behind it
  written_step : (x : Line) (xs : List Line) → at < length m → written (set m at x) (at + 1) xs ≡ written m at (x ∷ xs)
  written_step x xs h = ap (λ z. written z (at + 1) xs) (written_one x h) ∙ written_more (x ∷ []) (omega arith) xs

-- the same, from what a turn of a loop tells
pub written_turn : (m : List Line) (at place next : ℕ) (x : Line) (xs left : List Line)
    → left ≡ x ∷ xs → place ≡ at → next ≡ at + 1 → at < length m → written (set m place x) next xs ≡ written m at left
written_turn m at place next x xs left e p n h =
    (λ i. written (set m (p i) x) (n i) xs) ∙ (written_step m at x xs h ∙ ap (written m at) (sym e))
