-- The credits of all transmitters are the debits of all customers: both are the statement's lines summed once.
use Rattle.std.proofs.Common.{◌≡◌, ℕ, zero, suc, ◌<◌, ◌≤◌, Bool, true, false, cond, ◌&&◌, eqb, List, [], ◌∷◌, ℤ, pos, ◌+ℤ◌, sym, refl, ◌∙◌, ap₂, ⊎_elim, arith}
use Rattle.std.proofs.lemmas.Int.{ints}
use Rattle.std.proofs.lemmas.Bool.{and_parts, leb-true, ne_eqb, eq-eqb, cases_eq}
use Rattle.ledger.specs.declared.line.Line.{Line}
use Rattle.tariff.specs.Ranges.{within}
use Rattle.ledger.specs.Lines.{every, sound_line}
use Rattle.ledger.specs.Sums.{cents_of, stated}
use Rattle.ledger.specs.Balances.{sum_to, Balanced}
use Rattle.ledger.proofs.Cents.{every_weaker}

sum_to_add : (n : ℕ) (f g : ℕ → ℤ) → sum_to n (λ t. f t +ℤ g t) ≡ sum_to n f +ℤ sum_to n g
unfolding sum_to
sum_to_add zero f g = refl
sum_to_add (suc n) f g = omega (arith, ints, sum_to_add n f g)

sum_to_zero : (n : ℕ) → sum_to n (λ t. pos 0) ≡ pos 0
unfolding sum_to
sum_to_zero zero = refl
sum_to_zero (suc n) = omega (arith, ints, sum_to_zero n)

-- a number past the bound is not met
sum_to_past : (n x : ℕ) (v : ℤ) → n < x → sum_to n (λ t. cond (eqb x t) v (pos 0)) ≡ pos 0
unfolding sum_to
sum_to_past zero x v h = refl
sum_to_past (suc n) x v h =
    let e : eqb x (suc n) ≡ false = ne_eqb x (suc n) (omega arith) in
    rw e (omega (arith, ints, sum_to_past n x v (omega arith)))

-- one within it is met once
sum_to_pick : (n x : ℕ) (v : ℤ) → 1 ≤ x → x ≤ n → sum_to n (λ t. cond (eqb x t) v (pos 0)) ≡ v
unfolding sum_to
sum_to_pick zero x v h k = absurd (omega arith)
sum_to_pick (suc n) x v h k =
    ⊎_elim
    (λ (e : x ≡ suc n). rw (eq-eqb x (suc n) e) (omega (arith, ints, sum_to_past n x v (omega arith))))
    (λ (e : x ≡ suc n → ⊥). rw (ne_eqb x (suc n) e) (omega (arith, ints, sum_to_pick n x v h (omega arith))))
    (cases_eq x (suc n))

sum_to_line : (n x : ℕ) (b : Bool) (v : ℤ) → 1 ≤ x → x ≤ n → sum_to n (λ t. cond (b && eqb x t) v (pos 0)) ≡ cond b v (pos 0)
sum_to_line n x true v h k = sum_to_pick n x v h k
sum_to_line n x false v h k = sum_to_zero n

by_party : (n : ℕ) (p : Line → Bool) (who : Line → ℕ) (lines : List Line)
    → every (λ l. within n (who l)) lines ≡ true
    → sum_to n (λ t. cents_of (λ l. p l && eqb (who l) t) lines) ≡ cents_of p lines
by_party n p who [] e = sum_to_zero n
by_party n p who (l ∷ ls) e =
    let h = and_parts (within n (who l)) (every (λ x. within n (who x)) ls) e in
    let w = and_parts _ _ h.0 in
    sum_to_add n (λ t. cond (p l && eqb (who l) t) l.cents (pos 0)) (λ t. cents_of (λ x. p x && eqb (who x) t) ls)
    ∙ ap₂ ◌+ℤ◌ (sum_to_line n (who l) (p l) l.cents (leb-true _ _ w.0) (leb-true _ _ w.1)) (by_party n p who ls h.1)

customer_known : (l : Line) → sound_line l ≡ true → within 999999999 l.customer.number ≡ true
customer_known l e = (and_parts _ _ (and_parts _ _ (and_parts _ _ (and_parts _ _ e).0).0).0).1

transmitter_known : (l : Line) → sound_line l ≡ true → within 999999999 l.transmitter.number ≡ true
transmitter_known l e = (and_parts _ _ (and_parts _ _ (and_parts _ _ e).0).0).1

pub balanced : (lines : List Line) → every sound_line lines ≡ true → Balanced lines
balanced lines e s c =
    by_party 999999999 (stated s c) (λ l. l.transmitter.number) lines (every_weaker sound_line _ transmitter_known lines e)
    ∙ sym (by_party 999999999 (stated s c) (λ l. l.customer.number) lines (every_weaker sound_line _ customer_known lines e))
