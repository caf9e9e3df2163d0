-- What the searches and tests of a slice of entries answer.
use Rattle.std.proofs.Common.{zero, suc, ◌≡◌, ℕ, ◌+◌, ◌-◌, ◌<◌, ◌≤◌, min, true, false, cond, ◌&&◌, ◌||◌, List, [], ◌∷◌, ◌++◌, length, get_or, take, is_some, Some, None, Option, sym, refl, ap, ◌∙◌, ⊎_elim, arith}
use Rattle.std.specs.Option.{option_or}
use Rattle.std.specs.List.{prefix_len, list_all, list_any, find, IsAllAdjacentAnswer}
use Rattle.std.specs.Option.{unwrap_or, option_map}
use Rattle.std.proofs.Common.{not, eqb, leb, ltb, reverse}
use Rattle.std.proofs.lemmas.List.Sums.{prefix_len-le-length}
use Rattle.std.proofs.lemmas.List.Folds.{find-append}
use Rattle.std.proofs.lemmas.Bool.{lt-ltb, le-ltb}
use Rattle.std.proofs.Common.{Bool}
use Rattle.records.specs.Soundness.{in_range, all_in_range}
use Rattle.std.proofs.lemmas.List.{reverse-append, take_all}
use Rattle.std.proofs.lemmas.Bool.{cases_lt, and_from, and_right, true≢false}
use Rattle.records.specs.declared.dated.Dated.{Dated}
use Rattle.records.specs.Books.{precedes, holds, sorted, place, latest}

pub or_assoc : {X : Type 0} (a b c : Option X) → option_or (option_or a b) c ≡ option_or a (option_or b c)
or_assoc (Some x) b c = refl
or_assoc None b c = refl

pub or_none : {X : Type 0} (o : Option X) → option_or o None ≡ o
or_none (Some x) = refl
or_none None = refl

-- the front of a slice as the checker reads `&s[0..n]`, with n at most the length
pub take_min : {X : Type 0} (n : ℕ) (xs : List X) → take (min n (length xs) - 0) xs ≡ take n xs
take_min n xs = ⊎_elim short long (cases_lt n (length xs))
  where
    short : n < length xs → take (min n (length xs) - 0) xs ≡ take n xs
    short h = let e : min n (length xs) - 0 ≡ n = omega arith in ap (λ k. take k xs) e

    long : length xs ≤ n → take (min n (length xs) - 0) xs ≡ take n xs
    long h =
        let e : min n (length xs) - 0 ≡ length xs = omega arith in
        ap (λ k. take k xs) e ∙ take_all (length xs) xs (omega arith) ∙ sym (take_all n xs h)

prefix-is : {T : Type 0} (xs : List (Dated T)) (s d : ℕ) → prefix_len (λ x. not (not (precedes x s d))) xs ≡ place xs s d
prefix-is [] s d = refl
prefix-is (x ∷ xs) s d = step (precedes x s d) (prefix-is xs s d)
  where
    step : {n m : ℕ} (b : Bool) → n ≡ m → cond (not (not b)) (1 + n) 0 ≡ cond b (suc m) 0
    step true h = omega (arith, h)
    step false h = refl

-- the first place that does not pass, or the length
pub place_front : {T : Type 0} (xs : List (Dated T)) (s d : ℕ) →
    let n = prefix_len (λ x. not (not (precedes x s d))) xs in
    unwrap_or (cond (ltb n (length xs)) (Some n) None) (length xs) ≡ place xs s d
place_front xs s d = go (prefix_len (λ x. not (not (precedes x s d))) xs) (length xs) (prefix_len-le-length (λ x. not (not (precedes x s d))) xs) ∙ prefix-is xs s d
  where
    go : (n m : ℕ) → n ≤ m → unwrap_or (cond (ltb n m) (Some n) None) m ≡ n
    go n m le = ⊎_elim (λ lt. ap (λ b. unwrap_or (cond b (Some n) None) m) (lt-ltb n m lt)) (λ ge. ap (λ b. unwrap_or (cond b (Some n) None) m) (le-ltb n m ge) ∙ omega arith) (cases_lt n m)

-- the last that holds
latest_step : {T : Type 0} (x : Dated T) (o : Option (Dated T)) (l : Option T) (b : Bool) → option_map (λ y. y.item) o ≡ l →
    option_map (λ y. y.item) (option_or o (cond b (Some x) None)) ≡ option_or l (cond b (Some x.item) None)
latest_step x None l true h = ap (λ z. option_or z (Some x.item)) h
latest_step x None l false h = ap (λ z. option_or z None) h
latest_step x (Some y) l b h = ap (λ z. option_or z (cond b (Some x.item) None)) h

pub latest_last : {T : Type 0} (xs : List (Dated T)) (s d : ℕ) → option_map (λ y. y.item) (find (λ x. holds x s d) (reverse xs)) ≡ latest xs s d
latest_last [] s d = refl
latest_last (x ∷ xs) s d =
    ap (λ ys. option_map (λ y. y.item) (find (λ y. holds y s d) ys)) (reverse-append (x ∷ []) xs) ∙ ap (option_map (λ y. y.item)) (find-append (λ y. holds y s d) (reverse xs) (x ∷ [])) ∙ latest_step x (find (λ y. holds y s d) (reverse xs)) (latest xs s d) (holds x s d) (latest_last xs s d)

-- what the back of a list has comes before what its front has
pub latest_append : {T : Type 0} (xs ys : List (Dated T)) (s d : ℕ) → latest (xs ++ ys) s d ≡ option_or (latest ys s d) (latest xs s d)
latest_append [] ys s d = sym (or_none (latest ys s d))
latest_append (x ∷ xs) ys s d =
    ap (λ o. option_or o (cond (holds x s d) (Some x.item) None)) (latest_append xs ys s d)
    ∙ or_assoc (latest ys s d) (latest xs s d) (cond (holds x s d) (Some x.item) None)

or_found : {X : Type 0} (a b : Option X) → true ≡ is_some a → option_or a b ≡ a
or_found (Some x) b h = refl
or_found None b h = absurd (true≢false h)

or_missed : {X : Type 0} (a b : Option X) → false ≡ is_some a → option_or a b ≡ b
or_missed (Some x) b h = absurd (true≢false (sym h))
or_missed None b h = refl

-- what is found at the back of a list, or is not there
module _ {T : Type 0} (xs front back : List (Dated T)) (s d : ℕ) (o : Option T) (parts : xs ≡ front ++ back) (is : o ≡ latest back s d) where
  in_parts : latest xs s d ≡ option_or o (latest front s d)
  in_parts = ap (λ ys. latest ys s d) parts ∙ latest_append front back s d ∙ ap (λ p. option_or p (latest front s d)) (sym is)

  pub latest_found : true ≡ is_some o → o ≡ latest xs s d
  latest_found h = sym (in_parts ∙ or_found o (latest front s d) h)

  pub latest_before : false ≡ is_some o → latest front s d ≡ latest xs s d
  latest_before h = sym (in_parts ∙ or_missed o (latest front s d) h)

none_step : {X : Type 0} (x : X) (o : Option X) (a b c : Bool) → false ≡ (a || c) → (false ≡ c → false ≡ is_some o) →
    false ≡ is_some (option_or o (cond (a && b) (Some x) None))
none_step x o true b c h more = absurd (true≢false (sym h))
none_step x o false b c h more = more h ∙ sym (ap is_some (or_none o))

-- nothing is found where no entry is of the subject
pub none_met : {T : Type 0} (xs : List (Dated T)) (s d : ℕ) → false ≡ list_any (λ x. eqb x.subject s) xs → false ≡ is_some (latest xs s d)
none_met [] s d h = refl
none_met (x ∷ xs) s d h =
    none_step x.item (latest xs s d) (eqb x.subject s) (leb x.from_day d) (list_any (λ y. eqb y.subject s) xs) h (none_met xs s d)

pub all_ranged : {T : Type 0} (ok : T → Bool) (first last : ℕ) (xs : List (Dated T)) → list_all (in_range ok first last) xs ≡ all_in_range ok first last xs
all_ranged ok first last [] = refl
all_ranged ok first last (x ∷ xs) = ap (λ b. in_range ok first last x && b) (all_ranged ok first last xs)

one_more : (k : ℕ) → suc k + 1 ≡ suc (k + 1)
one_more k = omega arith

-- `is_sorted_by` speaks of each place and the next
module _ {T : Type 0} where
  sorted_if : (xs : List (Dated T)) → ((k : ℕ) (d : Dated T) → k + 1 < length xs → true ≡ precedes (get_or xs k d) (get_or xs (k + 1) d).subject (get_or xs (k + 1) d).from_day) →
      true ≡ sorted xs
  sorted_if [] all = refl
  sorted_if (x ∷ []) all = refl
  sorted_if (x ∷ (y ∷ ys)) all =
      sym (and_from (precedes x y.subject y.from_day) (sorted (y ∷ ys)) (sym (all 0 x (omega arith))) (sym (sorted_if (y ∷ ys) (λ k d h. rw (one_more k) at (all (suc k) d (omega arith))))))

  unsorted_if : (xs : List (Dated T)) (k : ℕ) → k + 1 < length xs → ((d : Dated T) → false ≡ precedes (get_or xs k d) (get_or xs (k + 1) d).subject (get_or xs (k + 1) d).from_day) →
      false ≡ sorted xs
  unsorted_if [] k h apart = absurd (omega arith)
  unsorted_if (x ∷ []) k h apart = absurd (omega arith)
  unsorted_if (x ∷ (y ∷ ys)) zero h apart = ap (λ b. b && sorted (y ∷ ys)) (apart x)
  unsorted_if (x ∷ (y ∷ ys)) (suc k) h apart =
      sym (and_right (precedes x y.subject y.from_day) (sorted (y ∷ ys)) (sym (unsorted_if (y ∷ ys) k (omega arith) (λ d. rw (one_more k) at (apart d)))))

  pub sorted_answer : (xs : List (Dated T)) (r : Bool) → IsAllAdjacentAnswer (λ x y b. b ≡ precedes x y.subject y.from_day) xs r → r ≡ sorted xs
  sorted_answer xs true all = sorted_if xs all
  sorted_answer xs false one = unsorted_if xs one.0 one.1 one.2
