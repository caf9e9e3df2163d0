-- What `put` and `latest` are to the plain book of a list: the item of each subject from each day.
use Rattle.std.proofs.Common.{◌≡◌, ℕ, zero, suc, ◌+◌, Bool, true, false, cond, ◌&&◌, ◌||◌, eqb, ltb, leb, List, [], ◌∷◌, length, is_some, Some, None, Option, sym, refl, ap, ◌∙◌, arith}
use Rattle.std.specs.Option.{option_or}
use Rattle.std.proofs.lemmas.Bool.{and_parts, and_from, true≢false}
use Rattle.std.proofs.lemmas.Bool.Decides.{nat_tests}
use Rattle.records.specs.declared.dated.Dated.{Dated}
use Rattle.records.specs.Books.{precedes, stands_at, holds, leads, sorted, put, lookup, latest, book_latest}
use Rattle.records.proofs.Steps.{or_assoc, or_none}

-- keys as numbers: a subject and a day
abbrev lt : ℕ → ℕ → ℕ → ℕ → Bool
lt a f b g = ltb a b || (eqb a b && ltb f g)

abbrev eq : ℕ → ℕ → ℕ → ℕ → Bool
eq a f b g = eqb a b && eqb f g

lt_apart : (a f b g s d : ℕ) → lt a f b g ≡ true → eq a f s d ≡ true → eq b g s d ≡ false
lt_apart a f b g s d h k = grind (arith, nat_tests)

lt_not_eq : (a f b g : ℕ) → lt a f b g ≡ true → eq a f b g ≡ false
lt_not_eq a f b g h = grind (arith, nat_tests)

eq_not_lt : (a f b g : ℕ) → eq a f b g ≡ true → lt a f b g ≡ false
eq_not_lt a f b g h = grind (arith, nat_tests)

eq_same : (a f b g s d : ℕ) → eq a f b g ≡ true → eq a f s d ≡ eq b g s d
eq_same a f b g s d h = grind (arith, nat_tests)

lt_total : (a f b g : ℕ) → lt a f b g ≡ false → eq a f b g ≡ false → lt b g a f ≡ true
lt_total a f b g h k = grind (arith, nat_tests)

eq_lt : (a f b g s d : ℕ) → eq a f b g ≡ true → lt a f s d ≡ true → lt b g s d ≡ true
eq_lt a f b g s d h k = grind (arith, nat_tests)

-- from a < b and not a < k: k is neither b nor above it
past_not_eq : (a f b g s d : ℕ) → lt a f b g ≡ true → lt a f s d ≡ false → eq b g s d ≡ false
past_not_eq a f b g s d h k = grind (arith, nat_tests)

past_not_lt : (a f b g s d : ℕ) → lt a f b g ≡ true → lt a f s d ≡ false → lt b g s d ≡ false
past_not_lt a f b g s d h k = grind (arith, nat_tests)

day_before : (a f s d : ℕ) → lt a f s (suc d) ≡ false → lt a f s d ≡ false
day_before a f s d h = grind (arith, nat_tests)

-- from which days on an entry holds
eq_from : (a f s d : ℕ) → eq a f s d ≡ true → (eqb a s && leb f d) ≡ true
eq_from a f s d h = grind (arith, nat_tests)

not_from_zero : (a f s : ℕ) → eq a f s 0 ≡ false → (eqb a s && leb f 0) ≡ false
not_from_zero a f s h = grind (arith, nat_tests)

from_before : (a f s d : ℕ) → eq a f s (suc d) ≡ false → (eqb a s && leb f (suc d)) ≡ (eqb a s && leb f d)
from_before a f s d h = grind (arith, nat_tests)

module _ {T : Type 0} where
  -- the book of a list with e entered, for any list
  book_step : (b c : Bool) (x e : Dated T) (xs ys : List (Dated T)) (s d : ℕ) → precedes x e.subject e.from_day ≡ b →
      stands_at x e.subject e.from_day ≡ c → lookup ys s d ≡ cond (stands_at e s d) (Some e.item) (lookup xs s d) →
      lookup (cond b (x ∷ ys) (cond c (e ∷ xs) (e ∷ x ∷ xs))) s d ≡ cond (stands_at e s d) (Some e.item) (lookup (x ∷ xs) s d)
  book_step true c x e xs ys s d t _ more = go (stands_at x s d) (stands_at e s d) (lt_apart x.subject x.from_day e.subject e.from_day s d t) more
    where
      go : (q r : Bool) → (q ≡ true → r ≡ false) → lookup ys s d ≡ cond r (Some e.item) (lookup xs s d) →
          cond q (Some x.item) (lookup ys s d) ≡ cond r (Some e.item) (cond q (Some x.item) (lookup xs s d))
      go true true no' is = absurd (true≢false (no' refl))
      go true false no' is = refl
      go false true no' is = is
      go false false no' is = is
  book_step false true x e xs ys s d _ t more = rw (eq_same x.subject x.from_day e.subject e.from_day s d t) (go (stands_at e s d))
    where
      go : (r : Bool) → cond r (Some e.item) (lookup xs s d) ≡ cond r (Some e.item) (cond r (Some x.item) (lookup xs s d))
      go true = refl
      go false = refl
  book_step false false x e xs ys s d _ _ more = refl

  pub lookup_put : (xs : List (Dated T)) (e : Dated T) (s d : ℕ) →
      lookup (put xs e) s d ≡ cond (stands_at e s d) (Some e.item) (lookup xs s d)
  lookup_put [] e s d = refl
  lookup_put (x ∷ xs) e s d =
      book_step (precedes x e.subject e.from_day) (stands_at x e.subject e.from_day) x e xs (put xs e) s d refl refl
      (lookup_put xs e s d)

  -- what comes first of a list with e entered
  leads_step : (b c : Bool) (w x e : Dated T) (xs ys : List (Dated T)) → precedes w e.subject e.from_day ≡ true →
      precedes w x.subject x.from_day ≡ true → leads w (cond b (x ∷ ys) (cond c (e ∷ xs) (e ∷ x ∷ xs))) ≡ true
  leads_step true c w x e xs ys h k = k
  leads_step false true w x e xs ys h k = h
  leads_step false false w x e xs ys h k = h

  leads_put : (w e : Dated T) (xs : List (Dated T)) → precedes w e.subject e.from_day ≡ true → leads w xs ≡ true → leads w (put xs e) ≡ true
  leads_put w e [] h k = h
  leads_put w e (x ∷ xs) h k =
      leads_step (precedes x e.subject e.from_day) (stands_at x e.subject e.from_day) w x e xs (put xs e) h k

  leads_same : (x e : Dated T) (xs : List (Dated T)) → stands_at x e.subject e.from_day ≡ true → leads x xs ≡ true → leads e xs ≡ true
  leads_same x e [] h k = refl
  leads_same x e (y ∷ ys) h k = eq_lt x.subject x.from_day e.subject e.from_day y.subject y.from_day h k

  sorted_step : (b c : Bool) (x e : Dated T) (xs ys : List (Dated T)) → precedes x e.subject e.from_day ≡ b →
      stands_at x e.subject e.from_day ≡ c → leads x xs ≡ true → sorted xs ≡ true → (b ≡ true → leads x ys ≡ true) → sorted ys ≡ true →
      sorted (cond b (x ∷ ys) (cond c (e ∷ xs) (e ∷ x ∷ xs))) ≡ true
  sorted_step true c x e xs ys _ _ h k first more = and_from (leads x ys) (sorted ys) (first refl) more
  sorted_step false true x e xs ys _ t h k first more = and_from (leads e xs) (sorted xs) (leads_same x e xs t h) k
  sorted_step false false x e xs ys t u h k first more =
      and_from (leads e (x ∷ xs)) (sorted (x ∷ xs)) (lt_total x.subject x.from_day e.subject e.from_day t u) (and_from (leads x xs) (sorted xs) h k)

  pub sorted_put : (xs : List (Dated T)) (e : Dated T) → sorted xs ≡ true → sorted (put xs e) ≡ true
  sorted_put [] e h = refl
  sorted_put (x ∷ xs) e h =
      let parts = and_parts (leads x xs) (sorted xs) h in
      sorted_step (precedes x e.subject e.from_day) (stands_at x e.subject e.from_day) x e xs (put xs e) refl refl
      parts.0 parts.1 (λ t. leads_put x e xs t parts.0) (sorted_put xs e parts.1)

  -- a sorted list has nothing that is not past what leads it
  pub lookup_none : (w : Dated T) (xs : List (Dated T)) (s d : ℕ) → leads w xs ≡ true → sorted xs ≡ true → precedes w s d ≡ false → lookup xs s d ≡ None
  lookup_none w [] s d h k t = refl
  lookup_none w (x ∷ xs) s d h k t =
      let parts = and_parts (leads x xs) (sorted xs) k in
      let other : stands_at x s d ≡ false = past_not_eq w.subject w.from_day x.subject x.from_day s d h t in
      let after : precedes x s d ≡ false = past_not_lt w.subject w.from_day x.subject x.from_day s d h t in
      ap (λ b. cond b (Some x.item) (lookup xs s d)) other ∙ lookup_none x xs s d parts.0 parts.1 after

  -- an entry is new where the book has none of its subject and day
  size_step : (b c : Bool) (x e : Dated T) (xs ys : List (Dated T)) → precedes x e.subject e.from_day ≡ b →
      stands_at x e.subject e.from_day ≡ c → leads x xs ≡ true → sorted xs ≡ true →
      length ys ≡ cond (is_some (lookup xs e.subject e.from_day)) (length xs) (length xs + 1) →
      length (cond b (x ∷ ys) (cond c (e ∷ xs) (e ∷ x ∷ xs)))
      ≡ cond (is_some (cond c (Some x.item) (lookup xs e.subject e.from_day))) (suc (length xs)) (suc (length xs) + 1)
  size_step true true x e xs ys t u h k more = absurd (true≢false (sym u ∙ lt_not_eq x.subject x.from_day e.subject e.from_day t))
  size_step true false x e xs ys t u h k more = go (is_some (lookup xs e.subject e.from_day)) more
    where
      go : (b : Bool) → length ys ≡ cond b (length xs) (length xs + 1) → suc (length ys) ≡ cond b (suc (length xs)) (suc (length xs) + 1)
      go true is = omega arith
      go false is = omega arith
  size_step false true x e xs ys t u h k more = refl
  size_step false false x e xs ys t u h k more = rw (lookup_none x xs e.subject e.from_day h k t) (omega arith)

  pub length_put : (xs : List (Dated T)) (e : Dated T) → sorted xs ≡ true →
      length (put xs e) ≡ cond (is_some (lookup xs e.subject e.from_day)) (length xs) (length xs + 1)
  length_put [] e h = omega arith
  length_put (x ∷ xs) e h =
      let parts = and_parts (leads x xs) (sorted xs) h in
      size_step (precedes x e.subject e.from_day) (stands_at x e.subject e.from_day) x e xs (put xs e) refl refl
      parts.0 parts.1 (length_put xs e parts.1)

  -- what is on record by the book
  book_none : (w : Dated T) (xs : List (Dated T)) (s d : ℕ) → leads w xs ≡ true → sorted xs ≡ true → precedes w s d ≡ false →
      book_latest (lookup xs) s d ≡ None
  unfolding book_latest
  book_none w xs s zero h k t = lookup_none w xs s zero h k t
  book_none w xs s (suc d) h k t =
      ap (λ o. option_or o (book_latest (lookup xs) s d)) (lookup_none w xs s (suc d) h k t)
      ∙ book_none w xs s d h k (day_before w.subject w.from_day s d t)

  book_nil : (s d : ℕ) → book_latest (lookup {T = T} []) s d ≡ None
  unfolding book_latest
  book_nil s zero = refl
  book_nil s (suc d) = book_nil s d

  module _ (x : Dated T) (xs : List (Dated T)) (s : ℕ) (h : leads x xs ≡ true) (k : sorted xs ≡ true) where
    -- the item of x, on days from its own on
    abbrev own : ℕ → Option T
    own d = cond (holds x s d) (Some x.item) None

    -- at x's own day the rest of the list has nothing yet
    at_day : (d : ℕ) → stands_at x s d ≡ true → option_or (book_latest (lookup xs) s d) (own d) ≡ Some x.item
    at_day d t =
        ap (λ o. option_or o (own d)) (book_none x xs s d h k (eq_not_lt x.subject x.from_day s d t))
        ∙ ap (λ b. cond b (Some x.item) None) (eq_from x.subject x.from_day s d t)

    zero_step : (b : Bool) → stands_at x s zero ≡ b → cond b (Some x.item) (lookup xs s zero) ≡ option_or (book_latest (lookup xs) s zero) (own zero)
    unfolding book_latest
    zero_step true t = sym (at_day zero t)
    zero_step false t =
        sym (ap (λ b. option_or (lookup xs s zero) (cond b (Some x.item) None)) (not_from_zero x.subject x.from_day s t)
        ∙ or_none (lookup xs s zero))

    day_step : (b : Bool) (d : ℕ) (o : Option T) → stands_at x s (suc d) ≡ b → o ≡ option_or (book_latest (lookup xs) s d) (own d) →
        option_or (cond b (Some x.item) (lookup xs s (suc d))) o ≡ option_or (book_latest (lookup xs) s (suc d)) (own (suc d))
    unfolding book_latest
    day_step true d o t more = sym (at_day (suc d) t)
    day_step false d o t more =
        ap (option_or (lookup xs s (suc d))) more
        ∙ sym (or_assoc (lookup xs s (suc d)) (book_latest (lookup xs) s d) (own d))
        ∙ ap (λ b. option_or (option_or (lookup xs s (suc d)) (book_latest (lookup xs) s d)) (cond b (Some x.item) None))
        (sym (from_before x.subject x.from_day s d t))

    book_cons : (d : ℕ) → book_latest (lookup (x ∷ xs)) s d ≡ option_or (book_latest (lookup xs) s d) (own d)
    unfolding book_latest
    book_cons zero = zero_step (stands_at x s zero) refl
    book_cons (suc d) = day_step (stands_at x s (suc d)) d (book_latest (lookup (x ∷ xs)) s d) refl (book_cons d)

  pub latest_book : (xs : List (Dated T)) (s d : ℕ) → sorted xs ≡ true → latest xs s d ≡ book_latest (lookup xs) s d
  latest_book [] s d h = sym (book_nil s d)
  latest_book (x ∷ xs) s d h =
      let parts = and_parts (leads x xs) (sorted xs) h in
      ap (λ o. option_or o (cond (holds x s d) (Some x.item) None)) (latest_book xs s d parts.1)
      ∙ sym (book_cons x xs s parts.0 parts.1 d)
