-- Lists of dated entries: their order, what is entered in them, and what is found in them; and the plain book of one,
-- the item that each subject has from each day.
use Rattle.std.specs.Prelude.{ℕ, zero, suc, Bool, true, cond, ◌&&◌, ◌||◌, List, [], ◌∷◌, Some, None, Option, ◌==◌, nat_le, nat_lt}
use Rattle.std.specs.Option.{option_or}
use Rattle.records.specs.declared.dated.Dated.{Dated}

module _ {T : Type 0} where
  -- x stands before the subject s and the day d
  abbrev pub precedes : Dated T → ℕ → ℕ → Bool
  precedes x s d = nat_lt x.subject s || (x.subject == s && nat_lt x.from_day d)

  -- x is the entry of the subject s from the day d
  abbrev pub stands_at : Dated T → ℕ → ℕ → Bool
  stands_at x s d = x.subject == s && x.from_day == d

  abbrev pub leads : Dated T → List (Dated T) → Bool
  leads x [] = true
  leads x (y ∷ ys) = precedes x y.subject y.from_day

  -- each entry stands before the next
  abbrev pub sorted : List (Dated T) → Bool
  sorted [] = true
  sorted (x ∷ xs) = leads x xs && sorted xs

  -- how many entries at the front stand before the subject s and the day d
  abbrev pub place : List (Dated T) → ℕ → ℕ → ℕ
  place [] s d = 0
  place (x ∷ xs) s d = cond (precedes x s d) (suc (place xs s d)) 0

  -- e is entered before the first entry that does not stand before it, and replaces that one if it has e's subject and day
  abbrev pub put : List (Dated T) → Dated T → List (Dated T)
  put [] e = e ∷ []
  put (x ∷ xs) e =
      cond (precedes x e.subject e.from_day) (x ∷ put xs e)
      (cond (stands_at x e.subject e.from_day) (e ∷ xs) (e ∷ x ∷ xs))

  -- the item of the subject s from exactly the day d
  abbrev pub lookup : List (Dated T) → ℕ → ℕ → Option T
  lookup [] s d = None
  lookup (x ∷ xs) s d = cond (stands_at x s d) (Some x.item) (lookup xs s d)

  -- x is of the subject s, and from a day not after d
  abbrev pub holds : Dated T → ℕ → ℕ → Bool
  holds x s d = x.subject == s && nat_le x.from_day d

  -- the item of the last entry of the subject s from a day not after d
  abbrev pub latest : List (Dated T) → ℕ → ℕ → Option T
  latest [] s d = None
  latest (x ∷ xs) s d = option_or (latest xs s d) (cond (holds x s d) (Some x.item) None)

  -- a plain book with e entered: its item at its subject and day, and all else as it was
  abbrev pub book_with : (ℕ → ℕ → Option T) → Dated T → ℕ → ℕ → Option T
  book_with book e s d = cond (stands_at e s d) (Some e.item) (book s d)

  -- what a plain book has on record of the subject s on a day: the item from that day, else what was on record the day before
  unfoldable pub book_latest : (ℕ → ℕ → Option T) → ℕ → ℕ → Option T
  book_latest book s zero = book s zero
  book_latest book s (suc d) = option_or (book s (suc d)) (book_latest book s d)
