-- What `put` does at the place that it finds, in a list and in memory of which the list is the front.
use Rattle.std.proofs.Common.{◌≡◌, ℕ, suc, ◌+◌, ◌<◌, ◌≤◌, Bool, true, false, cond, leb, List, [], ◌∷◌, ◌++◌, length, get_or, take, drop, set, Ok, Err, Result, sym, refl, ap, ◌∙◌, arith, length-set}
use Rattle.std.specs.List.{insert}
use Rattle.std.proofs.lemmas.List.{take-append-drop, set-append_left, get_or-take, length-take-le}
use Rattle.std.proofs.lemmas.List.Edits.{length-insert}
use Rattle.std.proofs.lemmas.Bool.{le-leb, lt-leb, and_from, and_right}
use Rattle.tariff.specs.declared.refusal.Refusal.{Refusal}
use Rattle.tariff.specs.declared.refusal.Refusal.TheVariants.{HistoryFull}
use Rattle.records.specs.declared.dated.Dated.{Dated}
use Rattle.records.specs.Books.{precedes, stands_at, place, put}
use Rattle.records.specs.Histories.{shelf}
use Rattle.records.specs.Entering.{has_place, with_entry, entered_shelf, count_answer}

cond_le : (b : Bool) (p n : ℕ) → p ≤ n → cond b (suc p) 0 ≤ suc n
cond_le true p n h = omega arith
cond_le false p n h = omega arith

-- the memory after an entry in the first u entries of m, and the answer
abbrev pub Gives : {T : Type 0} → List (Dated T) → ℕ → Dated T → List (Dated T) → Result ℕ Refusal → Type 0
Gives m u e after r = (r ≡ count_answer (shelf m u) e) × (after ≡ (entered_shelf (shelf m u) e).memory)

module _ {T : Type 0} where
  pub place_le : (xs : List (Dated T)) (s d : ℕ) → place xs s d ≤ length xs
  place_le [] s d = omega arith
  place_le (x ∷ xs) s d = cond_le (precedes x s d) (place xs s d) (length xs) (place_le xs s d)

  -- an entry with e's subject and day stands at the place: it is replaced
  set_step : (b : Bool) (x e w : Dated T) (xs ys : List (Dated T)) (p : ℕ) →
      (p < length xs → stands_at (get_or xs p w) e.subject e.from_day ≡ true → ys ≡ set xs p e) →
      cond b (suc p) 0 < suc (length xs) → stands_at (get_or (x ∷ xs) (cond b (suc p) 0) w) e.subject e.from_day ≡ true →
      cond b (x ∷ ys) (cond (stands_at x e.subject e.from_day) (e ∷ xs) (e ∷ x ∷ xs)) ≡ set (x ∷ xs) (cond b (suc p) 0) e
  set_step true x e w xs ys p more h t = ap (λ zs. x ∷ zs) (more (omega arith) t)
  set_step false x e w xs ys p more h t = ap (λ b. cond b (e ∷ xs) (e ∷ x ∷ xs)) t

  pub put_sets : (xs : List (Dated T)) (e w : Dated T) → place xs e.subject e.from_day < length xs →
      stands_at (get_or xs (place xs e.subject e.from_day) w) e.subject e.from_day ≡ true →
      put xs e ≡ set xs (place xs e.subject e.from_day) e
  put_sets [] e w h t = absurd (omega arith)
  put_sets (x ∷ xs) e w h t =
      set_step (precedes x e.subject e.from_day) x e w xs (put xs e) (place xs e.subject e.from_day) (put_sets xs e w) h t

  -- another stands there
  insert_step : (b : Bool) (x e w : Dated T) (xs ys : List (Dated T)) (p : ℕ) →
      (p < length xs → stands_at (get_or xs p w) e.subject e.from_day ≡ false → ys ≡ insert xs p e) →
      cond b (suc p) 0 < suc (length xs) → stands_at (get_or (x ∷ xs) (cond b (suc p) 0) w) e.subject e.from_day ≡ false →
      cond b (x ∷ ys) (cond (stands_at x e.subject e.from_day) (e ∷ xs) (e ∷ x ∷ xs)) ≡ insert (x ∷ xs) (cond b (suc p) 0) e
  insert_step true x e w xs ys p more h t = ap (λ zs. x ∷ zs) (more (omega arith) t)
  insert_step false x e w xs ys p more h t = ap (λ b. cond b (e ∷ xs) (e ∷ x ∷ xs)) t

  pub put_inserts : (xs : List (Dated T)) (e w : Dated T) → place xs e.subject e.from_day < length xs →
      stands_at (get_or xs (place xs e.subject e.from_day) w) e.subject e.from_day ≡ false →
      put xs e ≡ insert xs (place xs e.subject e.from_day) e
  put_inserts [] e w h t = absurd (omega arith)
  put_inserts (x ∷ xs) e w h t =
      insert_step (precedes x e.subject e.from_day) x e w xs (put xs e) (place xs e.subject e.from_day) (put_inserts xs e w) h t

  -- the place is the end
  push_step : (b : Bool) (x e : Dated T) (xs ys : List (Dated T)) (p : ℕ) → (length xs ≤ p → ys ≡ insert xs p e) →
      suc (length xs) ≤ cond b (suc p) 0 →
      cond b (x ∷ ys) (cond (stands_at x e.subject e.from_day) (e ∷ xs) (e ∷ x ∷ xs)) ≡ insert (x ∷ xs) (cond b (suc p) 0) e
  push_step true x e xs ys p more h = ap (λ zs. x ∷ zs) (more (omega arith))
  push_step false x e xs ys p more h = absurd (omega arith)

  pub put_pushes : (xs : List (Dated T)) (e : Dated T) → length xs ≤ place xs e.subject e.from_day →
      put xs e ≡ insert xs (place xs e.subject e.from_day) e
  put_pushes [] e h = refl
  put_pushes (x ∷ xs) e h =
      push_step (precedes x e.subject e.from_day) x e xs (put xs e) (place xs e.subject e.from_day) (put_pushes xs e) h

-- the first u entries of m, and e's place p among them
module _ {T : Type 0} (m : List (Dated T)) (u : ℕ) (e : Dated T) (p : ℕ) (fits : u ≤ length m)
    (found : p ≡ place (take u m) e.subject e.from_day) where
  len : length (take u m) ≡ u
  len = length-take-le u m fits

  pub within : p ≤ u
  within = omega (arith, place_le (take u m) e.subject e.from_day, found, len)

  -- how `put` goes at p, from what stands there
  pub replaced : (w : Dated T) → p < u → stands_at (get_or m p w) e.subject e.from_day ≡ true → put (take u m) e ≡ set (take u m) p e
  replaced w h t =
      rw found (put_sets (take u m) e w (omega (arith, found, len))
      (rw (← found) (ap (λ x. stands_at x e.subject e.from_day) (get_or-take u m p w h) ∙ t)))

  pub new_here : (w : Dated T) → p < u → stands_at (get_or m p w) e.subject e.from_day ≡ false → put (take u m) e ≡ insert (take u m) p e
  new_here w h t =
      rw found (put_inserts (take u m) e w (omega (arith, found, len))
      (rw (← found) (ap (λ x. stands_at x e.subject e.from_day) (get_or-take u m p w h) ∙ t)))

  pub new_last : u ≤ p → put (take u m) e ≡ insert (take u m) p e
  new_last h = rw found (put_pushes (take u m) e (omega (arith, found, len)))

  placed : (after ys : List (Dated T)) (n : ℕ) → put (take u m) e ≡ ys → length ys ≡ n → n ≤ length m → after ≡ ys ++ drop n m →
      Gives m u e after (Ok n)
  placed after ys n is long le eq =
      let size : length (put (take u m) e) ≡ n = ap length is ∙ long in
      let t : has_place (shelf m u) e ≡ true = and_from _ _ (le-leb u (length m) fits) (le-leb _ _ (omega (arith, size))) in
      let whole : after ≡ put (take u m) e ++ drop (length (put (take u m) e)) m = rw (size, is) eq in (
        ap Ok (sym size) ∙ ap (λ b. cond b (Ok (length (put (take u m) e))) (Err HistoryFull)) (sym t),
        whole ∙ ap (λ b. (cond b (with_entry (shelf m u) e) (shelf m u)).memory) (sym t),
      )

  pub gives_set : p < u → put (take u m) e ≡ set (take u m) p e → Gives m u e (set m p e) (Ok u)
  gives_set h is =
      placed (set m p e) (set (take u m) p e) u is (length-set (take u m) p e ∙ len) fits
      (ap (λ ys. set ys p e) (sym (take-append-drop u m)) ∙ set-append_left (take u m) (drop u m) p e (omega (arith, len)))

  pub gives_inserted : u < length m → put (take u m) e ≡ insert (take u m) p e →
      Gives m u e (insert (take u m) p e ++ drop (u + 1) m) (Ok (u + 1))
  gives_inserted h is =
      placed _ (insert (take u m) p e) (u + 1) is
      (length-insert (take u m) p e (omega (arith, within, len)) ∙ ap (λ n. n + 1) len) (omega arith) refl

  pub gives_none : length m ≤ u → put (take u m) e ≡ insert (take u m) p e → Gives m u e m (Err HistoryFull)
  gives_none h is =
      let size : length (put (take u m) e) ≡ u + 1 = ap length is ∙ length-insert (take u m) p e (omega (arith, within, len)) ∙ ap (λ n. n + 1) len in
      let t : has_place (shelf m u) e ≡ false = and_right (leb u (length m)) (leb (length (put (take u m) e)) (length m)) (lt-leb (length (put (take u m) e)) (length m) (omega (arith, size))) in (
        ap (λ b. cond b (Ok (length (put (take u m) e))) (Err HistoryFull)) (sym t),
        ap (λ b. (cond b (with_entry (shelf m u) e) (shelf m u)).memory) (sym t),
      )
