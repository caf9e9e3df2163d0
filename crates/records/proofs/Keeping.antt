-- What an entry does to the plain book of a history, and that it keeps it in order and in range; and that what is on record
-- is in range too.
use Rattle.std.proofs.Common.{◌≡◌, ℕ, ◌+◌, ◌≤◌, Bool, true, false, cond, ◌&&◌, ◌||◌, ltb, leb, List, [], ◌∷◌, length, drop, is_some, is_ok, Some, None, Ok, Err, Option, Result, sym, refl, ap, ◌∙◌, arith, length-append}
use mathlib.Core.Path.{fun_ext}
use Rattle.std.specs.Option.{option_or}
use Rattle.std.proofs.lemmas.List.{length-take-le, take_at}
use Rattle.std.proofs.lemmas.Bool.{and_parts, and_from, leb-true, le-leb}
use Rattle.std.proofs.lemmas.Bool.Decides.{nat_tests}
use Rattle.tariff.specs.declared.refusal.Refusal.{Refusal}
use Rattle.tariff.specs.declared.refusal.Refusal.TheVariants.{HistoryFull}
use Rattle.tariff.specs.Ranges.{between}
use Rattle.tariff.specs.Shelves.{Shelf, items}
use Rattle.records.specs.declared.dated.Dated.{Dated}
use Rattle.records.specs.Books.{precedes, stands_at, holds, sorted, put, lookup, latest, book_with}
use Rattle.records.specs.Histories.{book}
use Rattle.records.specs.Soundness.{in_order, in_range, all_in_range, sound_within, passes}
use Rattle.records.specs.Entering.{has_place, with_entry, entered_shelf, entry_answer, Booked}
use Rattle.records.proofs.Laws.{lookup_put, sorted_put, length_put}

module _ {T : Type 0} (ok : T → Bool) (first last : ℕ) where
  range_step : (b c : Bool) (x e : Dated T) (xs ys : List (Dated T)) → in_range ok first last e ≡ true → in_range ok first last x ≡ true →
      all_in_range ok first last xs ≡ true → all_in_range ok first last ys ≡ true →
      all_in_range ok first last (cond b (x ∷ ys) (cond c (e ∷ xs) (e ∷ x ∷ xs))) ≡ true
  range_step true c x e xs ys new old rest more = and_from (in_range ok first last x) (all_in_range ok first last ys) old more
  range_step false true x e xs ys new old rest more = and_from (in_range ok first last e) (all_in_range ok first last xs) new rest
  range_step false false x e xs ys new old rest more =
      and_from (in_range ok first last e) (all_in_range ok first last (x ∷ xs)) new (and_from (in_range ok first last x) (all_in_range ok first last xs) old rest)

  range_put : (xs : List (Dated T)) (e : Dated T) → all_in_range ok first last xs ≡ true → in_range ok first last e ≡ true →
      all_in_range ok first last (put xs e) ≡ true
  range_put [] e h new = and_from (in_range ok first last e) true new refl
  range_put (x ∷ xs) e h new =
      let parts = and_parts (in_range ok first last x) (all_in_range ok first last xs) h in
      range_step (precedes x e.subject e.from_day) (stands_at x e.subject e.from_day) x e xs (put xs e) new parts.0 parts.1
      (range_put xs e parts.1 new)

  pass_step : (x : Dated T) (o : Option T) (b : Bool) → passes ok o ≡ true → ok x.item ≡ true → passes ok (option_or o (cond b (Some x.item) None)) ≡ true
  pass_step x (Some y) b more here = more
  pass_step x None true more here = here
  pass_step x None false more here = refl

  latest_passes : (xs : List (Dated T)) (s d : ℕ) → all_in_range ok first last xs ≡ true → passes ok (latest xs s d) ≡ true
  latest_passes [] s d h = refl
  latest_passes (x ∷ xs) s d h =
      let parts = and_parts (in_range ok first last x) (all_in_range ok first last xs) h in
      let own = and_parts (between first last x.subject) (leb x.from_day 36524 && ok x.item) parts.0 in
      pass_step x (latest xs s d) (holds x s d) (latest_passes xs s d parts.1) (and_parts (leb x.from_day 36524) (ok x.item) own.1).1

  pub record_passes : (s : Shelf (Dated T)) (k d : ℕ) → sound_within ok first last s ≡ true → passes ok (latest (items s) k d) ≡ true
  record_passes s k d h = latest_passes (items s) k d (and_parts (in_order s) (all_in_range ok first last (items s)) h).1

module _ {T : Type 0} (s : Shelf (Dated T)) (e : Dated T) where
  items_with : items (with_entry s e) ≡ put (items s) e
  items_with = take_at (put (items s) e) (drop (length (put (items s) e)) s.memory) (length (put (items s) e)) refl

  book_entered : book (entered_shelf s e) ≡ cond (has_place s e) (book_with (book s) e) (book s)
  book_entered = go (has_place s e)
    where
      go : (b : Bool) → book (cond b (with_entry s e) s) ≡ cond b (book_with (book s) e) (book s)
      go true = fun_ext (λ k. fun_ext (λ d. ap (λ xs. lookup xs k d) items_with ∙ lookup_put (items s) e k d))
      go false = refl

  order_with : in_order s ≡ true → in_order (with_entry s e) ≡ true
  order_with h =
      let parts = and_parts (leb s.used (length s.memory)) (sorted (items s)) h in
      and_from (leb (with_entry s e).used (length (with_entry s e).memory)) (sorted (items (with_entry s e)))
      (le-leb _ _ (simp length-append (omega arith))) (ap sorted items_with ∙ sorted_put (items s) e parts.1)

  order_entered : in_order s ≡ true → in_order (entered_shelf s e) ≡ true
  order_entered h = go (has_place s e)
    where
      go : (b : Bool) → in_order (cond b (with_entry s e) s) ≡ true
      go true = order_with h
      go false = h

  sound_entered : (ok : T → Bool) (first last : ℕ) → sound_within ok first last s ≡ true → in_range ok first last e ≡ true →
      sound_within ok first last (entered_shelf s e) ≡ true
  sound_entered ok first last h new = go (has_place s e)
    where
      go : (b : Bool) → sound_within ok first last (cond b (with_entry s e) s) ≡ true
      go true =
          let parts = and_parts (in_order s) (all_in_range ok first last (items s)) h in
          and_from (in_order (with_entry s e)) (all_in_range ok first last (items (with_entry s e))) (order_with parts.0)
          (ap (all_in_range ok first last) items_with ∙ range_put ok first last (items s) e parts.1 new)
      go false = h

  place_in_order : in_order s ≡ true → has_place s e ≡ (is_some (book s e.subject e.from_day) || ltb s.used (length s.memory))
  place_in_order h =
      let parts = and_parts (leb s.used (length s.memory)) (sorted (items s)) h in
      let fits = leb-true s.used (length s.memory) parts.0 in
      let known : Bool = is_some (book s e.subject e.from_day) in
      let size : length (put (items s) e) ≡ cond known s.used (s.used + 1) =
      length_put (items s) e parts.1 ∙ ap (λ n. cond known n (n + 1)) (length-take-le s.used s.memory fits) in
      ap (λ b. b && leb (length (put (items s) e)) (length s.memory)) parts.0
      ∙ ap (λ n. leb n (length s.memory)) size ∙ go known fits
    where
      go : (b : Bool) → s.used ≤ length s.memory → leb (cond b s.used (s.used + 1)) (length s.memory) ≡ (b || ltb s.used (length s.memory))
      go true fits = le-leb s.used (length s.memory) fits
      go false fits = grind (arith, nat_tests)

accepted : (b : Bool) → is_ok (cond {A = Result (Unit {0}) Refusal} b (Ok tt) (Err HistoryFull)) ≡ b
accepted true = refl
accepted false = refl

pub booked : {T : Type 0} (s t : Shelf (Dated T)) (e : Dated T) (r : Result (Unit {0}) Refusal) → r ≡ entry_answer s e → t ≡ entered_shelf s e → Booked s t e r
booked s t e r answer is =
    let placed : has_place s e ≡ is_ok r = sym (ap is_ok answer ∙ accepted (has_place s e)) in
    record {
      page = ap book is ∙ book_entered s e ∙ ap (λ b. cond b (book_with (book s) e) (book s)) placed;
      order = λ h. ap in_order is ∙ order_entered s e h;
      stays = λ ok first last h new. ap (sound_within ok first last) is ∙ sound_entered s e ok first last h new;
      room = λ h. sym placed ∙ place_in_order s e h;
    }
