-- What an entry changes, and what it is to the plain book.
use Rattle.std.specs.Prelude.{◌≡◌, ℕ, Bool, true, cond, ◌&&◌, ◌||◌, ◌++◌, length, drop, is_some, is_ok, Ok, Err, Result, nat_le, nat_lt}
use Rattle.tariff.specs.declared.refusal.Refusal.{Refusal}
use Rattle.tariff.specs.declared.refusal.Refusal.TheVariants.{HistoryFull}
use Rattle.tariff.specs.Shelves.{Shelf, items}
use Rattle.records.specs.declared.dated.Dated.{Dated}
use Rattle.records.specs.Books.{put, book_with}
use Rattle.records.specs.Histories.{book}
use Rattle.records.specs.Soundness.{in_order, in_range, sound_within}

module _ {T : Type 0} where
  abbrev pub dated : ℕ → ℕ → T → Dated T
  dated s d x = record { subject = s; from_day = d; item = x }

  -- the memory is long enough for what is in use once e is entered
  abbrev pub has_place : Shelf (Dated T) → Dated T → Bool
  has_place s e = nat_le s.used (length s.memory) && nat_le (length (put (items s) e)) (length s.memory)

  -- the shelf with e entered, and its memory as it was behind what is then in use
  abbrev pub with_entry : Shelf (Dated T) → Dated T → Shelf (Dated T)
  with_entry s e = record {
    memory = put (items s) e ++ drop (length (put (items s) e)) s.memory;
    used = length (put (items s) e);
  }

  -- a refusal changes nothing
  abbrev pub entered_shelf : Shelf (Dated T) → Dated T → Shelf (Dated T)
  entered_shelf s e = cond (has_place s e) (with_entry s e) s

  abbrev pub entry_answer : Shelf (Dated T) → Dated T → Result (Unit {0}) Refusal
  entry_answer s e = cond (has_place s e) (Ok tt) (Err HistoryFull)

  -- how many entries are then in use
  abbrev pub count_answer : Shelf (Dated T) → Dated T → Result ℕ Refusal
  count_answer s e = cond (has_place s e) (Ok (length (put (items s) e))) (Err HistoryFull)

-- s became t when e was to be entered, with the answer r
pub record Booked {T : Type 0} (s t : Shelf (Dated T)) (e : Dated T) (r : Result (Unit {0}) Refusal) : Type 0 where
  -- e is entered in the plain book, which a refusal leaves as it was: for any memory
  pub page : book t ≡ cond (is_ok r) (book_with (book s) e) (book s)
  pub order : in_order s ≡ true → in_order t ≡ true
  pub stays : (ok : T → Bool) (first last : ℕ) → sound_within ok first last s ≡ true → in_range ok first last e ≡ true → sound_within ok first last t ≡ true
  -- a refusal comes only of a new entry with no place left
  pub room : in_order s ≡ true → is_ok r ≡ (is_some (book s e.subject e.from_day) || nat_lt s.used (length s.memory))
