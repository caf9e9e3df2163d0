-- When a history is sound.
use Rattle.std.specs.Prelude.{ℕ, Bool, true, cond, ◌&&◌, List, [], ◌∷◌, length, Some, None, Ok, Err, Option, Result, nat_le}
use Rattle.tariff.specs.declared.refusal.Refusal.{Refusal}
use Rattle.tariff.specs.declared.refusal.Refusal.TheVariants.{Unsound}
use Rattle.tariff.specs.Ranges.{between}
use Rattle.tariff.specs.Shelves.{Shelf, items}
use Rattle.records.specs.declared.dated.Dated.{Dated}
use Rattle.records.specs.Books.{sorted}

-- the memory has as many entries as are in use, and each of them stands before the next
abbrev pub in_order : {T : Type 0} → Shelf (Dated T) → Bool
in_order s = nat_le s.used (length s.memory) && sorted (items s)

-- what is on record, if anything is, passes
abbrev pub passes : {T : Type 0} → (T → Bool) → Option T → Bool
passes ok None = true
passes ok (Some x) = ok x

module _ {T : Type 0} (ok : T → Bool) (first last : ℕ) where
  -- the subject is one of first to last, the from-day is not after 31 December 2099, and the item passes
  abbrev pub in_range : Dated T → Bool
  in_range x = between first last x.subject && (nat_le x.from_day 36524 && ok x.item)

  abbrev pub all_in_range : List (Dated T) → Bool
  all_in_range [] = true
  all_in_range (x ∷ xs) = in_range x && all_in_range xs

  abbrev pub sound_within : Shelf (Dated T) → Bool
  sound_within s = in_order s && all_in_range (items s)

  abbrev pub check_answer : Shelf (Dated T) → Result (Unit {0}) Refusal
  check_answer s = cond (sound_within s) (Ok tt) (Err Unsound)
