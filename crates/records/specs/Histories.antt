-- A history as a value: the memory that it was lent, and how much of it is in use.
use Rattle.std.specs.Prelude.{ℕ, List, Option}
use Rattle.tariff.specs.Shelves.{Shelf, items}
use Rattle.records.specs.declared.dated.Dated.{Dated}
use Rattle.records.specs.declared.history.History.{History}
use Rattle.records.specs.Books.{lookup}

module _ {T : Type 0} where
  abbrev pub shelf : List (Dated T) → ℕ → Shelf (Dated T)
  shelf m u = record { memory = m; used = u }

  abbrev pub shelf_of : History T → Shelf (Dated T)
  shelf_of h = shelf h.entries.now h.used

  -- the item that each subject has from each day
  abbrev pub book : Shelf (Dated T) → ℕ → ℕ → Option T
  book s = lookup (items s)
