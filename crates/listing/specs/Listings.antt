-- The listing of a ledger, and what it is read back as.
use Rattle.std.specs.Prelude.{◌≡◌, ℕ, cond, List, [], ◌∷◌, ◌++◌, map, Err, codes, Result}
use Rattle.std.specs.List.{flat_map, AllByRecursion}
use Rattle.std.specs.Option.{ok_or}
use Rattle.tariff.specs.declared.refusal.Refusal.{Refusal}
use Rattle.tariff.specs.declared.refusal.Refusal.TheVariants.{Unsound, TextTooShort}
use Rattle.tariff.specs.Shelves.{Shelf, items}
use Rattle.text.specs.Format.{lines, parts}
use Rattle.text.specs.Texts.{fitting}
use Rattle.ledger.specs.declared.line.Line.{Line}
use Rattle.ledger.specs.Ledgers.{sound_ledger}
use Rattle.listing.specs.Rows.{line_values, line_row, line_text}

abbrev pub header_row : List ℕ
header_row = codes "type|point|charge|customer|transmitter|cents|quantity|day|hour"

abbrev pub listing_of : List Line → List ℕ
listing_of ls = (header_row ++ 10 ∷ []) ++ flat_map line_text ls

-- the listing's length, where the ledger is sound and the text memory has room for it
abbrev pub listing_answer : Shelf Line → ℕ → Result ℕ Refusal
listing_answer g room = cond (sound_ledger g) (ok_or (fitting (listing_of (items g)) room) TextTooShort) (Err Unsound)

-- a text whose lines are the header and one for each of ls, in order, and whose values, split at each `|` (124), are theirs
pub record Listed (ls : List Line) (text : List ℕ) : Type 0 where
  pub rows : lines text ≡ header_row ∷ map line_row ls
  pub values : AllByRecursion (λ l. parts 124 (line_row l) ≡ line_values l) ls
