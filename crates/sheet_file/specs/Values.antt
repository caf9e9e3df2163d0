-- What a line's values are, and what an hour's value says.
use Rattle.std.specs.Prelude.{◌≡◌, ℕ, cond, List, [], ◌∷◌, None, Option, ◌==◌, ◌≢◌, slice_index}
use Rattle.std.specs.Option.{option_map}
use Rattle.tariff.specs.declared.reading.Reading.{Reading}
use Rattle.tariff.specs.declared.reading.Reading.TheVariants as reading
use Rattle.text.specs.Format.{parts, number_of}
use Rattle.sheet_file.specs.declared.value.Value.{Value}
use Rattle.sheet_file.specs.declared.value.Value.TheVariants.{Withdrawal, Injection, Number}

-- a bar stands between two values
abbrev pub values : List ℕ → List (List ℕ)
values = parts 124

-- the letter W or I and what follows it, or a text with no such letter in front
abbrev pub Spelled : Value → List ℕ → Type 0
Spelled (Withdrawal ds) text = text ≡ 87 ∷ ds.now
Spelled (Injection ds) text = text ≡ 73 ∷ ds.now
Spelled (Number ds) text = (ds.now ≡ text) × (slice_index text 0 ≢ 87) × (slice_index text 0 ≢ 73)

-- W or I, and then 1 to 8 digits
abbrev pub reading_of : List ℕ → Option Reading
reading_of [] = None
reading_of (c ∷ ds) =
    cond (c == 87) (option_map reading.Withdrawal (number_of 8 ds))
    (cond (c == 73) (option_map reading.Injection (number_of 8 ds)) None)
