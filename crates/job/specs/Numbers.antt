-- Whole numbers of any length.
use Rattle.std.specs.Prelude.{ℕ, min, cond, ◌&&◌, List, length, Some, None, Option, nat_lt}
use Rattle.std.specs.Str.{all_ascii_digits}
use Rattle.text.specs.Format.{read_on}

-- the number that decimal digits write, or the largest of 32 bits if it is larger
abbrev pub whole_of : List ℕ → Option ℕ
whole_of ds = cond (nat_lt 0 (length ds) && all_ascii_digits ds) (Some (min (read_on 0 ds) 4294967295)) None
