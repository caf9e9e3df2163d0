-- A line being written, and the memory that it is copied to.
use Rattle.std.specs.Prelude.{ℕ, cond, List, ◌++◌, length, drop, Some, None, Option, nat_le}
use Rattle.fixed_list.specs.Lists.{items_of}
use Rattle.text.specs.declared.line.Text.{Text}

-- what is written so far
abbrev pub text_of : Text → List ℕ
text_of t = items_of t.bytes

-- the line's length where the memory has room for it
abbrev pub fitting : List ℕ → ℕ → Option ℕ
fitting line room = cond (nat_le (length line) room) (Some (length line)) None

-- the line, and then what stood there; where there is no room nothing changes
abbrev pub overlay : Option ℕ → List ℕ → List ℕ → List ℕ
overlay (Some n) line out = line ++ drop n out
overlay None line out = out
