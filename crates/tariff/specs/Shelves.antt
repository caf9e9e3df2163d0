-- Memory that a caller lends, of which a part at the front is in use.
use Rattle.std.specs.Prelude.{ℕ, List, take}

pub record Shelf (X : Type 0) : Type 0 where
  pub memory : List X
  pub used : ℕ

-- the part that counts
abbrev pub items : {X : Type 0} → Shelf X → List X
items s = take s.used s.memory
