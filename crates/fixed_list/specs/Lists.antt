-- What a list holds.
use Rattle.std.specs.Prelude.{ℕ, List, take}
use Rattle.fixed_list.specs.declared.list.FixedList.{FixedList}

abbrev pub items_of : {T : Type 0} {N : ℕ} → FixedList T N → List T
items_of l = take l.count l.places
