-- What is left of a text whose parts are taken one by one.
use Rattle.std.specs.Prelude.{ℕ, List, []}
use Rattle.std.specs.Option.{option_map_or}
use Rattle.text.specs.declared.walk.Parts.{Parts}
use Rattle.text.specs.Format.{parts}

abbrev pub left_in : Parts → List (List ℕ)
left_in p = option_map_or (λ rest. parts p.mark rest.now) p.rest []
