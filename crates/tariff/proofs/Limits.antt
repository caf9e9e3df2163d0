-- The search for the first hour above the limit, one hour on.
use Rattle.std.proofs.Common.{◌≡◌, ℕ, ◌+◌, ◌<◌, ◌≤◌, List, length, get_or, drop, Some, None, ◌∙◌}
use Rattle.std.proofs.lemmas.List.{at_drop_more, at_drop_all}
use Rattle.std.proofs.lemmas.Bool.{cond-true, cond-false, le-leb, lt-leb}
use Rattle.tariff.specs.declared.reading.Reading.{Reading}
use Rattle.tariff.specs.Readings.{quantity_of, too_large}

module _ (rs : List Reading) (i : ℕ) (d : Reading) (lt : i < length rs) where
  pub too_large_here : 99999999 < quantity_of (get_or rs i d) → too_large (i + 1) (drop i rs) ≡ Some (i + 1)
  too_large_here h = at_drop_more (too_large (i + 1)) rs i d lt ∙ cond-false _ _ _ (lt-leb _ _ h)

  pub too_large_later : quantity_of (get_or rs i d) ≤ 99999999 → too_large (i + 1) (drop i rs) ≡ too_large (i + 1 + 1) (drop (i + 1) rs)
  too_large_later h = at_drop_more (too_large (i + 1)) rs i d lt ∙ cond-true _ _ _ (le-leb _ _ h)

pub too_large_none : (rs : List Reading) (i : ℕ) → length rs ≤ i → too_large (i + 1) (drop i rs) ≡ None
too_large_none rs i h = at_drop_all (too_large (i + 1)) rs i h
