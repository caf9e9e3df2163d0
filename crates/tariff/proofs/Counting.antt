-- The points declared so far, and one more.
use Rattle.std.proofs.Common.{◌≡◌, ℕ, ◌<◌, ◌≤◌, ◌==◌, false, List, [], ◌∷◌, ◌++◌, length, Some, None, Ok, Option, sym, ap, ◌∙◌, rules}
use Rattle.std.specs.Option.{ok_or, option_to_list}
use Rattle.std.proofs.lemmas.List.{length_push}
use Rattle.std.proofs.lemmas.Bool.{cond-true, lt-ltb}
use Rattle.tariff.specs.declared.points.PointKind.{PointKind}
use Rattle.tariff.specs.declared.refusal.Refusal.{Refusal}
use Rattle.tariff.specs.Points.{numbered, declared}

pub below_full : (n : ℕ) → n ≤ 400 → (n == 400) ≡ false → n < 400
below_full n most other = Prim.search rules

some_of : (kind : Option PointKind) (e : Refusal) (one : PointKind) → Ok one ≡ ok_or kind e → kind ≡ Some one
some_of (Some kind) e one is = cc
some_of None e one is = cc

module _ (kinds : List PointKind) (kind : Option PointKind) (e : Refusal) (one : PointKind) (made : Ok one ≡ ok_or kind e) where
  pub point_added : kinds ++ one ∷ [] ≡ kinds ++ option_to_list kind
  point_added = ap (λ k. kinds ++ option_to_list k) (sym (some_of kind e one made))

  pub point_numbered : length kinds < 400 → Ok (length (kinds ++ one ∷ [])) ≡ declared (length kinds) kind
  point_numbered room =
      ap Ok (length_push kinds one) ∙ sym (cond-true _ _ _ (lt-ltb (length kinds) 400 room) ∙ ap (numbered (length kinds)) (some_of kind e one made))
