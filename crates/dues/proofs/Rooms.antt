-- How many dues there are: a list of 800 has room for those of 400 points.
use Rattle.std.proofs.Common.{◌≡◌, ℕ, zero, suc, ◌+◌, ◌-◌, ◌*◌, ◌<◌, ◌≤◌, Bool, true, false, cond, List, [], ◌∷◌, ◌++◌, length, Some, None, Option, sym, refl, ap, ◌∙◌, ap₂, append_assoc, arith}
use Rattle.std.proofs.lemmas.List.{length-append, length-map, map-append}
use Rattle.readings.specs.Options.{none_some}
use Rattle.tariff.specs.declared.charge.Charge.{Charge}
use Rattle.tariff.specs.declared.charge.Charge.TheVariants as charge
use Rattle.tariff.specs.declared.parties.Rates.{Rates}
use Rattle.tariff.specs.declared.points.PointKind.{PointKind}
use Rattle.tariff.specs.declared.points.PointKind.TheVariants.{Network, Connection}
use Rattle.tariff.specs.Points.{kind_at}
use Rattle.demand.specs.Peaks.{Triple}
use Rattle.ledger.specs.declared.due.Due.{Due}
use Rattle.ledger.specs.Dues.{DueFacts, facts_of, facts_if, all_facts}
use Rattle.dues.specs.Facts.{Facts}
use Rattle.dues.specs.Dues.{has_charge, charge_count, due_of, when, point_dues, dues_up_to}

when_length : (b : Bool) (x : DueFacts) → length (when b x) ≡ cond b 1 0
when_length true x = refl
when_length false x = refl

pub two_at_most : (k : Option PointKind) → charge_count k ≤ 2
two_at_most None = omega arith
two_at_most (Some Network) = omega arith
two_at_most (Some (Connection true true)) = omega arith
two_at_most (Some (Connection true false)) = omega arith
two_at_most (Some (Connection false true)) = omega arith
two_at_most (Some (Connection false false)) = omega arith

module _ (f : Facts) (system : Triple) (rates : Rates) where
  -- the due of one charge, or none
  abbrev pub charge_dues : ℕ → Charge → List DueFacts
  charge_dues p c = when (has_charge (kind_at f.kinds p) c) (due_of f system rates p c)

  pub point_dues_are : (p : ℕ) → point_dues f system rates p ≡ charge_dues p charge.Network ++ (charge_dues p charge.Line ++ charge_dues p charge.Transformation)
  unfolding point_dues
  point_dues_are p = refl

  charge_length : (p : ℕ) (c : Charge) → length (charge_dues p c) ≡ cond (has_charge (kind_at f.kinds p) c) 1 0
  charge_length p c = when_length (has_charge (kind_at f.kinds p) c) (due_of f system rates p c)

  point_length : (p : ℕ) → length (point_dues f system rates p) ≡ charge_count (kind_at f.kinds p)
  point_length p =
      ap length (point_dues_are p)
      ∙ (length-append (charge_dues p charge.Network) (charge_dues p charge.Line ++ charge_dues p charge.Transformation)
      ∙ ap₂ (λ x y. x + y) (charge_length p charge.Network)
      (length-append (charge_dues p charge.Line) (charge_dues p charge.Transformation) ∙ ap₂ (λ x y. x + y) (charge_length p charge.Line) (charge_length p charge.Transformation)))

  pub dues_few : (n : ℕ) → length (dues_up_to f system rates n) ≤ 2 * n
  dues_few zero = omega arith
  dues_few (suc n) =
      omega (arith, length-append (dues_up_to f system rates n) (point_dues f system rates (suc n)), dues_few n, point_length (suc n), two_at_most (kind_at f.kinds (suc n)))

  pub dues_more : (p : ℕ) → 1 ≤ p → dues_up_to f system rates (p - 1) ++ point_dues f system rates p ≡ dues_up_to f system rates p
  dues_more zero low = absurd (omega arith)
  dues_more (suc k) low = let e : suc k - 1 ≡ k = omega arith in ap (λ n. dues_up_to f system rates n ++ point_dues f system rates (suc k)) e

-- one charge of a point, added if the point has it
pub when_added : (m m' : List DueFacts) (b : Bool) (x : DueFacts) → m' ≡ m ++ when b x → length m' ≡ length m + cond b 1 0
when_added m m' b x e = ap length e ∙ (length-append m (when b x) ∙ ap (λ n. length m + n) (when_length b x))

-- the three charges of a point, added one after another
pub three_added : (m m₁ m₂ m₃ a b c : List DueFacts) → m₁ ≡ m ++ a → m₂ ≡ m₁ ++ b → m₃ ≡ m₂ ++ c → m₃ ≡ m ++ (a ++ (b ++ c))
three_added m m₁ m₂ m₃ a b c e₁ e₂ e₃ = simp (e₃, e₂, e₁, append_assoc)

-- what is pushed for a charge, if anything, is what is due for it
pub added : (l m : List Due) (due : Due) (b : Bool) (x : DueFacts) → (length l < 800 → m ≡ l ++ due ∷ []) → length (all_facts l) + cond b 1 0 ≤ 800
    → facts_if (Some due) ≡ cond b (Some x) None → all_facts m ≡ all_facts l ++ when b x
added l m due true x kept room is =
    let same : facts_of due ≡ x = cc in
    ap all_facts (kept (omega (arith, room, length-map l facts_of))) ∙ (map-append facts_of l (due ∷ []) ∙ ap (λ d. all_facts l ++ d ∷ []) same)
added l m due false x kept room is = none_some (facts_of due) (sym is)
