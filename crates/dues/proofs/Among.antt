-- What holds of each due that there is.
use Rattle.std.proofs.Common.{◌≡◌, ℕ, zero, suc, ◌≤◌, Bool, true, false, List, [], ◌∷◌, sym, refl, subst, arith}
use Rattle.std.specs.List.{AllByRecursion}
use Rattle.std.proofs.ByRecursion.{All-append}
use Rattle.std.proofs.lemmas.Bool.{and_from}
use Rattle.tariff.specs.declared.charge.Charge.{Charge}
use Rattle.tariff.specs.declared.charge.Charge.TheVariants as charge
use Rattle.tariff.specs.declared.parties.Rates.{Rates}
use Rattle.tariff.specs.Points.{kind_at}
use Rattle.demand.specs.Peaks.{Triple}
use Rattle.ledger.specs.Lines.{every}
use Rattle.ledger.specs.Dues.{DueFacts}
use Rattle.dues.specs.Facts.{Facts}
use Rattle.dues.specs.Dues.{has_charge, due_of, when, point_dues, dues_up_to}
use Rattle.dues.proofs.Rooms.{point_dues_are}

pub every_from : {X : Type 0} (P : X → Bool) (xs : List X) → AllByRecursion (λ x. P x ≡ true) xs → every P xs ≡ true
every_from P [] all = refl
every_from P (x ∷ xs) all = and_from (P x) (every P xs) all.0 (every_from P xs all.1)

pub all_when : (P : DueFacts → Type 0) (b : Bool) (x : DueFacts) → (b ≡ true → P x) → AllByRecursion P (when b x)
all_when P true x h = (h refl, tt)
all_when P false x h = tt

module _ (f : Facts) (system : Triple) (rates : Rates) (P : DueFacts → Type 0) where
  pub all_point : (p : ℕ) → ((c : Charge) → has_charge (kind_at f.kinds p) c ≡ true → P (due_of f system rates p c)) → AllByRecursion P (point_dues f system rates p)
  all_point p h =
      subst (AllByRecursion P) (sym (point_dues_are f system rates p))
      (All-append P _ _ (all_when P _ _ (h charge.Network))
      (All-append P _ _ (all_when P _ _ (h charge.Line)) (all_when P _ _ (h charge.Transformation))))

  -- what holds of each due of each of the first n points holds of all their dues
  pub all_up_to : (n : ℕ) → ((p : ℕ) (c : Charge) → 1 ≤ p → p ≤ n → has_charge (kind_at f.kinds p) c ≡ true → P (due_of f system rates p c)) → AllByRecursion P (dues_up_to f system rates n)
  all_up_to zero h = tt
  all_up_to (suc n) h =
      All-append P (dues_up_to f system rates n) (point_dues f system rates (suc n))
      (all_up_to n (λ p c low high. h p c low (omega arith)))
      (all_point (suc n) (λ c. h (suc n) c (omega arith) (omega arith)))
