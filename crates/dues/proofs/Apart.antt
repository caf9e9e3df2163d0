-- No two dues are for the same charge of the same point.
use Rattle.std.proofs.Common.{◌≡◌, ℕ, zero, suc, ◌<◌, Bool, true, false, not, eqb, List, [], ◌∷◌, ◌++◌, length, Some, None, Option, refl, ap, ◌∙◌, arith}
use Rattle.std.specs.List.{AllByRecursion}
use Rattle.std.proofs.ByRecursion.{All-append}
use Rattle.std.proofs.lemmas.Bool.{and_from, and_parts, and_left, and_right, or_from, or_parts, not-true, not_from_false, ne_eqb}
use Rattle.tariff.specs.declared.charge.Charge.{Charge}
use Rattle.tariff.specs.declared.charge.Charge.TheVariants as charge
use Rattle.tariff.specs.declared.parties.Rates.{Rates}
use Rattle.tariff.specs.Charges.{same_charge}
use Rattle.demand.specs.Peaks.{Triple}
use Rattle.ledger.specs.Lines.{any}
use Rattle.ledger.specs.Dues.{DueFacts}
use Rattle.ledger.specs.Issues.{same_item, distinct}
use Rattle.dues.specs.Facts.{Facts, last_day}
use Rattle.dues.specs.Dues.{peak_of, due_of, when, point_dues, dues_up_to, dues_at, dues_of}
use Rattle.dues.proofs.Rooms.{charge_dues, point_dues_are}
use Rattle.dues.proofs.Among.{all_when, all_point, all_up_to}

any_none : (P : DueFacts → Bool) (xs : List DueFacts) → AllByRecursion (λ x. P x ≡ false) xs → any P xs ≡ false
any_none P [] all = refl
any_none P (x ∷ xs) all = or_from (P x) (any P xs) all.0 (any_none P xs all.1)

-- d is for another item than each of ys
abbrev NoneOf : List DueFacts → DueFacts → Type 0
NoneOf ys d = AllByRecursion (λ y. same_item d y ≡ false) ys

any_append : (P : DueFacts → Bool) (xs ys : List DueFacts) → any P xs ≡ false → any P ys ≡ false → any P (xs ++ ys) ≡ false
any_append P [] ys a b = b
any_append P (x ∷ xs) ys a b = let p = or_parts (P x) (any P xs) a in or_from (P x) (any P (xs ++ ys)) p.0 (any_append P xs ys p.1 b)

distinct_append : (xs ys : List DueFacts) → distinct xs ≡ true → distinct ys ≡ true → AllByRecursion (NoneOf ys) xs → distinct (xs ++ ys) ≡ true
distinct_append [] ys a b c = b
distinct_append (x ∷ xs) ys a b c =
    let p = and_parts (not (any (same_item x) xs)) (distinct xs) a in
    and_from (not (any (same_item x) (xs ++ ys))) (distinct (xs ++ ys))
    (not_from_false _ (any_append (same_item x) xs ys (not-true _ p.0) (any_none (same_item x) ys c.0)))
    (distinct_append xs ys p.1 b c.1)

distinct_when : (b : Bool) (x : DueFacts) → distinct (when b x) ≡ true
distinct_when true x = refl
distinct_when false x = refl

module _ (f : Facts) (system : Triple) (rates : Rates) where
  other_charge : (p : ℕ) (c e : Charge) → same_charge e c ≡ false → same_item (due_of f system rates p c) (due_of f system rates p e) ≡ false
  unfolding due_of
  other_charge p c e h = and_right (eqb p p) (same_charge e c) h

  other_point : (p q : ℕ) (c e : Charge) → p < q → same_item (due_of f system rates p c) (due_of f system rates q e) ≡ false
  unfolding due_of
  other_point p q c e lt = and_left (eqb q p) (same_charge e c) (ne_eqb q p (λ is. omega (arith, is)))

  -- the due of a charge, if there is one, is for another item than that of another charge
  charges_apart : (p : ℕ) (c e : Charge) → same_charge e c ≡ false → NoneOf (charge_dues f system rates p e) (due_of f system rates p c)
  charges_apart p c e h = all_when (λ y. same_item (due_of f system rates p c) y ≡ false) _ _ (λ _. other_charge p c e h)

  charge_apart : (p : ℕ) (c : Charge) (ys : List DueFacts) → distinct ys ≡ true → NoneOf ys (due_of f system rates p c) → distinct (charge_dues f system rates p c ++ ys) ≡ true
  charge_apart p c ys ok none = distinct_append (charge_dues f system rates p c) ys (distinct_when _ _) ok (all_when (NoneOf ys) _ _ (λ _. none))

  point_apart : (p : ℕ) → distinct (point_dues f system rates p) ≡ true
  point_apart p =
      ap distinct (point_dues_are f system rates p)
      ∙ charge_apart p charge.Network (charge_dues f system rates p charge.Line ++ charge_dues f system rates p charge.Transformation)
      (charge_apart p charge.Line (charge_dues f system rates p charge.Transformation) (distinct_when _ _) (charges_apart p charge.Line charge.Transformation refl))
      (All-append (λ y. same_item (due_of f system rates p charge.Network) y ≡ false) (charge_dues f system rates p charge.Line) (charge_dues f system rates p charge.Transformation)
      (charges_apart p charge.Network charge.Line refl) (charges_apart p charge.Network charge.Transformation refl))

  up_to_apart : (n : ℕ) → distinct (dues_up_to f system rates n) ≡ true
  up_to_apart zero = refl
  up_to_apart (suc n) =
      distinct_append (dues_up_to f system rates n) (point_dues f system rates (suc n)) (up_to_apart n) (point_apart (suc n))
      (all_up_to f system rates (NoneOf (point_dues f system rates (suc n))) n (λ p c low high _.
      all_point f system rates (λ y. same_item (due_of f system rates p c) y ≡ false) (suc n) (λ e _. other_point p (suc n) c e (omega arith))))

pub dues_distinct : (f : Facts) → distinct (dues_of f) ≡ true
dues_distinct f = by (f.rates_on (last_day f))
  where
    by : (o : Option Rates) → distinct (dues_at f o) ≡ true
    by None = refl
    by (Some r) = up_to_apart f (peak_of f) r (length f.kinds)
