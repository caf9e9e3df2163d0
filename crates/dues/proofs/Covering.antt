-- Which accounts the dues cover, and by which due.
use Rattle.std.proofs.Common.{◌≡◌, ℕ, zero, suc, ◌-◌, ◌≤◌, Bool, true, false, cond, List, [], ◌∷◌, ◌++◌, length, get_or, Some, None, sym, refl, ap, ◌∙◌, subst, ap₂, ⊎_elim, arith}
use Rattle.std.specs.List.{ContainsAt as Has, AllByRecursion}
use Rattle.std.proofs.ByRecursion.{has_append_left, has_append_right}
use Rattle.std.proofs.lemmas.Bool.{and_parts, and_from, cases_lt, eqb-true, or_cases, false≢true}
use Rattle.std.proofs.lemmas.Bool.Decides.{Decides-by_or, same_from_decides}
use Rattle.tariff.specs.declared.charge.Charge.{Charge}
use Rattle.tariff.specs.declared.charge.Charge.TheVariants as charge
use Rattle.tariff.specs.declared.parties.Rates.{Rates}
use Rattle.tariff.specs.declared.points.PointKind.{PointKind}
use Rattle.tariff.specs.declared.points.PointKind.TheVariants.{Network}
use Rattle.tariff.specs.Charges.{charge_number}
use Rattle.tariff.specs.Points.{kind_at}
use Rattle.tariff.specs.Ranges.{within, between_parts}
use Rattle.demand.specs.Peaks.{Triple}
use Rattle.ledger.specs.declared.line.Account.{Account}
use Rattle.ledger.specs.Lines.{any}
use Rattle.ledger.specs.Dues.{DueFacts}
use Rattle.ledger.specs.Issues.{covers}
use Rattle.ledger.proofs.Cents.{eqb_refl, charge_same}
use Rattle.dues.specs.Facts.{Facts, last_day}
use Rattle.dues.specs.Dues.{peak_of, has_charge, due_of, when, point_dues, dues_up_to, dues_at, dues_of}
use Rattle.dues.proofs.Rooms.{charge_dues, point_dues_are}
use Rattle.dues.proofs.Among.{all_up_to}

-- a point with a charge is declared
pub declared_within : (kinds : List PointKind) (p : ℕ) (c : Charge) → has_charge (kind_at kinds p) c ≡ true → (1 ≤ p) × (p ≤ length kinds)
declared_within kinds p c e = between_parts 1 (length kinds) p (by (within (length kinds) p) (get_or kinds (p - 1) Network) e)
  where
    by : (b : Bool) (k : PointKind) → has_charge (cond b (Some k) None) c ≡ true → b ≡ true
    by true k h = refl
    by false k h = h

has_when : (b : Bool) (x : DueFacts) → b ≡ true → Has (when b x) x
has_when true x e = (0, omega arith, λ d. refl)
has_when false x e = absurd (false≢true e)

any_has : (P : DueFacts → Bool) (xs : List DueFacts) (x : DueFacts) → Has xs x → P x ≡ true → any P xs ≡ true
any_has P xs x has e =
    let (k, lt, at) = has in
    (Decides-by_or P (λ y. P y ≡ true) (any P) (λ y. (λ h. h, λ h. h)) refl (λ _ _. refl) xs).1 (k, lt, λ d. ap P (at d) ∙ e)

any_all : (P : DueFacts → Bool) (Q : Type 0) (xs : List DueFacts) → AllByRecursion (λ x. P x ≡ true → Q) xs → any P xs ≡ true → Q
any_all P Q [] all e = absurd (false≢true e)
any_all P Q (x ∷ xs) all e = ⊎_elim all.0 (any_all P Q xs all.1) (or_cases (P x) (any P xs) e)

module _ (f : Facts) (system : Triple) (rates : Rates) where
  own : (p : ℕ) (c : Charge) → has_charge (kind_at f.kinds p) c ≡ true → Has (charge_dues f system rates p c) (due_of f system rates p c)
  own p c e = has_when (has_charge (kind_at f.kinds p) c) (due_of f system rates p c) e

  three_have : (p : ℕ) (c : Charge) → has_charge (kind_at f.kinds p) c ≡ true
      → Has (charge_dues f system rates p charge.Network ++ (charge_dues f system rates p charge.Line ++ charge_dues f system rates p charge.Transformation)) (due_of f system rates p c)
  three_have p c e = by (charge_dues f system rates p) c (due_of f system rates p c) (own p c e)
    where
      by : (of : Charge → List DueFacts) (c : Charge) (d : DueFacts) → Has (of c) d → Has (of charge.Network ++ (of charge.Line ++ of charge.Transformation)) d
      by of charge.Network d h = has_append_left (of charge.Network) (of charge.Line ++ of charge.Transformation) d h
      by of charge.Line d h = has_append_right (of charge.Network) (of charge.Line ++ of charge.Transformation) d (has_append_left (of charge.Line) (of charge.Transformation) d h)
      by of charge.Transformation d h = has_append_right (of charge.Network) (of charge.Line ++ of charge.Transformation) d (has_append_right (of charge.Line) (of charge.Transformation) d h)

  point_has : (p : ℕ) (c : Charge) → has_charge (kind_at f.kinds p) c ≡ true → Has (point_dues f system rates p) (due_of f system rates p c)
  point_has p c e = subst (λ l. Has l (due_of f system rates p c)) (sym (point_dues_are f system rates p)) (three_have p c e)

  up_to_has : (n p : ℕ) (c : Charge) → 1 ≤ p → p ≤ n → has_charge (kind_at f.kinds p) c ≡ true → Has (dues_up_to f system rates n) (due_of f system rates p c)
  up_to_has zero p c low high e = absurd (omega arith)
  up_to_has (suc n) p c low high e =
      let d = due_of f system rates p c in
      ⊎_elim (λ lt. has_append_left (dues_up_to f system rates n) (point_dues f system rates (suc n)) d (up_to_has n p c low (omega arith) e))
      (λ ge.
      let is : p ≡ suc n = omega arith in
      has_append_right (dues_up_to f system rates n) (point_dues f system rates (suc n)) d (subst (λ q. Has (point_dues f system rates q) d) is (point_has p c e)))
      (cases_lt p (suc n))

  pub covers_own : (a : Account) → covers (due_of f system rates a.point a.charge) a ≡ true
  unfolding due_of
  covers_own a = and_from _ _ (eqb_refl a.point) (eqb_refl (charge_number a.charge))

  covered_is : (p : ℕ) (c : Charge) (a : Account) → covers (due_of f system rates p c) a ≡ true → (p ≡ a.point) × (c ≡ a.charge)
  unfolding due_of
  covered_is p c a e = let q = and_parts _ _ e in (eqb-true p a.point q.0, charge_same c a.charge q.1)

module _ (f : Facts) (r : Rates) (on : f.rates_on (last_day f) ≡ Some r) where
  all_dues : dues_of f ≡ dues_up_to f (peak_of f) r (length f.kinds)
  all_dues = ap (dues_at f) on

  -- a declared point has a due for each of its charges
  pub due_among : (p : ℕ) (c : Charge) → has_charge (kind_at f.kinds p) c ≡ true → Has (dues_of f) (due_of f (peak_of f) r p c)
  due_among p c e =
      let (low, high) = declared_within f.kinds p c e in
      subst (λ l. Has l (due_of f (peak_of f) r p c)) (sym all_dues) (up_to_has f (peak_of f) r (length f.kinds) p c low high e)

  -- a due that covers an account is the one of its point and charge
  pub covering_due : (a : Account) → AllByRecursion (λ d. covers d a ≡ true → d ≡ due_of f (peak_of f) r a.point a.charge) (dues_of f)
  covering_due a =
      subst (AllByRecursion (λ d. covers d a ≡ true → d ≡ due_of f (peak_of f) r a.point a.charge)) (sym all_dues)
      (all_up_to f (peak_of f) r (λ d. covers d a ≡ true → d ≡ due_of f (peak_of f) r a.point a.charge) (length f.kinds)
      (λ p c _ _ _ e. let (ep, ec) = covered_is f (peak_of f) r p c a e in ap₂ (due_of f (peak_of f) r) ep ec))

  -- just the accounts of the charges that declared points have are covered
  pub covered : (a : Account) → any (λ d. covers d a) (dues_of f) ≡ has_charge (kind_at f.kinds a.point) a.charge
  covered a = same_from_decides _ _ (there, back) (λ e. e, λ e. e)
    where
      back : has_charge (kind_at f.kinds a.point) a.charge ≡ true → any (λ d. covers d a) (dues_of f) ≡ true
      back e = any_has (λ d. covers d a) (dues_of f) _ (due_among a.point a.charge e) (covers_own f (peak_of f) r a)

      there : any (λ d. covers d a) (dues_of f) ≡ true → has_charge (kind_at f.kinds a.point) a.charge ≡ true
      there e =
          any_all (λ d. covers d a) (has_charge (kind_at f.kinds a.point) a.charge ≡ true) (dues_up_to f (peak_of f) r (length f.kinds))
          (all_up_to f (peak_of f) r (λ d. covers d a ≡ true → has_charge (kind_at f.kinds a.point) a.charge ≡ true) (length f.kinds)
          (λ p c _ _ h is. let (ep, ec) = covered_is f (peak_of f) r p c a is in sym (ap₂ (λ q k. has_charge (kind_at f.kinds q) k) ep ec) ∙ h))
          (sym (ap (any (λ d. covers d a)) all_dues) ∙ e)
