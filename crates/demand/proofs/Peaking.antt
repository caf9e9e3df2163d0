-- The search for the peak: its steps, what it finds, and that nothing else is the peak.
use Rattle.std.proofs.Common.{◌≡◌, ℕ, zero, suc, ◌+◌, ◌-◌, ◌*◌, ◌<◌, ◌≤◌, Bool, true, false, cond, leb, ◌⊎◌, sym, refl, ap, ◌∙◌, subst, ap₂, inl, inr, ⊎_elim, add-zero, arith}
use Rattle.std.proofs.lemmas.Bool.{cases_lt, leb-true, leb-false, both_ways}
use Rattle.hours.specs.Hours.{Inside}
use Rattle.demand.specs.Peaks.{Triple, taken, best_of_day, peak_over, NotAfter, IsPeak, Alike}

module _ (A : ℕ → ℕ → Bool) (q : ℕ → ℕ → ℕ) where
  hour_more : (best : Triple) (d k : ℕ) → taken (A d (suc k)) (q d (suc k)) d (suc k) (best_of_day A q best d k) ≡ best_of_day A q best d (suc k)
  unfolding best_of_day
  hour_more best d k = refl

  pub day_more : (best : Triple) (d h : ℕ) → 1 ≤ h → taken (A d h) (q d h) d h (best_of_day A q best d (h - 1)) ≡ best_of_day A q best d (h + 1 - 1)
  day_more best d h low =
      let here : h ≡ suc (h - 1) = omega arith in
      let next : h + 1 - 1 ≡ suc (h - 1) = omega arith in
      ap (λ k. taken (A d k) (q d k) d k (best_of_day A q best d (h - 1))) here ∙ hour_more best d (h - 1) ∙ ap (best_of_day A q best d) (sym next)

  pub peak_more : {d : ℕ} (n : ℕ) → n ≡ d → 1 ≤ d → best_of_day A q (peak_over A q (d - 1)) d 24 ≡ peak_over A q n
  unfolding peak_over
  peak_more {d} n is low =
      let here : d ≡ suc (d - 1) = omega arith in
      let next : n ≡ suc (d - 1) = omega arith in
      ap (λ k. best_of_day A q (peak_over A q (d - 1)) k 24) here ∙ sym (ap (peak_over A q) next)

-- ---- what is found

-- the admitted hours up to the t-th, counted so that the hour h of day d is the (24 * d + h)-th
abbrev Seen : (ℕ → ℕ → Bool) → ℕ → ℕ → ℕ → Type 0
Seen A t d h = ((1 ≤ d) × ((1 ≤ h) × (h ≤ 24))) × (24 * d + h ≤ t) × (A d h ≡ true)

record Best (A : ℕ → ℕ → Bool) (q : ℕ → ℕ → ℕ) (t : ℕ) (r : Triple) : Type 0 where
  seen : Seen A t r.1 r.2
  amount : r.0 ≡ q r.1 r.2
  greatest : (d h : ℕ) → Seen A t d h → q d h ≤ r.0
  latest : (d h : ℕ) → Seen A t d h → q d h ≡ r.0 → 24 * d + h ≤ 24 * r.1 + r.2

abbrev Found : (ℕ → ℕ → Bool) → (ℕ → ℕ → ℕ) → ℕ → Triple → Type 0
Found A q t r = (((d h : ℕ) → Seen A t d h → ⊥) × (r ≡ (0, 0, 0))) ⊎ Best A q t r

same_hour : (d h e k : ℕ) → 1 ≤ h → h ≤ 24 → 1 ≤ k → k ≤ 24 → 24 * d + h ≡ 24 * e + k → (d ≡ e) × (h ≡ k)
same_hour d h e k a b c f p = (omega arith, omega arith)

module _ (A : ℕ → ℕ → Bool) (q : ℕ → ℕ → ℕ) (t d h : ℕ) (day-from : 1 ≤ d) (hour-from : 1 ≤ h) (hour-to : h ≤ 24) (next : 24 * d + h ≡ t + 1) where
  back : (e k : ℕ) → Seen A (24 * d + h) e k → Seen A t e k ⊎ ((e ≡ d) × (k ≡ h))
  back e k s =
      ⊎_elim (λ lt. inl (s.0, omega arith, s.2)) (λ ge. inr (same_hour e k d h s.0.1.0 s.0.1.1 hour-from hour-to (omega arith)))
      (cases_lt (24 * e + k) (24 * d + h))

  older : (e k : ℕ) → Seen A t e k → Seen A (24 * d + h) e k
  older e k s = (s.0, omega arith, s.2)

  skipped : A d h ≡ false → (r : Triple) → Found A q t r → Found A q (24 * d + h) r
  skipped out r f =
      ⊎_elim (λ n. inl (λ e k s. n.0 e k (was e k s), n.1))
      (λ b. inr (record { seen = older r.1 r.2 b.seen; amount = b.amount; greatest = λ e k s. b.greatest e k (was e k s); latest = λ e k s. b.latest e k (was e k s) })) f
    where
      was : (e k : ℕ) → Seen A (24 * d + h) e k → Seen A t e k
      was e k s = ⊎_elim (λ x. x) (λ p. absurd (both_ways (A d h) out (ap₂ A (sym p.0) (sym p.1) ∙ s.2))) (back e k s)

  kept : (r : Triple) → q d h < r.0 → Found A q t r → Found A q (24 * d + h) r
  kept r less f =
      ⊎_elim (λ n. absurd (omega (arith, ap {B = ℕ} (λ x. x.0) n.1)))
      (λ b. inr (record {
        seen = older r.1 r.2 b.seen;
        amount = b.amount;
        greatest = λ e k s. ⊎_elim (λ x. b.greatest e k x) (λ p. omega (arith, ap₂ q p.0 p.1)) (back e k s);
        latest = λ e k s same. ⊎_elim (λ x. b.latest e k x same) (λ p. absurd (omega (arith, ap₂ q p.0 p.1))) (back e k s);
      })) f

  replaced : A d h ≡ true → (r : Triple) → r.0 ≤ q d h → Found A q t r → Found A q (24 * d + h) (q d h, d, h)
  replaced on r least f =
      inr (record {
        seen = ((day-from, (hour-from, hour-to)), omega arith, on);
        amount = refl;
        greatest = λ e k s. ⊎_elim (λ x. ⊎_elim (λ n. absurd (n.0 e k x)) (λ b. omega (arith, b.greatest e k x)) f) (λ p. omega (arith, ap₂ q p.0 p.1)) (back e k s);
        latest = λ e k s same. s.1;
      })

  step : (r : Triple) → Found A q t r → Found A q (24 * d + h) (taken (A d h) (q d h) d h r)
  step r f = by_rule (A d h) refl
    where
      by_quantity : A d h ≡ true → (b : Bool) → leb r.0 (q d h) ≡ b → Found A q (24 * d + h) (cond {A = Triple} b (q d h, d, h) r)
      by_quantity on true e = replaced on r (leb-true r.0 (q d h) e) f
      by_quantity on false e = kept r (leb-false r.0 (q d h) e) f

      by_rule : (a : Bool) → A d h ≡ a → Found A q (24 * d + h) (taken a (q d h) d h r)
      by_rule true e = by_quantity e (leb r.0 (q d h)) refl
      by_rule false e = skipped e r f

module _ (A : ℕ → ℕ → Bool) (q : ℕ → ℕ → ℕ) where
  day_found : (best : Triple) (d h : ℕ) → 1 ≤ d → h ≤ 24 → Found A q (24 * d) best → Found A q (24 * d + h) (best_of_day A q best d h)
  unfolding best_of_day
  day_found best d zero low high f = subst (λ t. Found A q t best) (sym (add-zero (24 * d))) f
  day_found best d (suc h) low high f =
      step A q (24 * d + h) d (suc h) low (omega arith) high (omega arith) (best_of_day A q best d h) (day_found best d h low (omega arith) f)

  peak_found : (n : ℕ) → Found A q (24 * n + 24) (peak_over A q n)
  unfolding peak_over
  peak_found zero = inl (λ d h s. omega arith, refl)
  peak_found (suc n) =
      let e : 24 * n + 24 ≡ 24 * suc n = omega arith in
      day_found (peak_over A q n) (suc n) 24 (omega arith) (omega arith) (subst (λ t. Found A q t (peak_over A q n)) e (peak_found n))

  not_after : (d h e k : ℕ) → 1 ≤ h → k ≤ 24 → 24 * d + h ≤ 24 * e + k → NotAfter d h e k
  not_after d h e k low high le = ⊎_elim inl (λ ge. inr (omega arith, omega arith)) (cases_lt d e)

  pub peak_is : (n : ℕ) → IsPeak A q n (peak_over A q n)
  peak_is n =
      let r = peak_over A q n in
      ⊎_elim (λ f. inl (λ d h i on. f.0 d h ((i.0.0, i.1), omega arith, on), f.1))
      (λ b. inr (record {
        inside = ((b.seen.0.0, omega (arith, b.seen)), b.seen.0.1);
        admitted = b.seen.2;
        amount = b.amount;
        greatest = λ d h i on. b.greatest d h ((i.0.0, i.1), omega arith, on);
        latest = λ d h i on same. not_after d h r.1 r.2 i.1.0 b.seen.0.1.1 (b.latest d h ((i.0.0, i.1), omega arith, on) same);
      })) (peak_found n)

  pub peak_unique : (n : ℕ) (r s : Triple) → IsPeak A q n r → IsPeak A q n s → r ≡ s
  peak_unique n r s (inl x) (inl y) = x.1 ∙ sym y.1
  peak_unique n r s (inl x) (inr y) = absurd (x.0 s.1 s.2 y.inside y.admitted)
  peak_unique n r s (inr x) (inl y) = absurd (y.0 r.1 r.2 x.inside x.admitted)
  peak_unique n r s (inr x) (inr y) =
      let amounts : r.0 ≡ s.0 = omega (arith, x.amount, y.amount, x.greatest s.1 s.2 y.inside y.admitted, y.greatest r.1 r.2 x.inside x.admitted) in
      let one = x.latest s.1 s.2 y.inside y.admitted (omega (arith, y.amount)) in
      let other = y.latest r.1 r.2 x.inside x.admitted (omega (arith, x.amount)) in
      let days : r.1 ≡ s.1 = omega (arith, one, other) in
      let hours : r.2 ≡ s.2 = omega (arith, one, other) in
      λ i. (amounts i, days i, hours i)

-- ---- what follows of any peak

module _ (A : ℕ → ℕ → Bool) (q : ℕ → ℕ → ℕ) (n : ℕ) (r : Triple) where
  pub peak_bounded : IsPeak A q n r → (b : ℕ) → ((d h : ℕ) → Inside n d h → q d h ≤ b) → r.0 ≤ b
  peak_bounded (inl x) b all = omega (arith, ap {B = ℕ} (λ y. y.0) x.1)
  peak_bounded (inr x) b all = omega (arith, x.amount, all r.1 r.2 x.inside)

  pub peak_greatest : IsPeak A q n r → (d h : ℕ) → Inside n d h → A d h ≡ true → q d h ≤ r.0
  peak_greatest (inl x) d h i on = absurd (x.0 d h i on)
  peak_greatest (inr x) d h i on = x.greatest d h i on

-- ---- only the answers inside the month count

module _ (A B : ℕ → ℕ → Bool) (q p : ℕ → ℕ → ℕ) (n : ℕ) (alike : Alike n A q B p) where
  day_alike : (best : Triple) (d h : ℕ) → 1 ≤ d → d ≤ n → h ≤ 24 → best_of_day A q best d h ≡ best_of_day B p best d h
  unfolding best_of_day
  day_alike best d zero low high to = refl
  day_alike best d (suc h) low high to =
      let ih = day_alike best d h low high (omega arith) in
      let here = alike d (suc h) ((low, high), (omega arith, to)) in
      ap₂ (λ a x. taken a x d (suc h) (best_of_day A q best d h)) here.0 here.1 ∙ ap (taken (B d (suc h)) (p d (suc h)) d (suc h)) ih

  days_alike : (m : ℕ) → m ≤ n → peak_over A q m ≡ peak_over B p m
  unfolding peak_over
  days_alike zero le = refl
  days_alike (suc m) le =
      ap (λ x. best_of_day A q x (suc m) 24) (days_alike m (omega arith)) ∙ day_alike (peak_over B p m) (suc m) 24 (omega arith) le (omega arith)

  pub peak_alike : peak_over A q n ≡ peak_over B p n
  peak_alike = days_alike n (omega arith)
