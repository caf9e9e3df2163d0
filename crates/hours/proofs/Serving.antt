-- The mask of the days in service, as an hour rule.
use Rattle.std.proofs.Common.{◌≡◌, ℕ, ◌+◌, ◌-◌, ◌≤◌, min, Bool, true, false, ◌&&◌, refl, ap, ◌∙◌, arith}
use Rattle.tariff.specs.Ranges.{within, within_from}
use Rattle.calendar.specs.Marks.{marked, MarksJust}
use Rattle.hours.specs.Hours.{in_month, month_within, is_in_service}

same_after : (b x y : Bool) → (b ≡ true → x ≡ y) → (b && x) ≡ (b && y)
same_after true x y h = h refl
same_after false x y h = refl

pub marks_admit : (served : ℕ → Bool) (days n first mask : ℕ) → days ≤ 31 → n ≡ days → MarksJust (min n 32) (λ d. within days d && served (first + (d - 1))) mask → (d h : ℕ) →
    (in_month n d h && marked mask d) ≡ is_in_service days first served d h
marks_admit served days n first mask few is marks d h =
    ap (λ k. in_month k d h && marked mask d) is
    ∙ same_after (in_month days d h) (marked mask d) (served (first + (d - 1)))
    (λ inside.
    let p = month_within days d h inside in
    marks.days d (omega arith) (omega arith) ∙ ap (λ b. b && served (first + (d - 1))) (within_from days d (omega arith) (omega arith)))
