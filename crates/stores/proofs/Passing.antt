-- What a sheet or a size that is not refused is like.
use Rattle.std.proofs.Common.{◌≡◌, ℕ, ◌≤◌, Bool, true, false, cond, ◌&&◌, leb, is_ok, Some, None, Ok, Err, Option, Result, refl, arith}
use Rattle.std.specs.List.{AllByRecursion}
use Rattle.std.proofs.lemmas.Bool.{and_parts, leb-true}
use Rattle.tariff.specs.declared.reading.Sheet.{Sheet}
use Rattle.tariff.specs.declared.refusal.Refusal.TheVariants.{StoreDoesNotFit}
use Rattle.tariff.specs.Ranges.{within, between}
use Rattle.tariff.specs.Readings.{Allowed, too_large}
use Rattle.tariff.specs.Sheets.{quantities_judged, judged}
use Rattle.stores.specs.Limits.{all_allowed}
use Rattle.stores.specs.Room.{room_judged}

ok_passed : {X Y : Type 0} (b : Bool) (r : Result X Y) (y : Y) (x : X) → cond b r (Err y) ≡ Ok x → (b ≡ true) × (r ≡ Ok x)
ok_passed true r y x e = (refl, e)
ok_passed false r y x e = let z : ◌≡◌ {A = ℕ} 0 1 = cc in absurd (omega arith)

quantities_ok : (o : Option ℕ) → quantities_judged o ≡ Ok tt → o ≡ None
quantities_ok None e = refl
quantities_ok (Some h) e = let z : ◌≡◌ {A = ℕ} 0 1 = cc in absurd (omega arith)

pub record Passed (n days : ℕ) (s : Sheet) : Type 0 where
  pub point : within n s.point ≡ true
  pub day : within days s.day ≡ true
  pub none : too_large 1 s.readings ≡ None
  pub allowed : AllByRecursion Allowed s.readings

pub judged_ok : (n days : ℕ) (s : Sheet) → judged n days s ≡ Ok tt → Passed n days s
judged_ok n days s e =
    let (wp, f) = ok_passed (within n s.point) _ _ tt e in
    let (wd, q) = ok_passed (within days s.day) _ _ tt f in
    record { point = wp; day = wd; none = quantities_ok _ q; allowed = all_allowed 1 s.readings (quantities_ok _ q) }

ok_only : {X Y : Type 0} (b : Bool) (x : X) (y : Y) → is_ok (cond b (Ok x) (Err y)) ≡ true → b ≡ true
ok_only true x y e = refl
ok_only false x y e = e

pub room_enough : (n days need len : ℕ) → is_ok (room_judged n days need len) ≡ true → need ≤ len
room_enough n days need len e =
    let passed = ok_only (leb n 400 && (between 28 31 days && leb need len)) tt StoreDoesNotFit e in
    leb-true need len (and_parts (between 28 31 days) _ (and_parts (leb n 400) _ passed).1).1
