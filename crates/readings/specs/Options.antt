-- Options that hang on a test.
use Rattle.std.specs.Prelude.{◌≡◌, ℕ, Bool, true, false, cond, is_some, Some, None, Option, refl}
use Rattle.std.proofs.Common.{sym, arith}
use Rattle.std.proofs.lemmas.Bool.{true≢false}

pub none_some : {X Y : Type 0} (x : X) → None ≡ Some x → Y
none_some x e = let z : ◌≡◌ {A = ℕ} 0 1 = cc in absurd (omega arith)

-- what is there only where a test passes
pub from_passed : {X : Type 0} (b : Bool) (o : Option X) (x : X) → cond b o None ≡ Some x → (b ≡ true) × (o ≡ Some x)
from_passed true o x e = (refl, e)
from_passed false o x e = none_some x e

pub from_failed : {X : Type 0} (b : Bool) (y x : X) → cond b None (Some y) ≡ Some x → (b ≡ false) × (y ≡ x)
from_failed true y x e = none_some x e
from_failed false y x e = (refl, cc)

pub from_none : {X : Type 0} (b : Bool) (o : Option X) (x : X) → cond b o (Some x) ≡ None → (b ≡ true) × (o ≡ None)
from_none true o x e = (refl, e)
from_none false o x e = none_some x (sym e)

pub none_from : {X : Type 0} (o : Option X) → is_some o ≡ false → o ≡ None
none_from None e = refl
none_from (Some x) e = absurd (true≢false e)
