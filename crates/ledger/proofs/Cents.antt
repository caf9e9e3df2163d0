-- Laws of the tests and sums over lines.
use Rattle.std.proofs.Common.{◌≡◌, ℕ, ◌+◌, ◌<◌, Bool, true, false, cond, ◌||◌, eqb, List, [], ◌∷◌, ◌++◌, length, get_or, drop, ℤ, pos, negsuc, ◌+ℤ◌, ◌≤ℤ◌, sym, refl, arith}
use lib.Signed.{le_z}
use Rattle.std.proofs.lemmas.List.{at_drop_more}
use lib.IntN.{+ℤ_idl}
use Rattle.std.proofs.lemmas.Int.{ints}
use Rattle.std.proofs.lemmas.Bool.{eqb-true, eq-eqb, and_parts, false≢true, or_parts}
use Rattle.std.specs.List.{flat_map, AllByRecursion}
use Rattle.std.proofs.ByRecursion.{All-get_or}
use Rattle.tariff.specs.declared.charge.Charge.{Charge}
use Rattle.tariff.specs.declared.charge.Charge.TheVariants as charge
use Rattle.ledger.specs.declared.line.Line.{Line}
use Rattle.ledger.specs.declared.line.Account.{Account}
use Rattle.tariff.specs.Charges.{same_charge}
use Rattle.ledger.specs.Lines.{same_account, any, every, small, sound_line}
use Rattle.ledger.specs.Sums.{cents_of}

-- ---- tests
pub eqb_refl : (n : ℕ) → eqb n n ≡ true
eqb_refl n = eq-eqb n n refl

pub charge_same : (a b : Charge) → same_charge a b ≡ true → a ≡ b
charge_same charge.Network charge.Network e = refl
charge_same charge.Network charge.Line e = absurd (false≢true e)
charge_same charge.Network charge.Transformation e = absurd (false≢true e)
charge_same charge.Line charge.Network e = absurd (false≢true e)
charge_same charge.Line charge.Line e = refl
charge_same charge.Line charge.Transformation e = absurd (false≢true e)
charge_same charge.Transformation charge.Network e = absurd (false≢true e)
charge_same charge.Transformation charge.Line e = absurd (false≢true e)
charge_same charge.Transformation charge.Transformation e = refl

pub account_same : (a b : Account) → same_account a b ≡ true → a ≡ b
account_same a b e =
    let p = and_parts _ _ e in
    let q = and_parts _ _ p.0 in
    let r = and_parts _ _ q.0 in
    let ep = eqb-true a.point b.point r.0 in
    let ec = charge_same a.charge b.charge r.1 in
    let ek = eqb-true a.customer.number b.customer.number q.1 in
    let et = eqb-true a.transmitter.number b.transmitter.number p.1 in
    λ i. record { point = ep i; charge = ec i; customer = record { number = ek i }; transmitter = record { number = et i } }

pub any_push : {X : Type 0} (p : X → Bool) (xs : List X) (x : X) → any p (xs ++ x ∷ []) ≡ (any p xs || p x)
any_push p [] x = elim (p x) as (λ b. (b || false) ≡ b) [ true ↦ refl | false ↦ refl ]
any_push p (y ∷ ys) x = elim (p y) as (λ b. (b || any p (ys ++ x ∷ [])) ≡ ((b || any p ys) || p x)) [ true ↦ refl | false ↦ any_push p ys x ]

pub every_weaker : {X : Type 0} (p q : X → Bool) → ((x : X) → p x ≡ true → q x ≡ true) → (xs : List X) → every p xs ≡ true → every q xs ≡ true
every_weaker p q f [] e = refl
every_weaker p q f (x ∷ xs) e =
    let h = and_parts (p x) (every p xs) e in
    rw (f x h.0) (every_weaker p q f xs h.1)

-- ---- sums
pub cents_append : (p : Line → Bool) (xs ys : List Line) → cents_of p (xs ++ ys) ≡ cents_of p xs +ℤ cents_of p ys
cents_append p [] ys = sym (+ℤ_idl (cents_of p ys))
cents_append p (x ∷ xs) ys = omega (arith, ints, cents_append p xs ys)

pub cents_none : (p : Line → Bool) (xs : List Line) → any p xs ≡ false → cents_of p xs ≡ pos 0
cents_none p [] e = refl
cents_none p (x ∷ xs) e =
    let h = or_parts (p x) (any p xs) e in
    rw h.0 (rw (cents_none p xs h.1))

pub cents_joined : {X : Type 0} (p : Line → Bool) (f : X → List Line) (xs ys : List X)
    → cents_of p (flat_map f (xs ++ ys)) ≡ cents_of p (flat_map f xs) +ℤ cents_of p (flat_map f ys)
cents_joined p f [] ys = sym (+ℤ_idl (cents_of p (flat_map f ys)))
cents_joined p f (x ∷ xs) ys =
    omega (arith, ints, cents_append p (f x) (flat_map f (xs ++ ys)), cents_append p (f x) (flat_map f xs), cents_joined p f xs ys)

-- ---- a loop that adds line by line
pub cents_step : (p : Line → Bool) (xs : List Line) (i : ℕ) (d : Line) (sum share whole : ℤ) → i < length xs
    → share ≡ cond (p (get_or xs i d)) (get_or xs i d).cents (pos 0)
    → sum +ℤ cents_of p (drop i xs) ≡ whole
    → (sum +ℤ share) +ℤ cents_of p (drop (i + 1) xs) ≡ whole
cents_step p xs i d sum share whole h e inv =
    let m : cents_of p (drop i xs) ≡ cond (p (get_or xs i d)) (get_or xs i d).cents (pos 0) +ℤ cents_of p (drop (i + 1) xs)
    = at_drop_more (cents_of p) xs i d h in
    omega (arith, ints)

every_at : {X : Type 0} (p : X → Bool) (xs : List X) (i : ℕ) (d : X) → i < length xs → every p xs ≡ true → p (get_or xs i d) ≡ true
every_at p xs i d h e =
    let a = All-get_or (λ x. p x ≡ true) xs i d h (go xs e) in a
  where
    go : (ys : List _) → every p ys ≡ true → AllByRecursion (λ x. p x ≡ true) ys
    go [] f = tt
    go (y ∷ ys) f = let k = and_parts (p y) (every p ys) f in (k.0, go ys k.1)

abbrev Small : ℤ → Type 0
Small z = (z ≤ℤ pos 9999999900) × (negsuc 9999999899 ≤ℤ z)

small_parts : (z : ℤ) → small z ≡ true → Small z
small_parts z e = let h = and_parts (le_z (negsuc 9999999899) z) (le_z z (pos 9999999900)) e in omega (arith, ints, h.0, h.1)

sound_small : (l : Line) → sound_line l ≡ true → Small l.cents
sound_small l e = small_parts l.cents (and_parts _ _ (and_parts _ _ e).0).1

pub share_small : (xs : List Line) (i : ℕ) (d : Line) (b : Bool) (share : ℤ) → i < length xs → every sound_line xs ≡ true
    → share ≡ cond b (get_or xs i d).cents (pos 0) → Small share
share_small xs i d true share h e f = rw f (sound_small (get_or xs i d) (every_at sound_line xs i d h e))
share_small xs i d false share h e f = rw f (omega (arith, ints))
