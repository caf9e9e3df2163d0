-- What the lines of a statement add up to, account by account.
use Rattle.std.proofs.Common.{◌≡◌, ℕ, Bool, true, false, cond, not, ◌&&◌, ◌||◌, eqb, List, [], ◌∷◌, ◌++◌, ℤ, pos, negsuc, ◌+ℤ◌, ◌-ℤ◌, sym, refl, ap, ◌∙◌, subst, ap₂, append-nil, arith}
use lib.IntN.{+ℤ_idl, +ℤ_idr}
use Rattle.std.proofs.lemmas.Int.{ints}
use Rattle.std.proofs.lemmas.Bool.{eqb-true, and_parts, false≢true, true≢false, or_parts, not-true, and_left}
use Rattle.std.proofs.lemmas.Bool.Decides.{nat_tests}
use Rattle.std.proofs.ByRecursion.{All-weaker}
use Rattle.std.specs.List.{flat_map, AllByRecursion}
use Rattle.tariff.specs.declared.statement.Statement.{Statement}
use Rattle.ledger.specs.declared.line.Line.{Line}
use Rattle.ledger.specs.Dues.{DueFacts}
use Rattle.ledger.specs.declared.line.Account.{Account}
use Rattle.tariff.specs.declared.parties.PartyNumber.{PartyNumber}
use Rattle.tariff.specs.Charges.{charge_number}
use Rattle.ledger.specs.Lines.{account_of, same_account, any}
use Rattle.ledger.specs.Sums.{cents_of, on_account, total_of}
use Rattle.ledger.specs.Issues.{covers, is_on_record, accounts_from, opens, only_if, terms_of, increment, is_zero, entry_line, entry_for, due_lines, statement_lines, same_item, distinct, Settled, Unmoved}
use Rattle.ledger.proofs.Cents.{eqb_refl, charge_same, account_same, any_push, cents_append, cents_none, cents_joined}

zero_is : (z : ℤ) → is_zero z ≡ true → z ≡ pos 0
zero_is (pos n) e = ap pos (eqb-true n 0 e)
zero_is (negsuc n) e = absurd (false≢true e)

-- a line that is left out where its cents are zero adds its cents all the same
left_out : (p : Line → Bool) (x : Line) (z : Bool) → (z ≡ true → x.cents ≡ pos 0)
    → cents_of p (cond z [] (x ∷ [])) ≡ cond (p x) x.cents (pos 0)
left_out p x true h = elim (p x) as (λ b. pos 0 ≡ cond b x.cents (pos 0)) [ true ↦ sym (h refl) | false ↦ refl ]
left_out p x false h = +ℤ_idr (cond (p x) x.cents (pos 0))

-- the tests of a step, as plain cases
none_end : (c h : Bool) (v : ℤ) → (h ≡ true → ⊥) → cond c (pos 0) (cond h v (pos 0)) ≡ pos 0
none_end true h v n = refl
none_end false true v n = absurd (n refl)
none_end false false v n = refl

none_step : (c h : Bool) (v : ℤ) → (h ≡ true → c ≡ false) → cond c (cond h v (pos 0)) (pos 0) +ℤ pos 0 ≡ pos 0
none_step true true v n = absurd (true≢false (n refl))
none_step true false v n = refl
none_step false h v n = refl

own_end : (c h k : Bool) (v w : ℤ) → (h ≡ true → (c ≡ k) × (v ≡ w))
    → cond c (pos 0) (cond h v (pos 0)) ≡ cond k (pos 0) (cond h w (pos 0))
own_end c true k v w n = ap₂ (λ (x : Bool) (y : ℤ). cond x (pos 0) y) (n refl).0 (n refl).1
own_end true false true v w n = refl
own_end true false false v w n = refl
own_end false false true v w n = refl
own_end false false false v w n = refl

own_step : (c h k m r : Bool) (v w : ℤ) → (h ≡ true → (c ≡ not k) × (v ≡ w))
    → cond c (cond h v (pos 0)) (pos 0) +ℤ cond (k || h) (pos 0) (cond (m || r) w (pos 0))
    ≡ cond k (pos 0) (cond ((h || m) || r) w (pos 0))
own_step c true true m r v w n = rw (n refl).0
own_step c true false m r v w n = rw (n refl).0 (rw (n refl).1 (+ℤ_idr w))
own_step true false true m r v w n = refl
own_step true false false m r v w n = +ℤ_idl (cond (m || r) w (pos 0))
own_step false false true m r v w n = refl
own_step false false false m r v w n = +ℤ_idl (cond (m || r) w (pos 0))

closing : (m r : Bool) (v : ℤ) → (m ≡ false → r ≡ false → v ≡ pos 0) → cond (m || r) v (pos 0) ≡ v
closing true r v n = refl
closing false true v n = refl
closing false false v n = sym (n refl refl)

less_then_plus : (a b : ℤ) → a +ℤ (b -ℤ a) ≡ b
less_then_plus a b = omega (arith, ints)

-- the account of a due's point and charge for a customer and a transmitter
abbrev account_for : DueFacts → PartyNumber → PartyNumber → Account
account_for d k t = record { point = d.account.point; charge = d.account.charge; customer = k; transmitter = t }

covered_is : (d : DueFacts) (a : Account) → covers d a ≡ true → account_for d a.customer a.transmitter ≡ a
covered_is d a e =
    let p = and_parts _ _ e in
    let ep = eqb-true d.account.point a.point p.0 in
    let ec = charge_same d.account.charge a.charge p.1 in
    λ i. record { point = ep i; charge = ec i; customer = a.customer; transmitter = a.transmitter }

covers_own : (d : DueFacts) (k t : PartyNumber) → covers d (account_for d k t) ≡ true
covers_own d k t = rw (eqb_refl d.account.point, eqb_refl (charge_number d.account.charge))

record_same : (d : DueFacts) (k t : PartyNumber) → same_account d.account (account_for d k t) ≡ is_on_record d (account_for d k t)
record_same d k t = rw (eqb_refl d.account.point, eqb_refl (charge_number d.account.charge))

eqb_flip : (m n : ℕ) → eqb m n ≡ eqb n m
eqb_flip m n = grind (arith, nat_tests)

covers_flip : (d e : DueFacts) (k t : PartyNumber) → covers d (account_for e k t) ≡ same_item d e
covers_flip d e k t = ap₂ ◌&&◌ (eqb_flip d.account.point e.account.point) (eqb_flip (charge_number d.account.charge) (charge_number e.account.charge))

module _ (s : Statement) (lines : List Line) (d : DueFacts) where
  entry_cents : (a b : Account)
      → cents_of (on_account a) (entry_for s lines d b) ≡ cond (same_account b a) (increment lines d b) (pos 0)
  entry_cents a b = left_out (on_account a) (entry_line s lines d b) (is_zero (increment lines d b)) (zero_is (increment lines d b))

  -- an account that is visited or not
  visit_cents : (a b : Account) (c : Bool)
      → cents_of (on_account a) (flat_map (entry_for s lines d) (cond c (b ∷ []) []))
      ≡ cond c (cond (same_account b a) (increment lines d b) (pos 0)) (pos 0)
  visit_cents a b true = ap (cents_of (on_account a)) (append-nil (entry_for s lines d b)) ∙ entry_cents a b
  visit_cents a b false = refl

  -- what the accounts of one due add to a, past the lines `before`
  added : Account → List Line → List Line → ℤ
  added a before rest = cents_of (on_account a) (flat_map (entry_for s lines d) (accounts_from d before rest))

  added_more : (a : Account) (before : List Line) (l : Line) (ls : List Line)
      → added a before (l ∷ ls)
      ≡ cond (opens d before (account_of l))
      (cond (on_account a l) (increment lines d (account_of l)) (pos 0)) (pos 0)
      +ℤ added a (before ++ l ∷ []) ls
  unfolding added
  added_more a before l ls =
      let c : Bool = opens d before (account_of l) in
      cents_joined (on_account a) (entry_for s lines d) (only_if c (account_of l)) (accounts_from d (before ++ l ∷ []) ls)
      ∙ ap (λ z. z +ℤ added a (before ++ l ∷ []) ls) (visit_cents a (account_of l) c)

  added_none : (a : Account) (before : List Line)
      → added a before []
      ≡ cond (any (on_account d.account) before) (pos 0) (cond (same_account d.account a) (increment lines d d.account) (pos 0))
  unfolding added
  added_none a before = go (any (on_account d.account) before)
    where
      go : (c : Bool) → cents_of (on_account a) (flat_map (entry_for s lines d) (only_if (not c) d.account))
          ≡ cond c (pos 0) (cond (same_account d.account a) (increment lines d d.account) (pos 0))
      go true = refl
      go false = visit_cents a d.account true

  -- an account of another point or charge gains nothing
  none_added : (a : Account) → covers d a ≡ false → (before rest : List Line) → added a before rest ≡ pos 0
  none_added a e before [] =
      added_none a before
      ∙ none_end (any (on_account d.account) before) (same_account d.account a) (increment lines d d.account)
      (λ h. true≢false (sym (covers_own d d.account.customer d.account.transmitter) ∙ (ap (covers d) (account_same d.account a h) ∙ e)))
  none_added a e before (l ∷ ls) =
      let c : Bool = opens d before (account_of l) in
      added_more a before l ls
      ∙ (ap (λ z. cond c (cond (on_account a l) (increment lines d (account_of l)) (pos 0)) (pos 0) +ℤ z) (none_added a e (before ++ l ∷ []) ls)
      ∙ none_step c (on_account a l) (increment lines d (account_of l))
      (λ h. and_left (covers d (account_of l)) _ (ap (covers d) (account_same (account_of l) a h) ∙ e)))

  -- an account of the due gains its increment at its first line, or at the end if it is on record
  own_added : (k t : PartyNumber) (before rest : List Line)
      → added (account_for d k t) before rest
      ≡ cond (any (on_account (account_for d k t)) before) (pos 0)
      (cond (any (on_account (account_for d k t)) rest || is_on_record d (account_for d k t)) (increment lines d (account_for d k t)) (pos 0))
  own_added k t before [] =
      let a : Account = account_for d k t in
      let seen : Bool = any (on_account a) before in
      added_none a before
      ∙ (own_end (any (on_account d.account) before) (same_account d.account a) seen (increment lines d d.account) (increment lines d a)
      (λ h. let e = account_same d.account a h in (ap (λ x. any (on_account x) before) e, ap (increment lines d) e))
      ∙ ap (λ b. cond seen (pos 0) (cond b (increment lines d a) (pos 0))) (record_same d k t))
  own_added k t before (l ∷ ls) =
      let a : Account = account_for d k t in
      let b : Account = account_of l in
      let seen : Bool = any (on_account a) before in
      let ahead : Bool = any (on_account a) ls in
      let c : Bool = opens d before b in
      added_more a before l ls
      ∙ (ap (λ z. cond c (cond (on_account a l) (increment lines d b) (pos 0)) (pos 0) +ℤ z)
      (own_added k t (before ++ l ∷ []) ls
      ∙ ap (λ x. cond x (pos 0) (cond (ahead || is_on_record d (account_for d k t)) (increment lines d a) (pos 0))) (any_push (on_account a) before l))
      ∙ own_step c (on_account a l) seen ahead (is_on_record d (account_for d k t)) (increment lines d b) (increment lines d a)
      (λ h. let e = account_same b a h in (
        ap (opens d before) e ∙ ap (λ x. x && not seen) (covers_own d k t),
        ap (increment lines d) e,
      )))

  due_none : (a : Account) → covers d a ≡ false → cents_of (on_account a) (due_lines s lines d) ≡ pos 0
  unfolding added
  due_none a e = none_added a e [] lines

  due_own : (k t : PartyNumber) → cents_of (on_account (account_for d k t)) (due_lines s lines d) ≡ increment lines d (account_for d k t)
  unfolding added
  due_own k t =
      let a : Account = account_for d k t in
      own_added k t [] lines
      ∙ closing (any (on_account a) lines) (is_on_record d (account_for d k t)) (increment lines d a)
      (λ m r. ap₂ ◌-ℤ◌ (ap (λ b. cond b d.cents (pos 0)) r) (cents_none (on_account a) lines m))

module _ (s : Statement) (lines : List Line) where
  none_moved : (a : Account) (dues : List DueFacts) → any (λ d. covers d a) dues ≡ false
      → cents_of (on_account a) (statement_lines s lines dues) ≡ pos 0
  none_moved a [] e = refl
  none_moved a (d ∷ ds) e =
      let h = or_parts (covers d a) (any (λ x. covers x a) ds) e in
      cents_append (on_account a) (due_lines s lines d) (statement_lines s lines ds)
      ∙ ap₂ ◌+ℤ◌ (due_none s lines d a h.0) (none_moved a ds h.1)

  -- lines that bring each account of a due to what it is due
  abbrev Brings : List Line → DueFacts → Type 0
  Brings new d = (k t : PartyNumber) → cents_of (on_account (account_for d k t)) new ≡ increment lines d (account_for d k t)

  brings_later : (d : DueFacts) (new : List Line) (ds : List DueFacts) → any (same_item d) ds ≡ false
      → AllByRecursion (Brings new) ds → AllByRecursion (Brings (due_lines s lines d ++ new)) ds
  brings_later d new [] e h = tt
  brings_later d new (x ∷ xs) e h =
      let f = or_parts (same_item d x) (any (same_item d) xs) e in (
        λ k t.
            cents_append (on_account (account_for x k t)) (due_lines s lines d) new
            ∙ (ap₂ ◌+ℤ◌ (due_none s lines d (account_for x k t) (covers_flip d x k t ∙ f.0)) (h.0 k t)
            ∙ +ℤ_idl (increment lines x (account_for x k t))),
        brings_later d new xs f.1 h.1,
      )

  brings : (dues : List DueFacts) → distinct dues ≡ true → AllByRecursion (Brings (statement_lines s lines dues)) dues
  brings [] e = tt
  brings (d ∷ ds) e =
      let f = and_parts (not (any (same_item d) ds)) (distinct ds) e in
      let n = not-true (any (same_item d) ds) f.0 in (
        λ k t.
            cents_append (on_account (account_for d k t)) (due_lines s lines d) (statement_lines s lines ds)
            ∙ (ap₂ ◌+ℤ◌ (due_own s lines d k t) (none_moved (account_for d k t) ds n)
            ∙ +ℤ_idr (increment lines d (account_for d k t))),
        brings_later d (statement_lines s lines ds) ds n (brings ds f.1),
      )

  brought : (dues : List DueFacts) (d : DueFacts) → Brings (statement_lines s lines dues) d
      → (k t : PartyNumber) → total_of (account_for d k t) (lines ++ statement_lines s lines dues) ≡ (terms_of d (account_for d k t)).cents
  brought dues d h k t =
      cents_append (on_account (account_for d k t)) lines (statement_lines s lines dues)
      ∙ (ap (λ z. total_of (account_for d k t) lines +ℤ z) (h k t)
      ∙ less_then_plus (total_of (account_for d k t) lines) (terms_of d (account_for d k t)).cents)

  pub settles : (dues : List DueFacts) → distinct dues ≡ true → AllByRecursion (Settled (lines ++ statement_lines s lines dues)) dues
  settles dues e =
      All-weaker (Brings (statement_lines s lines dues)) (Settled (lines ++ statement_lines s lines dues))
      (λ d h a c. subst (λ x. total_of x (lines ++ statement_lines s lines dues) ≡ (terms_of d x).cents) (covered_is d a c) (brought dues d h a.customer a.transmitter))
      dues (brings dues e)

  pub unmoved : (dues : List DueFacts) → Unmoved dues lines (lines ++ statement_lines s lines dues)
  unmoved dues a e =
      cents_append (on_account a) lines (statement_lines s lines dues)
      ∙ (ap (λ z. total_of a lines +ℤ z) (none_moved a dues e) ∙ +ℤ_idr (total_of a lines))
