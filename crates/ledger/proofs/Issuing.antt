-- What an accepted issue leaves: a sound ledger, in which the dues are settled and nothing else has moved.
use Rattle.std.proofs.Common.{◌≡◌, ℕ, ◌+◌, ◌≤◌, min, Bool, true, false, cond, not, ◌&&◌, leb, List, [], ◌∷◌, ◌++◌, length, is_ok, Ok, Err, Result, sym, refl, ap, ◌∙◌, subst, arith}
use Rattle.std.proofs.lemmas.Bool.{and_parts, and_from, leb-true, le-leb, cond-true, false≢true}
use Rattle.std.specs.List.{flat_map, AllByRecursion}
use Rattle.tariff.specs.declared.refusal.Refusal.{Refusal}
use Rattle.tariff.specs.declared.refusal.Refusal.TheVariants.{Unsound, LedgerFull, IncrementTooLarge}
use Rattle.tariff.specs.declared.statement.Statement.{Statement}
use Rattle.tariff.specs.Shelves.{Shelf, items}
use Rattle.ledger.specs.declared.due.Due.{Due}
use Rattle.ledger.specs.declared.line.Line.{Line}
use Rattle.ledger.specs.declared.line.Account.{Account}
use Rattle.ledger.specs.Lines.{account_of, any, every, small, sound_account, sound_line}
use Rattle.ledger.specs.Dues.{DueFacts, facts_of, all_facts, sound_due}
use Rattle.ledger.specs.Sums.{on_account}
use Rattle.ledger.specs.Issues.{opens, only_if, is_on_record, accounts_from, increment, is_zero, entry_line, entry_for, due_lines, statement_lines, distinct, Settled, Unmoved}
use Rattle.ledger.specs.Passes.{small_line}
use Rattle.ledger.specs.Ledgers.{sound_ledger, new_lines, issue_answer, with_lines, issued}
use Rattle.std.proofs.lemmas.List.Folds.{list_all-append}
use Rattle.ledger.proofs.Settling.{settles, unmoved}
use Rattle.ledger.proofs.Writing.{written_taken, written_length}

-- ---- the new lines are sound
line_account : (l : Line) → sound_line l ≡ true → sound_account (account_of l) ≡ true
line_account l e = (and_parts _ _ (and_parts _ _ e).0).0

due_account : (d : DueFacts) → sound_due d ≡ true → sound_account d.account ≡ true
due_account d e = (and_parts _ _ (and_parts _ _ e).0).0

only_sound : (b : Bool) (a : Account) → sound_account a ≡ true → every sound_account (only_if b a) ≡ true
only_sound true a e = and_from (sound_account a) true e refl
only_sound false a e = refl

every_both : {X : Type 0} (p : X → Bool) (xs ys : List X) → every p xs ≡ true → every p ys ≡ true → every p (xs ++ ys) ≡ true
every_both p xs ys e f = list_all-append p xs ys ∙ and_from (every p xs) (every p ys) e f

accounts_sound : (d : DueFacts) → sound_due d ≡ true → (before rest : List Line) → every sound_line rest ≡ true
    → every sound_account (accounts_from d before rest) ≡ true
accounts_sound d e before [] f = only_sound (not (any (on_account d.account) before)) d.account (due_account d e)
accounts_sound d e before (l ∷ ls) f =
    let h = and_parts (sound_line l) (every sound_line ls) f in
    every_both sound_account (only_if (opens d before (account_of l)) (account_of l)) (accounts_from d (before ++ l ∷ []) ls)
    (only_sound (opens d before (account_of l)) (account_of l) (line_account l h.0))
    (accounts_sound d e (before ++ l ∷ []) ls h.1)

at_most : (r : Bool) (n m : ℕ) → leb n m ≡ true → leb (cond r n 0) m ≡ true
at_most true n m e = e
at_most false n m e = le-leb 0 m (omega arith)

module _ (s : Statement) (lines : List Line) (d : DueFacts) (e : sound_due d ≡ true) where
  entry_line_sound : (a : Account) → sound_account a ≡ true → small (increment lines d a) ≡ true → sound_line (entry_line s lines d a) ≡ true
  entry_line_sound a f k =
      let r : Bool = is_on_record d a in
      let h = and_parts _ _ (and_parts _ _ e).1 in
      let i = and_parts _ _ h.0 in
      and_from _ _ (and_from _ _ f k)
      (and_from _ _ (and_from _ _ (at_most r d.quantity 9999999900 i.0) (at_most r d.day 31 i.1)) (at_most r d.hour 24 h.1))

  entry_sound : (a : Account) → sound_account a ≡ true → every small_line (entry_for s lines d a) ≡ true → every sound_line (entry_for s lines d a) ≡ true
  entry_sound a f g = go (is_zero (increment lines d a)) g
    where
      go : (b : Bool) → every small_line (cond b [] (entry_line s lines d a ∷ [])) ≡ true → every sound_line (cond b [] (entry_line s lines d a ∷ [])) ≡ true
      go true h = refl
      go false h =
          and_from (sound_line (entry_line s lines d a)) true
          (entry_line_sound a f (and_parts (small (increment lines d a)) true h).0) refl

  entries_sound : (rest : List Account) → every sound_account rest ≡ true → every small_line (flat_map (entry_for s lines d) rest) ≡ true
      → every sound_line (flat_map (entry_for s lines d) rest) ≡ true
  entries_sound [] f g = refl
  entries_sound (a ∷ rest) f g =
      let h = and_parts (sound_account a) (every sound_account rest) f in
      let k = and_parts _ _ (sym (list_all-append small_line (entry_for s lines d a) (flat_map (entry_for s lines d) rest)) ∙ g) in
      every_both sound_line (entry_for s lines d a) (flat_map (entry_for s lines d) rest) (entry_sound a h.0 k.0) (entries_sound rest h.1 k.1)

new_sound : (s : Statement) (lines : List Line) → every sound_line lines ≡ true → (dues : List DueFacts) → every sound_due dues ≡ true
    → every small_line (statement_lines s lines dues) ≡ true → every sound_line (statement_lines s lines dues) ≡ true
new_sound s lines e [] f g = refl
new_sound s lines e (d ∷ ds) f g =
    let h = and_parts (sound_due d) (every sound_due ds) f in
    let k = and_parts _ _ (sym (list_all-append small_line (due_lines s lines d) (statement_lines s lines ds)) ∙ g) in
    every_both sound_line (due_lines s lines d) (statement_lines s lines ds)
    (entries_sound s lines d h.0 (accounts_from d [] lines) (accounts_sound d h.0 [] lines e) k.0)
    (new_sound s lines e ds h.1 k.1)

-- ---- what an accepted issue tells
record Accepted (g : Shelf Line) (new : List Line) (r : Result ℕ Refusal) : Type 0 where
  pub sound : sound_ledger g ≡ true
  pub smalls : every small_line new ≡ true
  pub room : g.used + length new ≤ length g.memory
  pub short : g.used + length new ≤ 100000
  pub answer : r ≡ Ok (length new)

-- an issue that is accepted, on any sound dues
module _ (g : Shelf Line) (s : Statement) (dues : List DueFacts) (ok : is_ok (issue_answer g s dues) ≡ true) where
  abbrev new : List Line
  new = new_lines g s dues

  accepted : Accepted g new (issue_answer g s dues)
  accepted =
      go (sound_ledger g) refl (every small_line new) refl (leb (g.used + length new) (min (length g.memory) 100000)) refl ok
    where
      go : (a : Bool) → sound_ledger g ≡ a → (b : Bool) → every small_line new ≡ b
          → (c : Bool) → leb (g.used + length new) (min (length g.memory) 100000) ≡ c
          → is_ok (cond a (cond b (cond c (Ok (length new)) (Err LedgerFull)) (Err IncrementTooLarge)) (Err Unsound)) ≡ true
          → Accepted g new (issue_answer g s dues)
      go true ea true eb true ec e =
          let le = leb-true (g.used + length new) (min (length g.memory) 100000) ec in
          record { sound = ea; smalls = eb; room = omega arith; short = omega arith; answer = rw (ea, eb, ec) }
      go true ea true eb false ec e = absurd (false≢true e)
      go true ea false eb c ec e = absurd (false≢true e)
      go false ea b eb c ec e = absurd (false≢true e)

  pub issued_is : issued g s dues ≡ with_lines g (new_lines g s dues)
  issued_is = cond-true (is_ok (issue_answer g s dues)) (with_lines g (new_lines g s dues)) g ok

  pub issued_items : items (issued g s dues) ≡ items g ++ new_lines g s dues
  issued_items = ap items issued_is ∙ written_taken g.memory g.used (new_lines g s dues) accepted.room

  pub issued_sound : every sound_due dues ≡ true → sound_ledger (issued g s dues) ≡ true
  issued_sound e =
      let long = written_length g.memory g.used (new_lines g s dues) accepted.room in
      let old = and_parts (leb g.used (length g.memory) && leb g.used 100000) (every sound_line (items g)) accepted.sound in
      let after = with_lines g (new_lines g s dues) in
      ap sound_ledger issued_is
      ∙ and_from _ _
      (and_from _ _ (le-leb after.used (length after.memory) (omega (arith, accepted.room))) (le-leb after.used 100000 accepted.short))
      (ap (every sound_line) (sym (ap items issued_is) ∙ issued_items)
      ∙ every_both sound_line (items g) (new_lines g s dues) old.1 (new_sound s (items g) old.1 dues e accepted.smalls))

  pub issued_settled : distinct dues ≡ true → AllByRecursion (Settled (items (issued g s dues))) dues
  issued_settled e = subst (λ l. AllByRecursion (Settled l) dues) (sym issued_items) (settles s (items g) dues e)

  pub issued_unmoved : Unmoved dues (items g) (items (issued g s dues))
  issued_unmoved = subst (Unmoved dues (items g)) (sym issued_items) (unmoved s (items g) dues)

pub ok_is : (r : Result ℕ Refusal) (n : ℕ) → Ok n ≡ r → is_ok r ≡ true
ok_is r n e = ap is_ok (sym e)

-- dues are sound by their type
pub dues_sound : (dues : List Due) → every sound_due (all_facts dues) ≡ true
dues_sound [] = refl
dues_sound (d ∷ ds) = and_from (sound_due (facts_of d)) (every sound_due (all_facts ds)) d.sound (dues_sound ds)
