-- What an issue answers and leaves, by how far it came.
use Rattle.std.proofs.Common.{◌≡◌, ℕ, Bool, true, false, cond, List, is_ok, Some, None, Ok, Err, Option, Result, sym, ap, ◌∙◌, arith}
use Rattle.std.proofs.lemmas.Bool.{cond-true}
use Rattle.tariff.specs.declared.refusal.Refusal.{Refusal}
use Rattle.tariff.specs.declared.refusal.Refusal.TheVariants.{StoreDoesNotFit, OutOfTurn, Unsound}
use Rattle.tariff.specs.declared.statement.Statement.{Statement}
use Rattle.tariff.specs.Shelves.{Shelf}
use Rattle.tariff.specs.Statements.{in_turn}
use Rattle.ledger.specs.declared.line.Line.{Line}
use Rattle.ledger.specs.Dues.{DueFacts}
use Rattle.ledger.specs.Ledgers.{sound_ledger, if_sound, issued, issue_answer as ledger_answer}
use Rattle.dues.specs.Records.{sound_records}
use Rattle.dues.specs.Facts.{refusal_of}
use Rattle.dues.specs.Dues.{dues_of, dues_answer, unless}
use Rattle.month.specs.declared.calls.Call.TheVariants.{Issue}
use Rattle.month.specs.States.{State, facts_at}
use Rattle.month.specs.Answers.{store_fits, dues_to_issue, issue_of, issue_answer, answer, taken, next}
use Rattle.month.proofs.Entering.{sound_is}

err_ok : {X E Y : Type 0} {e : E} {x : X} → Ok x ≡ Err e → Y
err_ok p = let z : ◌≡◌ {A = ℕ} 0 1 = cc in absurd (omega arith)

some_passed : {X : Type 0} (b : Bool) (r : Result X Refusal) (e : Refusal) (x : X) → Ok x ≡ cond b r (Err e) → Ok x ≡ r
some_passed true r e x is = is
some_passed false r e x is = err_ok is

unless_is : {X : Type 0} (o : Option Refusal) (x y : X) → Ok y ≡ unless o x → y ≡ x
unless_is None x y is = cc
unless_is (Some e) x y is = err_ok is

unsound : {X : Type 0} (b : Bool) (r : Result X Refusal) (e : Refusal) → Err e ≡ cond {A = Result (Unit {0}) Refusal} b (Ok tt) (Err Unsound) → Err e ≡ cond b r (Err Unsound)
unsound true r e is = err_ok (sym is)
unsound false r e is = cc

-- a statement in turn, of a store that fits
module _ (s : State) (st : Statement) (turn : in_turn s.last st ≡ true) (fits : store_fits s ≡ true) where
  abbrev worked_out : Result (List DueFacts) Refusal
  worked_out = dues_answer (sound_records s.records) (facts_at s)

  by_ledger : cond (sound_ledger s.ledger) worked_out (Err Unsound) ≡ dues_to_issue s st
  by_ledger =
      let ledger = cond (sound_ledger s.ledger) worked_out (Err Unsound) in
      sym (cond-true (store_fits s) ledger (Err StoreDoesNotFit) fits)
      ∙ sym (cond-true (in_turn s.last st) (cond (store_fits s) ledger (Err StoreDoesNotFit)) (Err OutOfTurn) turn)

  pub ledger_refused : (e : Refusal) → Err e ≡ if_sound {X = Unit {0}} s.ledger tt → Err e ≡ dues_to_issue s st
  ledger_refused e is = unsound (sound_ledger s.ledger) worked_out e is ∙ by_ledger

  pub dues_reached : (u : Unit {0}) (r : Result (List DueFacts) Refusal) → Ok u ≡ if_sound s.ledger tt → r ≡ worked_out → r ≡ dues_to_issue s st
  dues_reached u r sound is =
      is ∙ sym (cond-true (sound_ledger s.ledger) worked_out (Err Unsound) (sound_is (sound_ledger s.ledger) u sound)) ∙ by_ledger

-- what is due is known, and the ledger takes it
module _ (s : State) (st : Statement) (ds : List DueFacts) (by : Ok ds ≡ dues_to_issue s st) where
  dues_are : ds ≡ dues_of (facts_at s)
  dues_are =
      let complete = unless (refusal_of (facts_at s)) (dues_of (facts_at s)) in
      let recorded = cond (sound_records s.records) complete (Err Unsound) in
      let ledger = cond (sound_ledger s.ledger) recorded (Err Unsound) in
      let turn = some_passed (in_turn s.last st) (cond (store_fits s) ledger (Err StoreDoesNotFit)) OutOfTurn ds by in
      let fits = some_passed (store_fits s) ledger StoreDoesNotFit ds turn in
      let ready = some_passed (sound_ledger s.ledger) recorded Unsound ds fits in
      let sound = some_passed (sound_records s.records) complete Unsound ds ready in
      unless_is (refusal_of (facts_at s)) (dues_of (facts_at s)) ds sound

  answer_is : ledger_answer s.ledger st ds ≡ issue_answer s st
  answer_is = ap (issue_of s.ledger st) by

  pub issue_accepted : (n : ℕ) (g : Shelf Line) → Ok n ≡ ledger_answer s.ledger st ds → g ≡ issued s.ledger st ds
      → (Ok n ≡ answer s (Issue st))
      × (record { setup = s.setup; store = s.store; records = s.records; ledger = g; last = Some st } ≡ next s (Issue st))
  issue_accepted n g says leaves =
      let is : Ok n ≡ issue_answer s st = says ∙ answer_is in (
        is,
        ap (λ x. record { setup = s.setup; store = s.store; records = s.records; ledger = x; last = Some st }) (leaves ∙ ap (issued s.ledger st) dues_are)
            ∙ sym (cond-true (is_ok (answer s (Issue st))) (taken s (Issue st)) s (ap is_ok (sym is))),
      )
