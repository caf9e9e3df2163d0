-- The laws of a month, by induction over its runs.
use Rattle.std.proofs.Common.{◌≡◌, ℕ, ◌≤◌, true, cond, ◌&&◌, leb, List, [], ◌∷◌, ◌++◌, length, take, pos, Some, None, Ok, Err, Option, Result, sym, refl, ap, ◌∙◌, subst, ap₂, arith}
use mathlib.Core.Path.{fun_ext}
use Rattle.std.proofs.lemmas.Bool.{and_from, and_parts, le-leb, false≢true}
use Rattle.std.proofs.lemmas.List.{append-nil}
use Rattle.tariff.specs.declared.charge.Charge.{Charge}
use Rattle.tariff.specs.declared.charge.Charge.TheVariants as charge
use Rattle.tariff.specs.declared.parties.Rates.{Rates as RateRecord}
use Rattle.tariff.specs.Parties.{rate_of}
use Rattle.tariff.specs.Points.{kind_at}
use Rattle.tariff.specs.Shelves.{Shelf, items}
use Rattle.readings.specs.Demands.{demand_if, demand_at}
use Rattle.readings.specs.Meaning.{hour_of}
use Rattle.records.specs.declared.dated.Dated.{Dated}
use Rattle.records.specs.Books.{sorted, lookup}
use Rattle.records.specs.Histories.{book}
use Rattle.records.specs.Soundness.{in_order}
use Rattle.demand.specs.Charges.{charge_of, network_of}
use Rattle.demand.specs.Peaks.{Triple}
use Rattle.demand.proofs.Peaking.{peak_alike}
use Rattle.ledger.specs.declared.line.Account.{Account}
use Rattle.ledger.specs.declared.line.Line.{Line}
use Rattle.ledger.specs.Ledgers.{sound_ledger}
use Rattle.ledger.specs.Lines.{every, sound_line}
use Rattle.ledger.specs.Sums.{total_of}
use Rattle.ledger.proofs.Balance.{balanced}
use Rattle.dues.specs.Facts.{last_day}
use Rattle.dues.specs.Dues.{has_charge, peak_of, determinant_of, due_of}
use Rattle.month.specs.declared.calls.Call.{Call}
use Rattle.month.specs.declared.calls.Call.TheVariants.{Post, Customer, Transmitter, Service, Rates, Issue}
use Rattle.tariff.specs.declared.refusal.Refusal.{Refusal}
use Rattle.month.specs.declared.calls.JournalEntry.{JournalEntry}
use Rattle.month.specs.States.{Setup, State}
use Rattle.month.specs.Answers.{is_accepted, next}
use Rattle.month.specs.Journals.{after, answered}
use Rattle.month.specs.Books.{Book, empty, noted, book_from, facts_from, on_record, charge_due, due}
use Rattle.month.specs.Laws.{Bare, is_issue, accepted_issue, ends_in_issue, lines_after, met_from, last_met, SameBook, SameMet, Alike, MonthLaws}
use Rattle.month.proofs.Keeping.{owed, Kept, filled, keeps}

-- ---- a bare month

none_used : {X : Type 0} (h : Shelf X) → h.used ≡ 0 → items h ≡ []
none_used h e = ap (λ n. take n h.memory) e

bare_order : {T : Type 0} (h : Shelf (Dated T)) → h.used ≡ 0 → in_order h ≡ true
bare_order h e = and_from (leb h.used (length h.memory)) (sorted (items h)) (le-leb _ _ (omega arith)) (ap sorted (none_used h e))

bare_book : {T : Type 0} (h : Shelf (Dated T)) → h.used ≡ 0 → book h ≡ (λ k d. None)
bare_book h e = ap lookup (none_used h e)

bare_ledger : (g : Shelf Line) → g.used ≡ 0 → sound_ledger g ≡ true
bare_ledger g e =
    and_from (leb g.used (length g.memory) && leb g.used 100000) (every sound_line (items g))
    (and_from _ _ (le-leb g.used (length g.memory) (omega arith)) (le-leb g.used 100000 (omega arith)))
    (ap (every sound_line) (none_used g e))

bare_kept : (s : State) → Bare s → Kept s.setup s empty None
bare_kept s h =
    let sheets : s.store.sheets ≡ (λ p d. None) = fun_ext (λ p. fun_ext (λ d. h.sheets p d)) in
    let customers = bare_book s.records.customers h.customers in
    let transmitters = bare_book s.records.transmitters h.transmitters in
    let service = bare_book s.records.service h.service in
    let rates = bare_book s.records.rates h.rates in
    record {
      setup = refl;
      book = λ i. record { sheets = sheets i; customers = customers i; transmitters = transmitters i; service = service i; rates = rates i };
      order = record {
        customers = bare_order s.records.customers h.customers;
        transmitters = bare_order s.records.transmitters h.transmitters;
        service = bare_order s.records.service h.service;
        rates = bare_order s.records.rates h.rates;
      };
      limited = λ p d k. subst (λ o. demand_if (hour_of o k) ≤ 99999999) (sym (h.sheets p d)) (omega arith);
      sound = λ few month. bare_ledger s.ledger h.ledger;
      owes = λ a. ap (total_of a) (none_used s.ledger h.ledger);
    }

-- ---- a whole run

run_kept : (u : Setup) (j : List JournalEntry) (s : State) (b : Book) (met : Option Book) → Kept u s b met → Kept u (after s j) (book_from b (answered s j)) (met_from b met (answered s j))
run_kept u [] s b met h = h
run_kept u (e ∷ es) s b met h =
    let x = filled s e.call in
    run_kept u es (next s e.call) (noted b x) (cond (accepted_issue x) (Some b) met) (keeps u s b met h e.call)

-- a part from the start of an answered journal is itself answered
head_is : {X : Type 0} {x y : X} {xs ys : List X} → x ∷ xs ≡ y ∷ ys → x ≡ y
head_is e = cc

tail_is : {X : Type 0} {x y : X} {xs ys : List X} → x ∷ xs ≡ y ∷ ys → xs ≡ ys
tail_is e = cc

nil_cons : {X : Type 0} {x : X} {xs : List X} → [] ≡ x ∷ xs → ⊥
nil_cons p = let z : ◌≡◌ {A = ℕ} 0 1 = cc in omega arith

part_answered : (done rest j : List JournalEntry) (s : State) → answered s j ≡ done ++ rest → answered s done ≡ done
part_answered [] rest j s e = refl
part_answered (d ∷ done) rest [] s e = absurd (nil_cons e)
part_answered (d ∷ done) rest (x ∷ j) s e =
    let first : filled s x.call ≡ d = head_is e in
    let call : x.call ≡ d.call = ap (λ y. y.call) first in
    let others : answered (next s d.call) j ≡ done ++ rest = ap (λ c. answered (next s c) j) (sym call) ∙ tail_is e in
    ap₂ (λ y ys. y ∷ ys) (ap (filled s) (sym call) ∙ first) (part_answered done rest j (next s d.call) others)

-- a journal that ends in an accepted issue: the issue met the book of the journal
issue_notes_nothing : (b : Book) (c : Call) (o : Option (Result ℕ Refusal)) → (is_issue c && is_accepted o) ≡ true → noted b (record { call = c; outcome = o }) ≡ b
issue_notes_nothing b (Post x) o e = absurd (false≢true e)
issue_notes_nothing b (Customer p d k) o e = absurd (false≢true e)
issue_notes_nothing b (Transmitter p d k) o e = absurd (false≢true e)
issue_notes_nothing b (Service p d x) o e = absurd (false≢true e)
issue_notes_nothing b (Rates d x) o e = absurd (false≢true e)
issue_notes_nothing b (Issue st) None e = refl
issue_notes_nothing b (Issue st) (Some (Ok n)) e = refl
issue_notes_nothing b (Issue st) (Some (Err r)) e = refl

met_at_end : (j : List JournalEntry) (b : Book) (met : Option Book) → ends_in_issue j ≡ true → met_from b met j ≡ Some (book_from b j)
met_at_end [] b met e = absurd (false≢true e)
met_at_end (x ∷ []) b met e = ap (λ t. cond t (Some b) met) e ∙ ap Some (sym (issue_notes_nothing b x.call x.outcome e))
met_at_end (x ∷ (y ∷ ys)) b met e = met_at_end (y ∷ ys) (noted b x) (cond (accepted_issue x) (Some b) met) e

-- ---- equal in all that they answer

same_book : (b b' : Book) → SameBook b b' → b ≡ b'
same_book b b' h =
    let sheets : b.sheets ≡ b'.sheets = fun_ext (λ p. fun_ext (λ d. h.sheets p d)) in
    let customers : b.customers ≡ b'.customers = fun_ext (λ p. fun_ext (λ d. h.customers p d)) in
    let transmitters : b.transmitters ≡ b'.transmitters = fun_ext (λ p. fun_ext (λ d. h.transmitters p d)) in
    let service : b.service ≡ b'.service = fun_ext (λ p. fun_ext (λ d. h.service p d)) in
    let rates : b.rates ≡ b'.rates = fun_ext (λ p. fun_ext (λ d. h.rates p d)) in
    λ i. record { sheets = sheets i; customers = customers i; transmitters = transmitters i; service = service i; rates = rates i }

same_met : (m m' : Option Book) → SameMet m m' → m ≡ m'
same_met None None h = refl
same_met None (Some b') h = absurd h
same_met (Some b) None h = absurd h
same_met (Some b) (Some b') h = ap Some (same_book b b' h)

-- rules that answer alike inside the month come to the same dues
module _ (u u' : Setup) (alike : Alike u u') where
  abbrev with_rule : Setup
  with_rule = record { kinds = u.kinds; days = u.days; first = u.first; admits = u'.admits }

  with_rule_is : with_rule ≡ u'
  with_rule_is =
      let kinds = alike.kinds in
      let days = alike.days in
      let first = alike.first in
      λ i. record { kinds = kinds i; days = days i; first = first i; admits = u'.admits }

  module _ (b : Book) where
    determinant_alike : (system : Triple) (p : ℕ) (c : Charge) → determinant_of (facts_from u b) system p c ≡ determinant_of (facts_from with_rule b) system p c
    unfolding determinant_of
    determinant_alike system p charge.Network =
        let q = demand_at b.sheets p in
        ap (network_of system (demand_at b.sheets p system.1 system.2))
        (peak_alike u.admits u'.admits q q u.days (λ d h i. (alike.admits d h i, refl)))
    determinant_alike system p charge.Line = refl
    determinant_alike system p charge.Transformation = refl

    charge_alike : (o : Option RateRecord) (a : Account) → charge_due (facts_from u b) o a ≡ charge_due (facts_from with_rule b) o a
    unfolding due_of
    charge_alike None a = refl
    charge_alike (Some rates) a =
        ap (λ (x : Triple). pos (charge_of x.0 (rate_of rates a.charge))) (determinant_alike (peak_of (facts_from u b)) a.point a.charge)

    due_alike : (a : Account) → due u b a ≡ due u' b a
    due_alike a =
        let f = facts_from u b in
        ap (λ z. cond (has_charge (kind_at u.kinds a.point) a.charge && on_record f a) z (pos 0)) (charge_alike (f.rates_on (last_day f)) a)
        ∙ ap (λ v. due v b a) with_rule_is

  owed_alike : (m : Option Book) (a : Account) → owed u m a ≡ owed u' m a
  owed_alike None a = refl
  owed_alike (Some b) a = due_alike b a

-- ---- the laws

-- after any calls the totals are those that the last accepted issue left
totals_after : (s : State) → Bare s → (j : List JournalEntry) (a : Account) → total_of a (lines_after s j) ≡ owed s.setup (last_met (answered s j)) a
totals_after s bare j a = (run_kept s.setup j s empty None (bare_kept s bare)).owes a

pub laws_hold : (s : State) → length s.setup.kinds ≤ 400 → s.setup.days ≤ 31 → Bare s → (j : List JournalEntry) → MonthLaws s (answered s j)
laws_hold s few month bare j = record {
  settles = λ done rest e ends a.
      totals_after s bare done a
      ∙ ap (λ x. owed s.setup (last_met x) a) (part_answered done rest j s e)
      ∙ ap (λ m. owed s.setup m a) (met_at_end done empty None ends);
  balances = λ done rest e.
      let kept = run_kept s.setup done s empty None (bare_kept s bare) in
      let same = kept.setup in
      let sound = kept.sound (subst (λ v. length v.kinds ≤ 400) (sym same) few) (subst (λ v. v.days ≤ 31) (sym same) month) in
      balanced (lines_after s done) (and_parts _ (every sound_line (lines_after s done)) sound).1;
  agrees = λ other theirs bare' alike met a.
      totals_after s bare (answered s j) a
      ∙ ap (λ x. owed s.setup (last_met x) a) (part_answered (answered s j) [] j s (sym (append-nil (answered s j))))
      ∙ ap (λ m. owed s.setup m a) (same_met (last_met (answered s j)) (last_met (answered other theirs)) met)
      ∙ owed_alike s.setup other.setup alike (last_met (answered other theirs)) a
      ∙ sym (totals_after other bare' theirs a);
}
