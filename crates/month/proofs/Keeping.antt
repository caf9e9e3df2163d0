-- What every call of a month keeps.
use Rattle.std.proofs.Common.{◌≡◌, ℕ, zero, suc, ◌+◌, ◌-◌, ◌≤◌, Bool, true, false, cond, ◌&&◌, eqb, leb, List, [], ◌∷◌, length, get_or, ℤ, pos, is_ok, Some, None, Option, sym, refl, ap, ◌∙◌, subst, ap₂, arith}
use mathlib.Core.Path.{fun_ext}
use Rattle.std.proofs.lemmas.Bool.{and_parts, cond_both, cond-true, leb-true, and_right}
use Rattle.tariff.specs.declared.reading.Reading.{Reading}
use Rattle.tariff.specs.declared.reading.Reading.TheVariants.{Withdrawal}
use Rattle.tariff.specs.declared.reading.Sheet.{Sheet}
use Rattle.tariff.specs.declared.statement.Statement.{Statement}
use Rattle.tariff.specs.Parties.{party_in_range, rates_in_range}
use Rattle.tariff.specs.Points.{kind_at}
use Rattle.tariff.specs.Ranges.{within}
use Rattle.tariff.specs.Readings.{quantity_of, demand_of, too_large}
use Rattle.tariff.specs.Shelves.{Shelf, items}
use Rattle.readings.specs.Demands.{demand_if, demand_at}
use Rattle.readings.proofs.Bounds.{demand_le}
use Rattle.readings.specs.Meaning.{Sheets, hour_of}
use Rattle.readings.specs.Options.{from_none}
use Rattle.records.specs.declared.dated.Dated.{Dated}
use Rattle.records.specs.Books.{sorted, latest, book_with, book_latest}
use Rattle.records.specs.Histories.{book}
use Rattle.records.specs.Entering.{dated, entered_shelf, entry_answer}
use Rattle.records.specs.Soundness.{in_order}
use Rattle.records.proofs.Keeping.{booked, record_passes}
use Rattle.records.proofs.Laws.{latest_book}
use Rattle.hours.specs.Services.{serves}
use Rattle.ledger.specs.declared.line.Account.{Account}
use Rattle.ledger.specs.Ledgers.{sound_ledger}
use Rattle.ledger.specs.Sums.{total_of}
use Rattle.ledger.proofs.Issuing.{issued_sound, issued_settled, issued_unmoved}
use Rattle.dues.specs.Records.{sound_records}
use Rattle.dues.specs.Dues.{has_charge, dues_of}
use Rattle.dues.proofs.Apart.{dues_distinct}
use Rattle.dues.proofs.Soundness.{Limited, all_sound}
use Rattle.month.specs.declared.calls.Call.{Call}
use Rattle.month.specs.declared.calls.Call.TheVariants.{Post, Customer, Transmitter, Service, Rates, Issue}
use Rattle.month.specs.declared.calls.JournalEntry.{JournalEntry}
use Rattle.month.specs.States.{Setup, State, facts_at}
use Rattle.month.specs.Answers.{post_answer, party_answer, service_answer, rates_answer, answer, taken, next}
use Rattle.month.specs.Books.{Book, written, noted, facts_from, due_by, due}
use Rattle.month.specs.Laws.{is_issue, accepted_issue}
use Rattle.month.proofs.Accepting.{plain_accepted, post_limited, party_entered, service_entered, rates_entered, Issuable, issuable}
use Rattle.month.proofs.Owing.{now_due, nothing_due}

-- the book that a state holds
abbrev pub book_in : State → Book
book_in s = record {
  sheets = s.store.sheets;
  customers = book s.records.customers;
  transmitters = book s.records.transmitters;
  service = book s.records.service;
  rates = book s.records.rates;
}

pub record InOrder (s : State) : Type 0 where
  pub customers : in_order s.records.customers ≡ true
  pub transmitters : in_order s.records.transmitters ≡ true
  pub service : in_order s.records.service ≡ true
  pub rates : in_order s.records.rates ≡ true

abbrev pub DemandsLimited : Sheets → Type 0
DemandsLimited sheets = (p d h : ℕ) → demand_at sheets p d h ≤ 99999999

-- what is owed by the book that the last accepted issue met
abbrev pub owed : Setup → Option Book → Account → ℤ
owed u None a = pos 0
owed u (Some b) a = due u b a

pub record Kept (u : Setup) (s : State) (b : Book) (met : Option Book) : Type 0 where
  pub setup : s.setup ≡ u
  pub book : book_in s ≡ b
  pub order : InOrder s
  pub limited : DemandsLimited s.store.sheets
  pub sound : length s.setup.kinds ≤ 400 → s.setup.days ≤ 31 → sound_ledger s.ledger ≡ true
  pub owes : (a : Account) → total_of a (items s.ledger) ≡ owed u met a

-- ---- what the histories have on record is what the book has

history_book : {T : Type 0} (h : Shelf (Dated T)) → in_order h ≡ true → latest (items h) ≡ book_latest (book h)
history_book h e =
    fun_ext (λ k. fun_ext (λ d. latest_book (items h) k d (and_parts (leb h.used (length h.memory)) (sorted (items h)) e).1))

pub facts_book : (s : State) → InOrder s → facts_at s ≡ facts_from s.setup (book_in s)
facts_book s o =
    let customers = history_book s.records.customers o.customers in
    let transmitters = history_book s.records.transmitters o.transmitters in
    let service = history_book s.records.service o.service in
    let rates = history_book s.records.rates o.rates in
    λ i. record {
      kinds = s.setup.kinds;
      days = s.setup.days;
      first = s.setup.first;
      sheets = s.store.sheets;
      admits = s.setup.admits;
      customer_on = customers i;
      transmitter_on = transmitters i;
      served_on = λ p n. serves (service i p n);
      rates_on = rates i 0;
    }

-- ---- a sheet

within_limit : (k : ℕ) (rs : List Reading) → too_large k rs ≡ None → (i : ℕ) → demand_of (get_or rs i (Withdrawal 0)) ≤ 99999999
within_limit k [] none i = omega arith
within_limit k (r ∷ rs) none zero =
    let first = from_none (leb (quantity_of r) 99999999) (too_large (k + 1) rs) k none in
    omega (arith, demand_le r, leb-true (quantity_of r) 99999999 first.0)
within_limit k (r ∷ rs) none (suc i) =
    within_limit (k + 1) rs (from_none (leb (quantity_of r) 99999999) (too_large (k + 1) rs) k none).1 i

hours_limited : (rs : List Reading) → too_large 1 rs ≡ None → (h : ℕ) → demand_if (hour_of (Some rs) h) ≤ 99999999
hours_limited rs none h =
    cond_both (within 24 h) (Some (get_or rs (h - 1) (Withdrawal 0))) None (λ o. demand_if o ≤ 99999999) (λ _. within_limit 1 rs none (h - 1)) (λ _. omega arith)

posted_limited : (sheets : Sheets) (x : Sheet) → DemandsLimited sheets → too_large 1 x.readings ≡ None → DemandsLimited (λ p d. cond (eqb p x.point && eqb d x.day) (Some x.readings) (sheets p d))
posted_limited sheets x limited none p d h =
    cond_both (eqb p x.point && eqb d x.day) (Some x.readings) (sheets p d) (λ o. demand_if (hour_of o h) ≤ 99999999) (λ _. hours_limited x.readings none h) (λ _. limited p d h)

-- ---- an entry

entered_book : {T : Type 0} (h : Shelf (Dated T)) (e : Dated T) → is_ok (entry_answer h e) ≡ true → book (entered_shelf h e) ≡ book_with (book h) e
entered_book h e ok = (booked h (entered_shelf h e) e (entry_answer h e) refl refl).page ∙ cond-true (is_ok (entry_answer h e)) (book_with (book h) e) (book h) ok

entered_order : {T : Type 0} (h : Shelf (Dated T)) (e : Dated T) → in_order h ≡ true → in_order (entered_shelf h e) ≡ true
entered_order h e o = (booked h (entered_shelf h e) e (entry_answer h e) refl refl).order o

-- ---- one accepted call

accepted_post : (s : State) (x : Sheet) → is_ok (answer s (Post x)) ≡ true → too_large 1 x.readings ≡ None
accepted_post s x e = post_limited s x (sym (plain_accepted (post_answer s x)) ∙ e)

accepted_issue_is : (s : State) (st : Statement) → is_ok (answer s (Issue st)) ≡ true → Issuable s st
accepted_issue_is s st e = issuable s st e

taken_setup : (s : State) (c : Call) → (taken s c).setup ≡ s.setup
taken_setup s (Post x) = refl
taken_setup s (Customer p d k) = refl
taken_setup s (Transmitter p d k) = refl
taken_setup s (Service p d x) = refl
taken_setup s (Rates d x) = refl
taken_setup s (Issue st) = refl

taken_book : (s : State) (c : Call) → is_ok (answer s c) ≡ true → book_in (taken s c) ≡ written (book_in s) c
taken_book s (Post x) e = refl
taken_book s (Customer p d k) e =
    let h = s.records.customers in
    let ok = party_entered s.setup.kinds h p d k (sym (plain_accepted (party_answer s.setup.kinds h p d k)) ∙ e) in
    ap (λ f. record { sheets = s.store.sheets; customers = f; transmitters = book s.records.transmitters; service = book s.records.service; rates = book s.records.rates })
    (entered_book h (dated p d k) ok)
taken_book s (Transmitter p d k) e =
    let h = s.records.transmitters in
    let ok = party_entered s.setup.kinds h p d k (sym (plain_accepted (party_answer s.setup.kinds h p d k)) ∙ e) in
    ap (λ f. record { sheets = s.store.sheets; customers = book s.records.customers; transmitters = f; service = book s.records.service; rates = book s.records.rates })
    (entered_book h (dated p d k) ok)
taken_book s (Service p d x) e =
    let h = s.records.service in
    let ok = service_entered s.setup.kinds h p d x (sym (plain_accepted (service_answer s.setup.kinds h p d x)) ∙ e) in
    ap (λ f. record { sheets = s.store.sheets; customers = book s.records.customers; transmitters = book s.records.transmitters; service = f; rates = book s.records.rates })
    (entered_book h (dated p d x) ok)
taken_book s (Rates d x) e =
    let h = s.records.rates in
    let ok = rates_entered h d x (sym (plain_accepted (rates_answer h d x)) ∙ e) in
    ap (λ f. record { sheets = s.store.sheets; customers = book s.records.customers; transmitters = book s.records.transmitters; service = book s.records.service; rates = f })
    (entered_book h (dated 0 d x) ok)
taken_book s (Issue st) e = refl

taken_order : (s : State) → InOrder s → (c : Call) → InOrder (taken s c)
taken_order s o (Post x) = record { customers = o.customers; transmitters = o.transmitters; service = o.service; rates = o.rates }
taken_order s o (Customer p d k) = record { customers = entered_order s.records.customers (dated p d k) o.customers; transmitters = o.transmitters; service = o.service; rates = o.rates }
taken_order s o (Transmitter p d k) = record { customers = o.customers; transmitters = entered_order s.records.transmitters (dated p d k) o.transmitters; service = o.service; rates = o.rates }
taken_order s o (Service p d x) = record { customers = o.customers; transmitters = o.transmitters; service = entered_order s.records.service (dated p d x) o.service; rates = o.rates }
taken_order s o (Rates d x) = record { customers = o.customers; transmitters = o.transmitters; service = o.service; rates = entered_order s.records.rates (dated 0 d x) o.rates }
taken_order s o (Issue st) = record { customers = o.customers; transmitters = o.transmitters; service = o.service; rates = o.rates }

taken_limited : (s : State) → DemandsLimited s.store.sheets → (c : Call) → is_ok (answer s c) ≡ true → DemandsLimited (taken s c).store.sheets
taken_limited s l (Post x) e = posted_limited s.store.sheets x l (accepted_post s x e)
taken_limited s l (Customer p d k) e = l
taken_limited s l (Transmitter p d k) e = l
taken_limited s l (Service p d x) e = l
taken_limited s l (Rates d x) e = l
taken_limited s l (Issue st) e = l

-- what bounds the dues, where the histories are sound
facts_limited : (s : State) → length s.setup.kinds ≤ 400 → s.setup.days ≤ 31 → DemandsLimited s.store.sheets → sound_records s.records ≡ true → Limited (facts_at s)
facts_limited s few month demands sound =
    let r = s.records in
    let one = and_parts _ _ sound in
    let two = and_parts _ _ one.1 in
    let three = and_parts _ _ two.1 in
    record {
      few = few;
      month = month;
      demands = demands;
      customers = λ p d. record_passes party_in_range 1 400 r.customers p d one.0;
      transmitters = λ p d. record_passes party_in_range 1 400 r.transmitters p d two.0;
      rates = λ d. record_passes rates_in_range 0 0 r.rates 0 d three.1;
    }

module _ (u : Setup) (s : State) (b : Book) (met : Option Book) (kept : Kept u s b met) where
  taken_sound : (c : Call) → is_ok (answer s c) ≡ true → length s.setup.kinds ≤ 400 → s.setup.days ≤ 31 → sound_ledger (taken s c).ledger ≡ true
  taken_sound (Post x) e few month = kept.sound few month
  taken_sound (Customer p d k) e few month = kept.sound few month
  taken_sound (Transmitter p d k) e few month = kept.sound few month
  taken_sound (Service p d x) e few month = kept.sound few month
  taken_sound (Rates d x) e few month = kept.sound few month
  taken_sound (Issue st) e few month =
      let ok = accepted_issue_is s st e in
      issued_sound s.ledger st (dues_of (facts_at s)) ok.taken (all_sound (facts_at s) (facts_limited s few month kept.limited ok.sound) ok.complete)

  -- before the first issue and after each, nothing is owed for a charge that a point does not have
  owed_nothing : (a : Account) → has_charge (kind_at s.setup.kinds a.point) a.charge ≡ false → owed u met a ≡ pos 0
  owed_nothing a lacks = go met
    where
      go : (m : Option Book) → owed u m a ≡ pos 0
      go None = refl
      go (Some x) = nothing_due (facts_from u x) a (ap (λ v. has_charge (kind_at v.kinds a.point) a.charge) (sym kept.setup) ∙ lacks)

  issue_owes : (st : Statement) → is_ok (answer s (Issue st)) ≡ true → (a : Account) → total_of a (items (taken s (Issue st)).ledger) ≡ due u b a
  issue_owes st e a =
      let f = facts_at s in
      let ok = accepted_issue_is s st e in
      let g = s.ledger in
      now_due f ok.complete (items g) (items (taken s (Issue st)).ledger)
      (issued_settled g st (dues_of f) ok.taken (dues_distinct f)) (issued_unmoved g st (dues_of f) ok.taken) a
      (λ lacks. kept.owes a ∙ owed_nothing a lacks)
      ∙ ap (λ x. due_by x a) (facts_book s kept.order)
      ∙ ap₂ (λ v x. due v x a) kept.setup kept.book

  taken_owes : (c : Call) → is_ok (answer s c) ≡ true → (a : Account) → total_of a (items (taken s c).ledger) ≡ owed u (cond (is_issue c) (Some b) met) a
  taken_owes (Post x) e a = kept.owes a
  taken_owes (Customer p d k) e a = kept.owes a
  taken_owes (Transmitter p d k) e a = kept.owes a
  taken_owes (Service p d x) e a = kept.owes a
  taken_owes (Rates d x) e a = kept.owes a
  taken_owes (Issue st) e a = issue_owes st e a

  taken_kept : (c : Call) → is_ok (answer s c) ≡ true → Kept u (taken s c) (written b c) (cond (is_issue c) (Some b) met)
  taken_kept c e = record {
    setup = taken_setup s c ∙ kept.setup;
    book = taken_book s c e ∙ ap (λ x. written x c) kept.book;
    order = taken_order s kept.order c;
    limited = taken_limited s kept.limited c e;
    sound = subst (λ v. length v.kinds ≤ 400 → v.days ≤ 31 → sound_ledger (taken s c).ledger ≡ true) (sym (taken_setup s c)) (taken_sound c e);
    owes = taken_owes c e;
  }

-- ---- one call, by whether it is accepted

abbrev pub filled : State → Call → JournalEntry
filled s c = record { call = c; outcome = Some (answer s c) }

and_true : (x : Bool) → (x && true) ≡ x
and_true true = refl
and_true false = refl

module _ (u : Setup) (s : State) (b : Book) (met : Option Book) (kept : Kept u s b met) (c : Call) where
  by_answer : (ok : Bool) → (ok ≡ true → is_ok (answer s c) ≡ true) → Kept u (cond ok (taken s c) s) (cond ok (written b c) b) (cond (is_issue c && ok) (Some b) met)
  by_answer true says = subst (λ x. Kept u (taken s c) (written b c) (cond x (Some b) met)) (sym (and_true (is_issue c))) (taken_kept u s b met kept c (says refl))
  by_answer false says = subst (λ x. Kept u s b (cond x (Some b) met)) (sym (and_right (is_issue c) false refl)) kept

  pub keeps : Kept u (next s c) (noted b (filled s c)) (cond (accepted_issue (filled s c)) (Some b) met)
  keeps = by_answer (is_ok (answer s c)) (λ e. e)
