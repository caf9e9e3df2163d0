-- The laws of a month, over whole runs.
use Rattle.std.specs.Prelude.{◌≡◌, ℕ, Bool, true, false, cond, ◌&&◌, List, [], ◌∷◌, ◌++◌, Some, None, Option}
use Rattle.tariff.specs.Shelves.{items}
use Rattle.hours.specs.Hours.{Inside}
use Rattle.ledger.specs.declared.line.Account.{Account}
use Rattle.ledger.specs.declared.line.Line.{Line}
use Rattle.ledger.specs.Balances.{Balanced}
use Rattle.ledger.specs.Sums.{total_of}
use Rattle.month.specs.declared.calls.Call.{Call}
use Rattle.month.specs.declared.calls.Call.TheVariants.{Post, Customer, Transmitter, Service, Rates, Issue}
use Rattle.month.specs.declared.calls.JournalEntry.{JournalEntry}
use Rattle.month.specs.States.{Setup, State}
use Rattle.month.specs.Answers.{is_accepted}
use Rattle.month.specs.Journals.{after, answered}
use Rattle.month.specs.Books.{Book, empty, noted, book_of, due}

-- nothing posted, entered or written; the memory may hold anything
pub record Bare (s : State) : Type 0 where
  pub sheets : (p d : ℕ) → s.store.sheets p d ≡ None
  pub customers : s.records.customers.used ≡ 0
  pub transmitters : s.records.transmitters.used ≡ 0
  pub service : s.records.service.used ≡ 0
  pub rates : s.records.rates.used ≡ 0
  pub ledger : s.ledger.used ≡ 0

abbrev pub is_issue : Call → Bool
is_issue (Post x) = false
is_issue (Customer p d k) = false
is_issue (Transmitter p d k) = false
is_issue (Service p d x) = false
is_issue (Rates d x) = false
is_issue (Issue st) = true

abbrev pub accepted_issue : JournalEntry → Bool
accepted_issue e = is_issue e.call && is_accepted e.outcome

abbrev pub ends_in_issue : List JournalEntry → Bool
ends_in_issue [] = false
ends_in_issue (e ∷ []) = accepted_issue e
ends_in_issue (e ∷ (f ∷ fs)) = ends_in_issue (f ∷ fs)

-- the ledger's lines after a journal
abbrev pub lines_after : State → List JournalEntry → List Line
lines_after s j = items (after s j).ledger

-- the book that the last accepted issue met, where there was one
abbrev pub met_from : Book → Option Book → List JournalEntry → Option Book
met_from b met [] = met
met_from b met (e ∷ es) = met_from (noted b e) (cond (accepted_issue e) (Some b) met) es

abbrev pub last_met : List JournalEntry → Option Book
last_met j = met_from empty None j

pub record SameBook (b b' : Book) : Type 0 where
  pub sheets : (p d : ℕ) → b.sheets p d ≡ b'.sheets p d
  pub customers : (p d : ℕ) → b.customers p d ≡ b'.customers p d
  pub transmitters : (p d : ℕ) → b.transmitters p d ≡ b'.transmitters p d
  pub service : (p d : ℕ) → b.service p d ≡ b'.service p d
  pub rates : (p d : ℕ) → b.rates p d ≡ b'.rates p d

abbrev pub SameMet : Option Book → Option Book → Type 0
SameMet None None = Unit {0}
SameMet None (Some b') = ⊥
SameMet (Some b) None = ⊥
SameMet (Some b) (Some b') = SameBook b b'

-- equal set-ups, and rules that answer alike inside the month
pub record Alike (u u' : Setup) : Type 0 where
  pub kinds : u.kinds ≡ u'.kinds
  pub days : u.days ≡ u'.days
  pub first : u.first ≡ u'.first
  pub admits : (d h : ℕ) → Inside u.days d h → u.admits d h ≡ u'.admits d h

-- of a bare month and the journal that it answered
pub record MonthLaws (start : State) (journal : List JournalEntry) : Type 0 where
  -- after each accepted issue every account's total is what the plain book says it is due
  pub settles : (done rest : List JournalEntry) → journal ≡ done ++ rest → ends_in_issue done ≡ true → (a : Account) → total_of a (lines_after start done) ≡ due start.setup (book_of done) a
  -- after each call, for every statement and charge, the credits of all transmitters equal the debits of all customers
  pub balances : (done rest : List JournalEntry) → journal ≡ done ++ rest → Balanced (lines_after start done)
  -- another run, over any store and memory, whose last accepted issue met the same sheets and records, ends with the same totals
  pub agrees : (other : State) (theirs : List JournalEntry) → Bare other → Alike start.setup other.setup → SameMet (last_met journal) (last_met (answered other theirs)) → (a : Account) → total_of a (lines_after start journal) ≡ total_of a (lines_after other theirs)
