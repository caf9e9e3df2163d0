-- The plain book of a journal: what the accepted calls put where, and nothing else; and what it says is due.
use Rattle.std.specs.Prelude.{ℕ, Bool, false, cond, ◌&&◌, List, [], ◌∷◌, ℤ, pos, Some, None, Option, ◌==◌}
use Rattle.tariff.specs.declared.parties.PartyNumber.{PartyNumber}
use Rattle.tariff.specs.declared.parties.Rates.{Rates as RateRecord}
use Rattle.tariff.specs.declared.parties.Service.{Service as ServiceRecord}
use Rattle.tariff.specs.Points.{kind_at}
use Rattle.readings.specs.Meaning.{Sheets}
use Rattle.records.specs.Books.{book_with, book_latest}
use Rattle.records.specs.Entering.{dated}
use Rattle.hours.specs.Services.{serves}
use Rattle.ledger.specs.declared.line.Account.{Account}
use Rattle.ledger.specs.Lines.{same_party}
use Rattle.dues.specs.Facts.{Facts, last_day}
use Rattle.dues.specs.Dues.{has_charge, peak_of, due_of}
use Rattle.month.specs.declared.calls.Call.{Call}
use Rattle.month.specs.declared.calls.Call.TheVariants.{Post, Customer, Transmitter, Service, Rates, Issue}
use Rattle.month.specs.declared.calls.JournalEntry.{JournalEntry}
use Rattle.month.specs.States.{Setup}
use Rattle.month.specs.Answers.{is_accepted}

-- sheets by point and day, and items by subject and from-day
pub record Book : Type 0 where
  pub sheets : Sheets
  pub customers : ℕ → ℕ → Option PartyNumber
  pub transmitters : ℕ → ℕ → Option PartyNumber
  pub service : ℕ → ℕ → Option ServiceRecord
  pub rates : ℕ → ℕ → Option RateRecord

abbrev pub empty : Book
empty = record {
  sheets = λ p d. None;
  customers = λ p d. None;
  transmitters = λ p d. None;
  service = λ p d. None;
  rates = λ p d. None;
}

-- by an accepted call
abbrev pub written : Book → Call → Book
written b (Post x) = record {
  sheets = λ p d. cond (p == x.point && d == x.day) (Some x.readings) (b.sheets p d);
  customers = b.customers;
  transmitters = b.transmitters;
  service = b.service;
  rates = b.rates;
}
written b (Customer p d k) = record {
  sheets = b.sheets;
  customers = book_with b.customers (dated p d k);
  transmitters = b.transmitters;
  service = b.service;
  rates = b.rates;
}
written b (Transmitter p d k) = record {
  sheets = b.sheets;
  customers = b.customers;
  transmitters = book_with b.transmitters (dated p d k);
  service = b.service;
  rates = b.rates;
}
written b (Service p d x) = record {
  sheets = b.sheets;
  customers = b.customers;
  transmitters = b.transmitters;
  service = book_with b.service (dated p d x);
  rates = b.rates;
}
written b (Rates d x) = record {
  sheets = b.sheets;
  customers = b.customers;
  transmitters = b.transmitters;
  service = b.service;
  rates = book_with b.rates (dated 0 d x);
}
written b (Issue st) = b

abbrev pub noted : Book → JournalEntry → Book
noted b e = cond (is_accepted e.outcome) (written b e.call) b

abbrev pub book_from : Book → List JournalEntry → Book
book_from b [] = b
book_from b (e ∷ es) = book_from (noted b e) es

abbrev pub book_of : List JournalEntry → Book
book_of j = book_from empty j

-- ---- what is due

-- all that dues are worked out from, read from the book
abbrev pub facts_from : Setup → Book → Facts
facts_from u b = record {
  kinds = u.kinds;
  days = u.days;
  first = u.first;
  sheets = b.sheets;
  admits = u.admits;
  customer_on = book_latest b.customers;
  transmitter_on = book_latest b.transmitters;
  served_on = λ p n. serves (book_latest b.service p n);
  rates_on = book_latest b.rates 0;
}

abbrev pub is_party : Option PartyNumber → PartyNumber → Bool
is_party None k = false
is_party (Some x) k = same_party x k

-- the account's parties are the ones on record on the month's last day
abbrev pub on_record : Facts → Account → Bool
on_record f a =
    is_party (f.customer_on a.point (last_day f)) a.customer && is_party (f.transmitter_on a.point (last_day f)) a.transmitter

-- nothing where no rates are on record on the last day
abbrev pub charge_due : Facts → Option RateRecord → Account → ℤ
charge_due f None a = pos 0
charge_due f (Some rates) a = (due_of f (peak_of f) rates a.point a.charge).cents

-- its charge if its parties are the ones on record, else nothing; and nothing for a charge that its point does not have
abbrev pub due_by : Facts → Account → ℤ
due_by f a =
    cond (has_charge (kind_at f.kinds a.point) a.charge && on_record f a) (charge_due f (f.rates_on (last_day f)) a) (pos 0)

abbrev pub due : Setup → Book → Account → ℤ
due u b a = due_by (facts_from u b) a
