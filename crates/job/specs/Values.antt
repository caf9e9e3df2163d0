-- What one value of a line says.
use Rattle.std.specs.Prelude.{ℕ, Bool, true, false, cond, ◌&&◌, List, [], ◌∷◌, length, take, drop, Some, None, codes, Option, ◌==◌, nat_lt, slice_index}
use Rattle.std.specs.Option.{option_or}
use Rattle.std.specs.Str.{bytes_eq}
use Rattle.tariff.specs.declared.charge.Charge.{Charge}
use Rattle.tariff.specs.declared.charge.Charge.TheVariants as charge
use Rattle.tariff.specs.declared.parties.Service.{Service}
use Rattle.tariff.specs.declared.statement.Statement.{Statement}
use Rattle.tariff.specs.declared.statement.Statement.TheVariants as statement
use Rattle.calendar.specs.Dates.{is_date, number_on}
use Rattle.job.specs.declared.command.StoreKind.{StoreKind}
use Rattle.job.specs.declared.command.StoreKind.TheVariants as store
use Rattle.job.specs.declared.command.Word.{Word}
use Rattle.job.specs.declared.command.Word.TheVariants as word
use Rattle.job.specs.declared.values.Date.{Date}
use Rattle.job.specs.Days.{bind}
use Rattle.job.specs.Numbers.{whole_of}

unfoldable pub is_word : List ℕ → List ℕ → Bool
is_word text word = bytes_eq text word

-- the first of a table's entries whose text it is
abbrev pub look_up : {X : Type 0} → List (List ℕ × X) → List ℕ → Option X
look_up [] text = None
look_up (e ∷ es) text = cond (is_word text e.0) (Some e.1) (look_up es text)

-- the calls that set a month up, and the one that ends it
abbrev pub state_words : List (List ℕ × Word)
state_words = (codes "month", word.Month) ∷ (codes "point", word.Point) ∷ (codes "open", word.Open) ∷ (codes "close", word.Close) ∷ []

abbrev pub state_word : List ℕ → Option Word
state_word = look_up state_words

-- those that enter something
abbrev pub entry_words : List (List ℕ × Word)
entry_words = (codes "customer", word.Customer) ∷ (codes "transmitter", word.Transmitter) ∷ (codes "service", word.Service) ∷ (codes "rates", word.Rates) ∷ (codes "sheet", word.Sheet) ∷ (codes "sheets", word.Sheets) ∷ []

abbrev pub entry_word : List ℕ → Option Word
entry_word = look_up entry_words

-- the call for a statement, and the questions
abbrev pub answer_words : List (List ℕ × Word)
answer_words = (codes "issue", word.Issue) ∷ (codes "credit", word.Credit) ∷ (codes "total", word.Total) ∷ (codes "peak", word.Peak) ∷ (codes "listing", word.Listing) ∷ []

abbrev pub answer_word : List ℕ → Option Word
answer_word = look_up answer_words

-- the name of a call
abbrev pub word_of : List ℕ → Option Word
word_of text = option_or (state_word text) (option_or (entry_word text) (answer_word text))

abbrev pub statement_of : List ℕ → Option Statement
statement_of =
    look_up (
    (codes "P", statement.P) ∷ (codes "F", statement.F) ∷ (codes "R1", statement.R1) ∷ (codes "R2", statement.R2) ∷ (codes "R3", statement.R3)
    ∷ (codes "R4", statement.R4) ∷ (codes "R5", statement.R5) ∷ (codes "R6", statement.R6) ∷ (codes "RF", statement.RF) ∷ []
    )

-- a charge by its number as a debit, and as a credit
abbrev pub charge_of : List ℕ → Option Charge
charge_of = look_up ((codes "650", charge.Network) ∷ (codes "651", charge.Line) ∷ (codes "652", charge.Transformation) ∷ [])

abbrev pub credit_of : List ℕ → Option Charge
credit_of = look_up ((codes "600", charge.Network) ∷ (codes "601", charge.Line) ∷ (codes "602", charge.Transformation) ∷ [])

abbrev pub store_of : List ℕ → Option StoreKind
store_of = look_up ((codes "table", store.Table) ∷ (codes "rows", store.Rows) ∷ [])

abbrev pub serving : Bool → Service
serving b = record { in_service = b }

abbrev pub service_of : List ℕ → Option Service
service_of = look_up ((codes "Y", serving true) ∷ (codes "N", serving false) ∷ [])

-- four digits, two and two, with a hyphen (45) between
abbrev pub is_dated : List ℕ → Bool
is_dated text = length text == 10 && (slice_index text 4 == 45 && slice_index text 7 == 45)

abbrev pub date_of : List ℕ → Option Date
date_of text =
    cond (is_dated text)
    (bind (whole_of (take 4 text)) (λ y. bind (whole_of (take 2 (drop 5 text))) (λ m. bind (whole_of (take 2 (drop 8 text))) (λ d.
    Some (record { year = y; month = m; day = d })))))
    None

-- the day number of a date; a date after 2099 has one that is out of range
abbrev pub day_of : Date → Option ℕ
day_of t = cond (nat_lt 2099 t.year && is_date t.year t.month t.day) (Some 4294967295) (number_on t.year t.month t.day)

-- a day number, or else a date
abbrev pub from_of : List ℕ → Option ℕ
from_of text = option_or (whole_of text) (bind (date_of text) day_of)
