-- Which call of an open month a command makes, what the month answers, and what it leaves.
use Rattle.std.specs.Prelude.{ℕ, cond, ℤ, Some, None, Ok, Err, Option, Result}
use Rattle.std.specs.Result.{result_map_both}
use Rattle.tariff.specs.declared.reading.Sheet.{Sheet}
use Rattle.tariff.specs.declared.refusal.Refusal.{Refusal}
use Rattle.tariff.specs.Shelves.{items}
use Rattle.sheet_file.specs.declared.faults.FileFault.{FileFault}
use Rattle.sheet_file.specs.Faults.{refusal_of_fault}
use Rattle.sheet_file.specs.Files.{outcome}
use Rattle.demand.specs.Determinants.{system_peak_of}
use Rattle.demand.specs.Peaks.{Triple}
use Rattle.ledger.specs.Ledgers.{if_sound}
use Rattle.ledger.specs.Sums.{credit_of, total_of}
use Rattle.job.specs.Said.{Said}
use Rattle.job.specs.Said as says
use Rattle.month.specs.declared.calls.Call.{Call}
use Rattle.month.specs.declared.calls.Call.TheVariants as call
use Rattle.month.specs.States.{State}
use Rattle.month.specs.Answers.{answer as outcome_of, next}
use Rattle.month.specs.Laws.{is_issue}
use Rattle.clerk.specs.declared.answers.Answer.{Answer}
use Rattle.clerk.specs.declared.answers.Answer.TheVariants.{Done, Lines, Cents, Peak}

-- a line that is no sheet is refused with 20 or 21
abbrev pub sheet_call : Result Sheet FileFault → Result Call Refusal
sheet_call (Ok sheet) = Ok (call.Post sheet)
sheet_call (Err fault) = Err (refusal_of_fault fault)

-- the call that a command on line n makes of an open month, if it makes one
abbrev pub call_of : ℕ → Said → Option (Result Call Refusal)
call_of n (says.Month year month holidays summer) = None
call_of n (says.Point letter line transformation) = None
call_of n (says.Open store places) = None
call_of n (says.Customer point from party) = Some (Ok (call.Customer point from party))
call_of n (says.Transmitter point from party) = Some (Ok (call.Transmitter point from party))
call_of n (says.Service point from service) = Some (Ok (call.Service point from service))
call_of n (says.Rates from rates) = Some (Ok (call.Rates from rates))
call_of n (says.Sheet text) = Some (sheet_call (outcome n text))
call_of n (says.Sheets file) = None
call_of n (says.Issue statement) = Some (Ok (call.Issue statement))
call_of n (says.Credit statement charge transmitter) = None
call_of n (says.Total point charge customer transmitter) = None
call_of n says.Peak = None
call_of n says.Listing = None
call_of n says.Close = None

-- an accepted statement is answered with how many lines it wrote
abbrev pub answer_to : Call → ℕ → Answer
answer_to c n = cond (is_issue c) (Lines n) Done

abbrev pub called : State → Result Call Refusal → Result Answer Refusal
called s (Ok c) = result_map_both (answer_to c) (λ e. e) (outcome_of s c)
called s (Err e) = Err e

abbrev pub in_cents : Result ℤ Refusal → Result Answer Refusal
in_cents r = result_map_both Cents (λ e. e) r

abbrev pub at_peak : Triple → Answer
at_peak t = Peak t.0 t.1 t.2

-- what is answered to a question
abbrev pub asked : State → Said → Option (Result Answer Refusal)
asked s (says.Month year month holidays summer) = None
asked s (says.Point letter line transformation) = None
asked s (says.Open store places) = None
asked s (says.Customer point from party) = None
asked s (says.Transmitter point from party) = None
asked s (says.Service point from service) = None
asked s (says.Rates from rates) = None
asked s (says.Sheet text) = None
asked s (says.Sheets file) = None
asked s (says.Issue statement) = None
asked s (says.Credit statement charge transmitter) = Some (in_cents (if_sound s.ledger (credit_of statement charge transmitter (items s.ledger))))
asked s (says.Total point charge customer transmitter) =
    Some (in_cents (if_sound s.ledger (total_of (record { point = point; charge = charge; customer = customer; transmitter = transmitter }) (items s.ledger))))
asked s says.Peak = Some (Ok (at_peak (system_peak_of s.setup.kinds s.setup.days s.store.sheets)))
asked s says.Listing = None
asked s says.Close = None

-- by the call that a command makes, or as a question
abbrev pub reply : State → Said → Option (Result Call Refusal) → Option (Result Answer Refusal)
reply s x None = asked s x
reply s x (Some c) = Some (called s c)

abbrev pub replied : ℕ → State → Said → Option (Result Answer Refusal)
replied n s x = reply s x (call_of n x)

-- only a call alters the month
abbrev pub moved : State → Result Call Refusal → State
moved s (Ok c) = next s c
moved s (Err e) = s

abbrev pub left_by : State → Option (Result Call Refusal) → State
left_by s None = s
left_by s (Some c) = moved s c

abbrev pub left : ℕ → State → Said → State
left n s x = left_by s (call_of n x)
