-- What a line of a job says.
use Rattle.std.specs.Prelude.{ℕ, ◌-◌, Bool, false, cond, not, ◌&&◌, ◌||◌, List, [], length, Some, None, Ok, Err, Option, Result, ◌==◌, nat_le, slice_index, slice_index_or}
use Rattle.std.specs.Result.{result_map_both}
use Rattle.tariff.specs.declared.parties.PartyNumber.{PartyNumber}
use Rattle.text.specs.Format.{before, after, parts}
use Rattle.job.specs.declared.command.Command.{Command}
use Rattle.job.specs.declared.command.Malformed.{Malformed}
use Rattle.job.specs.declared.command.Malformed.TheVariants.{UnknownCall, WrongCount, BadValue}
use Rattle.job.specs.declared.command.Places.{Places}
use Rattle.job.specs.declared.command.Word.{Word}
use Rattle.job.specs.declared.command.Word.TheVariants as word
use Rattle.job.specs.declared.parse.Entry.{Entry}
use Rattle.job.specs.Masks.{days_of}
use Rattle.job.specs.Numbers.{whole_of}
use Rattle.job.specs.Points.{marks_of}
use Rattle.job.specs.Said.{Said, said}
use Rattle.job.specs.Said as says
use Rattle.job.specs.Values.{word_of, statement_of, charge_of, credit_of, store_of, service_of, from_of}

-- what `parse` answers, without its memory
abbrev pub told : Result Command Malformed → Result Said Malformed
told r = result_map_both said (λ m. m) r

-- the value at a place, counted from 0, of a text with bars (124) between its values; nothing where it has none
abbrev pub nth_value : ℕ → List ℕ → List ℕ
nth_value k text = slice_index_or (parts 124 text) k []

-- whether a call takes so many values
abbrev pub takes_count : Word → ℕ → Bool
takes_count word.Month n = n == 4
takes_count word.Point n = n == 1 || n == 2
takes_count word.Open n = n == 1 || n == 6
takes_count word.Customer n = n == 3
takes_count word.Transmitter n = n == 3
takes_count word.Service n = n == 3
takes_count word.Rates n = n == 4
takes_count word.Sheet n = nat_le 1 n
takes_count word.Sheets n = n == 1
takes_count word.Issue n = n == 1
takes_count word.Credit n = n == 3
takes_count word.Total n = n == 4
takes_count word.Peak n = n == 0
takes_count word.Listing n = n == 0
takes_count word.Close n = n == 0

-- what follows from the value at a place, counted from 1, if it is one
abbrev pub at : {X Y : Type 0} → ℕ → Option X → (X → Result Y Malformed) → Result Y Malformed
at place None f = Err (BadValue place)
at place (Some x) f = f x

abbrev pub party_of : ℕ → PartyNumber
party_of n = record { number = n }

abbrev pub month_call : List ℕ → List ℕ → List ℕ → List ℕ → Result Said Malformed
month_call a b c d = at 1 (whole_of a) (λ y. at 2 (whole_of b) (λ m. at 3 (days_of c) (λ holidays. at 4 (days_of d) (λ summer. Ok (says.Month y m holidays summer)))))

-- a letter that no kind has
abbrev pub no_kind : Said
no_kind = says.Point 0 false false

-- a point with its marks, of which there are some where they are written
abbrev pub marked_point : Bool → ℕ → Option (Bool × Bool) → Said
marked_point written letter None = no_kind
marked_point written letter (Some m) = cond (written && (not m.0 && not m.1)) no_kind (says.Point letter m.0 m.1)

-- one letter, and marks where there are two values
abbrev pub point_call : ℕ → List ℕ → List ℕ → Result Said Malformed
point_call count a b = Ok (cond (length a == 1) (marked_point (count == 2) (slice_index a 0) (marks_of b)) no_kind)

abbrev pub places_of : List ℕ → List ℕ → List ℕ → List ℕ → List ℕ → Result Places Malformed
places_of b c d e f =
    at 2 (whole_of b) (λ customers. at 3 (whole_of c) (λ transmitters. at 4 (whole_of d) (λ service. at 5 (whole_of e) (λ rates. at 6 (whole_of f) (λ ledger.
    Ok (record { customers = customers; transmitters = transmitters; service = service; rates = rates; ledger = ledger }))))))

abbrev pub open_call : ℕ → List ℕ → Result Places Malformed → Result Said Malformed
open_call count a places = at 1 (store_of a) (λ store. cond (count == 1) (Ok (says.Open store None)) (result_map_both (λ p. says.Open store (Some p)) (λ m. m) places))

abbrev pub entry_of : List ℕ → List ℕ → List ℕ → Result Entry Malformed
entry_of a b c = at 1 (whole_of a) (λ point. at 2 (from_of b) (λ from. at 3 (whole_of c) (λ n. Ok (record { point = point; from_day = from; party = party_of n }))))

abbrev pub customer_call : Result Entry Malformed → Result Said Malformed
customer_call r = result_map_both (λ e. says.Customer e.point e.from_day e.party) (λ m. m) r

abbrev pub transmitter_call : Result Entry Malformed → Result Said Malformed
transmitter_call r = result_map_both (λ e. says.Transmitter e.point e.from_day e.party) (λ m. m) r

abbrev pub service_call : List ℕ → List ℕ → List ℕ → Result Said Malformed
service_call a b c = at 1 (whole_of a) (λ point. at 2 (from_of b) (λ from. at 3 (service_of c) (λ service. Ok (says.Service point from service))))

abbrev pub rates_call : List ℕ → List ℕ → List ℕ → List ℕ → Result Said Malformed
rates_call a b c d =
    at 1 (from_of a) (λ from. at 2 (whole_of b) (λ network. at 3 (whole_of c) (λ line. at 4 (whole_of d) (λ transformation.
    Ok (says.Rates from (record { network = network; line = line; transformation = transformation }))))))

abbrev pub issue_call : List ℕ → Result Said Malformed
issue_call a = at 1 (statement_of a) (λ statement. Ok (says.Issue statement))

abbrev pub credit_call : List ℕ → List ℕ → List ℕ → Result Said Malformed
credit_call a b c = at 1 (statement_of a) (λ statement. at 2 (credit_of b) (λ charge. at 3 (whole_of c) (λ n. Ok (says.Credit statement charge (party_of n)))))

abbrev pub total_call : List ℕ → List ℕ → List ℕ → List ℕ → Result Said Malformed
total_call a b c d =
    at 1 (whole_of a) (λ point. at 2 (charge_of b) (λ charge. at 3 (whole_of c) (λ customer. at 4 (whole_of d) (λ transmitter.
    Ok (says.Total point charge (party_of customer) (party_of transmitter))))))

-- the command of a call with so many values, of which there are enough; those of a sheet are not looked into
abbrev pub command_of : Word → ℕ → List ℕ → Result Said Malformed
command_of word.Month count rest = month_call (nth_value 0 rest) (nth_value 1 rest) (nth_value 2 rest) (nth_value 3 rest)
command_of word.Point count rest = point_call count (nth_value 0 rest) (nth_value 1 rest)
command_of word.Open count rest = open_call count (nth_value 0 rest) (places_of (nth_value 1 rest) (nth_value 2 rest) (nth_value 3 rest) (nth_value 4 rest) (nth_value 5 rest))
command_of word.Customer count rest = customer_call (entry_of (nth_value 0 rest) (nth_value 1 rest) (nth_value 2 rest))
command_of word.Transmitter count rest = transmitter_call (entry_of (nth_value 0 rest) (nth_value 1 rest) (nth_value 2 rest))
command_of word.Service count rest = service_call (nth_value 0 rest) (nth_value 1 rest) (nth_value 2 rest)
command_of word.Rates count rest = rates_call (nth_value 0 rest) (nth_value 1 rest) (nth_value 2 rest) (nth_value 3 rest)
command_of word.Sheet count rest = Ok (says.Sheet rest)
command_of word.Sheets count rest = Ok (says.Sheets (nth_value 0 rest))
command_of word.Issue count rest = issue_call (nth_value 0 rest)
command_of word.Credit count rest = credit_call (nth_value 0 rest) (nth_value 1 rest) (nth_value 2 rest)
command_of word.Total count rest = total_call (nth_value 0 rest) (nth_value 1 rest) (nth_value 2 rest) (nth_value 3 rest)
command_of word.Peak count rest = Ok says.Peak
command_of word.Listing count rest = Ok says.Listing
command_of word.Close count rest = Ok says.Close

-- the call of a name, with so many values
abbrev pub called : Option Word → ℕ → List ℕ → Result Said Malformed
called None count rest = Err UnknownCall
called (Some w) count rest = cond (takes_count w count) (command_of w count rest) (Err WrongCount)

-- the call's name stands before the first bar, and its values after it
abbrev pub parsed : List ℕ → Result Said Malformed
parsed line = called (word_of (before 124 line)) (length (parts 124 line) - 1) (after 124 line)
