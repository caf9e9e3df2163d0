-- What a command says, whatever memory it points into.
use Rattle.std.specs.Prelude.{ℕ, Bool, List, Option}
use Rattle.tariff.specs.declared.charge.Charge.{Charge}
use Rattle.tariff.specs.declared.parties.PartyNumber.{PartyNumber}
use Rattle.tariff.specs.declared.parties.Rates.{Rates as RatesT}
use Rattle.tariff.specs.declared.parties.Service.{Service as ServiceT}
use Rattle.tariff.specs.declared.statement.Statement.{Statement}
use Rattle.job.specs.declared.command.Places.{Places}
use Rattle.job.specs.declared.command.StoreKind.{StoreKind}
use Rattle.job.specs.declared.command.Command.{Command}
use Rattle.job.specs.declared.command.Command.TheVariants as command

pub data Said : Type 0 where
  Month : ℕ → ℕ → ℕ → ℕ → Said
  Point : ℕ → Bool → Bool → Said
  Open : StoreKind → Option Places → Said
  Customer : ℕ → ℕ → PartyNumber → Said
  Transmitter : ℕ → ℕ → PartyNumber → Said
  Service : ℕ → ℕ → ServiceT → Said
  Rates : ℕ → RatesT → Said
  Sheet : List ℕ → Said
  Sheets : List ℕ → Said
  Issue : Statement → Said
  Credit : Statement → Charge → PartyNumber → Said
  Total : ℕ → Charge → PartyNumber → PartyNumber → Said
  Peak : Said
  Listing : Said
  Close : Said

abbrev pub said : Command → Said
said (command.Month year month holidays summer) = Month year month holidays summer
said (command.Point point) = Point point.letter point.line point.transformation
said (command.Open store places) = Open store places
said (command.Customer point from party) = Customer point from party
said (command.Transmitter point from party) = Transmitter point from party
said (command.Service point from service) = Service point from service
said (command.Rates from rates) = Rates from rates
said (command.Sheet line) = Sheet line.now
said (command.Sheets file) = Sheets file.now
said (command.Issue statement) = Issue statement
said (command.Credit statement charge transmitter) = Credit statement charge transmitter
said (command.Total point charge customer transmitter) = Total point charge customer transmitter
said command.Peak = Peak
said command.Listing = Listing
said command.Close = Close
