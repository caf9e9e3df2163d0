-- The number under which each refusal is known. The values that a refusal carries are its places.
use Rattle.std.specs.Prelude.{ℕ}
use Rattle.tariff.specs.declared.refusal.Refusal.{Refusal}
use Rattle.tariff.specs.declared.refusal.Refusal.TheVariants.{NoSuchMonth, MarkOutsideMonth, NotAPointKind, TooManyPoints, StoreDoesNotFit, UnknownPoint, UnknownDay, QuantityTooLarge, DayOutOfRange, PartyOutOfRange, RateTooHigh, HistoryFull, ServiceOfNetworkPoint, OutOfTurn, SheetMissing, NothingOnRecord, Unsound, LedgerFull, IncrementTooLarge, NotTwentySixValues, MalformedValue, TextTooShort}

abbrev pub number_of : Refusal → ℕ
number_of NoSuchMonth = 1
number_of MarkOutsideMonth = 2
number_of NotAPointKind = 3
number_of TooManyPoints = 4
number_of StoreDoesNotFit = 5
number_of UnknownPoint = 6
number_of UnknownDay = 7
number_of (QuantityTooLarge hour) = 8
number_of DayOutOfRange = 9
number_of PartyOutOfRange = 10
number_of RateTooHigh = 11
number_of HistoryFull = 12
number_of ServiceOfNetworkPoint = 13
number_of OutOfTurn = 14
number_of (SheetMissing point day) = 15
number_of (NothingOnRecord point) = 16
number_of Unsound = 17
number_of LedgerFull = 18
number_of IncrementTooLarge = 19
number_of (NotTwentySixValues line) = 20
number_of (MalformedValue place line) = 21
number_of TextTooShort = 22
