-- Service on record, and the days in service of a month.
use Rattle.std.specs.Prelude.{◌≡◌, ℕ, Bool, true, false, ◌&&◌, Some, None, Option}
use Rattle.std.proofs.lemmas.Bool.{and_parts}
use Rattle.tariff.specs.declared.parties.Service.{Service}
use Rattle.tariff.specs.Shelves.{Shelf, items}
use Rattle.calendar.specs.Marks.{marked}
use Rattle.records.specs.declared.dated.Dated.{Dated}
use Rattle.records.specs.Books.{latest}
use Rattle.hours.specs.declared.service.ServiceDays.{ServiceDays}
use Rattle.hours.specs.Hours.{Inside, in_month, month_within}

-- nothing on record means no service
abbrev pub serves : Option Service → Bool
serves None = false
serves (Some s) = s.in_service

-- whether the point p has service on record on the day number n
abbrev pub serves_on : Shelf (Dated Service) → ℕ → ℕ → Bool
serves_on s p n = serves (latest (items s) p n)

abbrev pub admitted_by : ServiceDays → ℕ → ℕ → Bool
admitted_by s d h = in_month s.days d h && marked s.mask d

pub admitted_within : (s : ServiceDays) (d h : ℕ) → admitted_by s d h ≡ true → Inside s.days d h
admitted_within s d h e = month_within s.days d h (and_parts (in_month s.days d h) (marked s.mask d) e).0
