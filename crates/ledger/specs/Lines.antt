-- Lines and accounts: equality of their parts, and what makes them sound.
use Rattle.std.specs.Prelude.{ℕ, Bool, ◌&&◌, List, ℤ, pos, neg_ℤ, ◌==◌, int_le, nat_le}
use Rattle.std.specs.List.{list_all, list_any}
use Rattle.tariff.specs.declared.parties.PartyNumber.{PartyNumber}
use Rattle.tariff.specs.Charges.{same_charge}
use Rattle.tariff.specs.Parties.{party_in_range}
use Rattle.tariff.specs.Ranges.{within}
use Rattle.ledger.specs.declared.line.Line.{Line}
use Rattle.ledger.specs.declared.line.Account.{Account}

abbrev pub every : {X : Type 0} → (X → Bool) → List X → Bool
every p xs = list_all p xs

abbrev pub any : {X : Type 0} → (X → Bool) → List X → Bool
any p xs = list_any p xs

abbrev pub same_party : PartyNumber → PartyNumber → Bool
same_party a b = a.number == b.number

-- the account that a line stands on
abbrev pub account_of : Line → Account
account_of l = record { point = l.point; charge = l.charge; customer = l.customer; transmitter = l.transmitter }

abbrev pub same_account : Account → Account → Bool
same_account a b =
    (a.point == b.point) && same_charge a.charge b.charge
    && same_party a.customer b.customer && same_party a.transmitter b.transmitter

-- an amount of at most 9,999,999,900 cents, either side of zero
abbrev pub small : ℤ → Bool
small z = int_le (neg_ℤ (pos 9999999900)) z && int_le z (pos 9999999900)

abbrev pub sound_account : Account → Bool
sound_account a = within 400 a.point && party_in_range a.customer && party_in_range a.transmitter

-- a determinant: its quantity, day and hour
abbrev pub sound_reading : ℕ → ℕ → ℕ → Bool
sound_reading quantity day hour = nat_le quantity 9999999900 && nat_le day 31 && nat_le hour 24

abbrev pub sound_line : Line → Bool
sound_line l = sound_account (account_of l) && small l.cents && sound_reading l.quantity l.day l.hour

-- what is due to an account, with its determinant
abbrev pub sound_terms : Account → ℤ → ℕ → ℕ → ℕ → Bool
sound_terms a cents quantity day hour =
    sound_account a && (int_le (pos 0) cents && int_le cents (pos 9999999900)) && sound_reading quantity day hour
