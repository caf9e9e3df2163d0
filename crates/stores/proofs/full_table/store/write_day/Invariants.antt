use Rattle.std.proofs.Common.{◌≡◌, ℕ, ◌<◌, get_or}
use Rattle.tariff.specs.declared.reading.Reading.TheVariants.{Withdrawal}
use Rattle.stores.specs.Words.{encoded}
use Rattle.stores.proofs.full_table.store.write_day.Given as goal

abbrev pub invariant-loop-i : goal.invariant-loop-i
invariant-loop-i l = (k : ℕ) → k < l.i → get_or l.words k 0 ≡ encoded (get_or l.readings k (Withdrawal 0))
