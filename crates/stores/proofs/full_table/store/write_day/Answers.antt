use Rattle.std.proofs.Common.{arith}
use Rattle.std.proofs.ByRecursion.{All-get_or}
use Rattle.tariff.specs.Readings.{Allowed}
use Rattle.stores.proofs.Places.{all_written}
use Rattle.stores.proofs.full_table.store.write_day.Goals as goal

pub encode-requires : goal.encode-requires
encode-requires c = All-get_or Allowed c.args.readings.now c.loop-i.i _ (omega arith) c.requires.1

pub returns : goal.returns
returns c = all_written c.args.readings.now c.loop-i.words (omega arith) (λ k h. c.loop-i.invariant k (omega arith))
