use Rattle.std.proofs.Common.{rules}
use Rattle.records.proofs.Keeping.{booked}
use Rattle.records.proofs.history.History.enter.Goals as goal

pub returns-in_err-self-clause-booked : goal.returns-in_err-self-clause-booked
returns-in_err-self-clause-booked g c = booked _ _ _ _ (search rules) (search rules)

pub returns-clause-booked : goal.returns-clause-booked
returns-clause-booked g c = booked _ _ _ _ (search rules) (search rules)
