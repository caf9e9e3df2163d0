use Rattle.std.proofs.Common.{rules}
use Rattle.std.proofs.lemmas.Bool.{and_parts}
use Rattle.tariff.specs.Shelves.{items}
use Rattle.ledger.specs.Ledgers.{shelf_of}
use Rattle.ledger.proofs.Balance.{balanced}
use Rattle.ledger.proofs.ledger.Ledger.credit.Goals as goal

pub returns : goal.returns
returns c = record { value = search rules; balanced = λ e. balanced (items (shelf_of c.args.self.now)) (and_parts _ _ e).1 }
