-- What a list of dues holds.
use Rattle.std.specs.Prelude.{List}
use Rattle.fixed_list.specs.Lists.{items_of}
use Rattle.fixed_list.specs.declared.list.FixedList.{FixedList}
use Rattle.ledger.specs.declared.due.Due.{Due}
use Rattle.ledger.specs.Dues.{DueFacts, all_facts}

abbrev pub dues_in : FixedList Due 800 → List Due
dues_in l = items_of l

abbrev pub facts_in : FixedList Due 800 → List DueFacts
facts_in l = all_facts (dues_in l)
