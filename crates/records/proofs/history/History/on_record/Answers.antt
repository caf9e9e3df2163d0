use Rattle.std.proofs.Common.{leb, length, ap, ◌∙◌}
use Rattle.std.proofs.lemmas.Bool.{and_parts}
use Rattle.tariff.specs.Shelves.{items}
use Rattle.records.specs.Books.{sorted, latest}
use Rattle.records.specs.Histories.{shelf_of}
use Rattle.records.specs.Soundness.{passes}
use Rattle.records.proofs.Laws.{latest_book}
use Rattle.records.proofs.Keeping.{record_passes}
use Rattle.records.proofs.history.History.on_record.Goals as goal

pub returns : goal.returns
returns g c =
    let h = shelf_of c.args.self.now in
    let s = c.args.subject in
    let d = c.args.day in
    let is = c.latest_of.ensures ∙ ap (λ xs. latest xs s d) c.entries.ensures in
    record {
      value = is;
      book = λ t. is ∙ latest_book (items h) s d (and_parts (leb h.used (length h.memory)) (sorted (items h)) t).1;
      ranged = λ ok first last t. ap (passes ok) is ∙ record_passes ok first last h s d t;
    }
