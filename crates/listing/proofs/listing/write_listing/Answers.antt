use Rattle.std.proofs.Common.{arith}
use Rattle.text.specs.Texts.{text_of}
use Rattle.ledger.specs.Ledgers.{shelf_of}
use Rattle.listing.proofs.Passing.{wrote}
use Rattle.listing.proofs.listing.write_listing.Goals as goal

pub returns : goal.returns
returns c =
    let w =
    wrote (shelf_of c.args.ledger.now) c.lines-lines.result.now (text_of c.header_text-header.result)
    c.args.out.now c.put-start.new.out c.put_lines.new.out c.put-start.result c.put_lines.result
    c.in_ok-check.ensures c.lines-lines.ensures c.header_text-header.ensures
    c.put-start.ensures.place c.put-start.ensures.front c.put-start.ensures.back
    c.put_lines.ensures.place c.put_lines.ensures.front c.put_lines.ensures.back (omega arith) in
    record { value = w.value; memory = w.memory; listed = w.listed }
