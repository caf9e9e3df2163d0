use Rattle.std.proofs.Common.{sym}
use Rattle.sheet_file.proofs.Back.{finish}
use Rattle.sheet_file.proofs.writer.write_sheet.Goals as goal

pub returns : goal.returns
returns c =
    let w = finish c.args.sheet.now c.args.out.now c.copy_to.new.out _ c.ok_or.result c.copy_to.result (sym c.in_ok-check_sheet.ensures) c.line_of.ensures.hours c.line_of.ensures.text c.ok_or.ensures.value c.copy_to.ensures.value c.copy_to.ensures.memory in
    record { value = w.value; memory = w.memory; reads_back = w.back }
