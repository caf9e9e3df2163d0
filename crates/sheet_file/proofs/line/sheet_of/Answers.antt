use Rattle.std.proofs.Common.{◌≡◌, length, arith}
use Rattle.sheet_file.specs.Values.{values}
use Rattle.sheet_file.proofs.Hours.{hours_long}
use Rattle.sheet_file.proofs.line.sheet_of.Goals as goal

pub readings_of-requires : goal.readings_of-requires
readings_of-requires c =
    let long : length (values c.args.text.now) ≡ 26 = omega (arith, c.count_marks.ensures.count) in
    hours_long c.args.text.now _ _ _ _ long c.cut.ensures.front c.cut.ensures.back c.cut-2.ensures.front c.cut-2.ensures.back
