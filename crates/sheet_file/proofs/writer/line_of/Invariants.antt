use Rattle.std.proofs.Common.{◌≡◌, ◌∷◌, ◌++◌, take, decimal}
use Rattle.text.specs.Texts.{text_of}
use Rattle.sheet_file.specs.Writing.{hours_text}
use Rattle.sheet_file.proofs.writer.line_of.Given as goal

abbrev pub invariant-loop-reading : goal.invariant-loop-reading
invariant-loop-reading l =
    text_of l.text ≡ take 256 ((decimal l.sheet.point ++ 124 ∷ decimal l.sheet.day) ++ hours_text (take l.reading-index l.sheet.readings))
