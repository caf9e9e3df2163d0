use Rattle.std.proofs.Common.{◌≡◌, ◌++◌, take}
use Rattle.text.specs.Texts.{text_of}
use Rattle.text.proofs.line.Text.push_bytes.Given as goal

abbrev pub invariant-loop-b : goal.invariant-loop-b
invariant-loop-b l = text_of l.self ≡ take 256 (text_of l.initial.self ++ take l.b-index l.part)
