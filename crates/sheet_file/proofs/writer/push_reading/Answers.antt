use Rattle.std.proofs.Common.{◌≡◌, [], ◌∷◌, ◌++◌, take, decimal, sym, ap, ◌∙◌, append_assoc}
use Rattle.text.specs.Texts.{text_of}
use Rattle.text.proofs.Room.{room_more}
use Rattle.sheet_file.specs.Writing.{reading_text}
use Rattle.sheet_file.proofs.writer.push_reading.Goals as goal
use Rattle.sheet_file.proofs.writer.push_reading.Goals.{in-Withdrawal, in-Injection}

pub returns : goal.returns
returns c =
    let was = text_of c.args.text.now in
    let letter = c.match-reading.letter.0 in
    let q = c.from.result in
    let is : letter ∷ decimal q ≡ reading_text c.args.reading = ap (λ n. letter ∷ decimal n) c.from.ensures ∙ elim c.match-reading.branch [
      | in-Withdrawal w ↦ ap (λ p. p.0 ∷ decimal p.1) w.letter-is ∙ sym (ap reading_text w.in-Withdrawal.is)
      | in-Injection w ↦ ap (λ p. p.0 ∷ decimal p.1) w.letter-is ∙ sym (ap reading_text w.in-Injection.is)
    ] in
    let both = room_more 256 (was ++ 124 ∷ []) (letter ∷ []) _ _ c.push.ensures c.push-2.ensures in
    room_more 256 ((was ++ 124 ∷ []) ++ letter ∷ []) (decimal q) _ _ both c.push_number.ensures
    ∙ ap (take 256) (append_assoc (was ++ 124 ∷ []) (letter ∷ []) (decimal q) ∙ append_assoc was (124 ∷ []) (letter ∷ decimal q) ∙ ap (λ l. was ++ (124 ∷ l)) is)
