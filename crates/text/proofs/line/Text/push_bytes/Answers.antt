use Rattle.std.proofs.Common.{[], ◌∷◌, ◌++◌, get_or, take, sym, ap, ◌∙◌, append_assoc, append-nil, arith}
use Rattle.std.proofs.lemmas.List.{length-take-le, take_all, take_more}
use Rattle.text.specs.Texts.{text_of}
use Rattle.text.proofs.Room.{room_more}
use Rattle.text.proofs.line.Text.push_bytes.Goals as goal

pub loop-b-init : goal.loop-b-init
loop-b-init c =
    let text = c.args.self.now in
    sym (ap (take 256) (append-nil (text_of text)) ∙ take_all 256 (text_of text) (omega (arith, length-take-le text.bytes.count text.bytes.places (omega arith))))

pub loop-b-preserved : goal.loop-b-preserved
loop-b-preserved c =
    let was = text_of c.args.self.now in
    let part = c.args.part.now in
    let i = c.loop-b.b-index in
    room_more 256 (was ++ take i part) (get_or part i 0 ∷ []) _ _ c.loop-b.invariant c.push.ensures
    ∙ ap (take 256) (append_assoc was (take i part) _ ∙ ap (λ l. was ++ l) (sym (take_more part i 0 (omega arith))))
