use Rattle.std.proofs.Common.{[], ◌∷◌, ◌++◌, take, decimal, ap, ◌∙◌, append_assoc}
use Rattle.text.specs.Texts.{text_of}
use Rattle.text.proofs.Room.{room_more}
use Rattle.listing.proofs.row.push_value.Goals as goal

pub returns : goal.returns
returns c =
    let was = text_of c.args.text.now in
    let digits = decimal c.args.n in
    room_more 256 (was ++ 124 ∷ []) digits _ _ c.push.ensures c.push_number.ensures ∙ ap (take 256) (append_assoc was (124 ∷ []) digits)
