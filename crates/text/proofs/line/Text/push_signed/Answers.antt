use Rattle.std.proofs.Common.{◌≡◌, true, false, [], ◌∷◌, ◌++◌, take, pos, nat_abs, decimal, sym, ap, ◌∙◌, append_assoc, w64}
use lib.Signed.{lt_z}
use Rattle.std.proofs.lemmas.Int.{to_z-of_z}
use Rattle.text.specs.Texts.{text_of}
use Rattle.text.proofs.Numbers.{signed_negative, signed_natural}
use Rattle.text.proofs.Room.{room_more}
use Rattle.text.proofs.line.Text.push_signed.Goals as goal
use Rattle.text.proofs.line.Text.push_signed.Goals.{then-v-lt0, else-v-lt0}

pub returns : goal.returns
returns c =
    let v = c.args.v in
    let same = to_z-of_z w64 v c.ranges.v in
    let digits = ap decimal (c.unsigned_abs.ensures.value ∙ ap nat_abs same) in
    let was = text_of c.args.self.now in
    elim c.if-v-lt0.branch [
      | then-v-lt0 w ↦
          let below : lt_z v (pos 0) ≡ true = ap (λ z. lt_z z (pos 0)) (sym same) ∙ w.if-v-lt0.true in
          room_more 256 (was ++ 45 ∷ []) (decimal c.unsigned_abs.result) _ _ (ap text_of w.self-is ∙ w.push.ensures) c.push_number.ensures
          ∙ ap (take 256) (append_assoc was (45 ∷ []) _ ∙ ap (λ l. was ++ 45 ∷ l) digits ∙ ap (λ l. was ++ l) (sym (signed_negative v below)))
      | else-v-lt0 w ↦
          let from_zero : lt_z v (pos 0) ≡ false = ap (λ z. lt_z z (pos 0)) (sym same) ∙ w.if-v-lt0.false in
          c.push_number.ensures
          ∙ ap (λ l. take 256 (l ++ decimal c.unsigned_abs.result)) (ap text_of w.self-is)
          ∙ ap (λ l. take 256 (was ++ l)) (digits ∙ sym (signed_natural v from_zero))
    ]
