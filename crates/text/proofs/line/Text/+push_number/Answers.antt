use Rattle.std.proofs.Common.{◌≡◌, ◌+◌, ◌/◌, ◌%◌, ◌<◌, [], ◌∷◌, ◌++◌, take, decimal, sym, ap, ◌∙◌, append_assoc, arith}
use Rattle.std.proofs.lemmas.Fmt.{decimal_digit, decimal_step}
use Rattle.text.specs.Texts.{text_of}
use Rattle.text.proofs.Room.{room_more}
use Rattle.text.proofs.line.Text.+push_number.Goals as goal
use Rattle.text.proofs.line.Text.+push_number.Goals.{then-n-ge10, else-n-ge10}

pub returns : goal.returns
returns t c =
    let n = c.args.n in
    let was = text_of c.args.self.now in
    elim c.if-n-ge10.branch [
      | then-n-ge10 w ↦
          let step = decimal_step n (omega (arith, w.if-n-ge10.true)) (omega arith) in
          room_more 256 (was ++ decimal (n / 10)) ((48 + n % 10) ∷ []) _ _ (ap text_of w.self-is ∙ w.push_number.ensures) c.push.ensures
          ∙ ap (take 256) (append_assoc was (decimal (n / 10)) _ ∙ ap (λ l. was ++ l) (sym step))
      | else-n-ge10 w ↦
          let low : n < 10 = omega (arith, w.if-n-ge10.false) in
          let same : n % 10 ≡ n = omega arith in
          c.push.ensures
          ∙ ap (λ l. take 256 (l ++ (48 + n % 10) ∷ [])) (ap text_of w.self-is)
          ∙ ap (λ l. take 256 (was ++ l)) (ap (λ d. (48 + d) ∷ []) same ∙ sym (decimal_digit n low))
    ]
