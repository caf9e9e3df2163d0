use Rattle.std.proofs.Common.{◌≡◌, ℕ, List, [], ◌∷◌, ◌++◌, take, refl, ap, ◌∙◌, append_assoc, arith, w64, SFits, rules}
use Rattle.std.specs.Prelude.{decimal}
use Rattle.std.specs.Fmt.{signed_decimal}
use Rattle.tariff.specs.Charges.{charge_number}
use Rattle.tariff.specs.Statements.{letters_of}
use Rattle.text.specs.Laws.{marked}
use Rattle.std.proofs.lemmas.List.{take_all}
use Rattle.std.proofs.lemmas.Int.{to_z-of_z}
use Rattle.text.specs.Texts.{text_of}
use Rattle.text.proofs.Room.{room_more}
use Rattle.listing.specs.Rows.{line_text}
use Rattle.listing.proofs.Rows.{value_more, line_short}
use Rattle.listing.proofs.row.line_text.Goals as goal

cons_append : (x : ℕ) (xs ys : List ℕ) → (x ∷ xs) ++ ys ≡ x ∷ (xs ++ ys)
cons_append x xs ys = refl

-- the values as they are pushed, one behind another, and as a row
joined : (a b c d e f g h i : List ℕ) →
    ((((((((((a ++ 124 ∷ b) ++ 124 ∷ c) ++ 124 ∷ d) ++ 124 ∷ e) ++ 124 ∷ []) ++ f) ++ 124 ∷ g) ++ 124 ∷ h) ++ 124 ∷ i) ++ 10 ∷ [])
    ≡ marked 124 (a ∷ b ∷ c ∷ d ∷ e ∷ f ∷ g ∷ h ∷ i ∷ []) ++ 10 ∷ []
joined a b c d e f g h i = simp (append_assoc, cons_append)

pub returns : goal.returns
returns c =
    let l = c.args.line.now in
    let cents-fit : SFits w64 l.cents = search rules in
    let letters = room_more 256 [] c.letters.result.now _ _ c.new-text.ensures c.push_bytes.ensures ∙ ap (take 256) c.letters.ensures in
    let point = value_more _ _ _ _ _ letters c.push_value.ensures c.from.ensures in
    let charge = value_more _ _ _ _ _ point c.push_value-2.ensures (c.from-2.ensures ∙ c.number.ensures) in
    let customer = value_more _ _ _ _ _ charge c.push_value-3.ensures c.from-3.ensures in
    let transmitter = value_more _ _ _ _ _ customer c.push_value-4.ensures c.from-4.ensures in
    let bar = room_more 256 _ (124 ∷ []) _ _ transmitter c.push.ensures in
    let cents = room_more 256 _ (signed_decimal l.cents) _ _ bar (c.push_signed.ensures ∙ ap (λ z. take 256 (text_of c.push.new.self ++ signed_decimal z)) (to_z-of_z w64 l.cents cents-fit)) in
    let quantity = value_more _ l.quantity _ _ _ cents c.push_value-5.ensures refl in
    let day = value_more _ _ _ _ _ quantity c.push_value-6.ensures c.from-5.ensures in
    let hour = value_more _ _ _ _ _ day c.push_value-7.ensures c.from-6.ensures in
    let whole = room_more 256 _ (10 ∷ []) _ _ hour c.push-2.ensures in
    let row : text_of c.push-2.new.self ≡ take 256 (line_text l) =
    whole ∙ ap (take 256) (joined (letters_of l.statement) (decimal l.point) (decimal (charge_number l.charge)) (decimal l.customer.number) (decimal l.transmitter.number) (signed_decimal l.cents) (decimal l.quantity) (decimal l.day) (decimal l.hour)) in
    row ∙ take_all 256 (line_text l) (line_short l (record {
      point = omega arith;
      customer = omega arith;
      transmitter = omega arith;
      cents = cents-fit.sfits;
      quantity = omega arith;
      day = omega arith;
      hour = omega arith;
    }))
