use Rattle.std.proofs.Common.{◌≡◌, [], ◌∷◌, ◌++◌, get_or, take, decimal, sym, ap, ◌∙◌, append_assoc, append-nil, arith}
use Rattle.std.proofs.lemmas.List.{take_all}
use Rattle.tariff.specs.declared.reading.Reading.TheVariants.{Withdrawal}
use Rattle.text.proofs.Room.{room_more}
use Rattle.sheet_file.specs.Writing.{reading_text, hours_text}
use Rattle.sheet_file.proofs.Lengths.{hours_more}
use Rattle.sheet_file.proofs.writer.line_of.Goals as goal

pub loop-reading-init : goal.loop-reading-init
loop-reading-init c =
    let p = c.from.result in
    let d = c.from-2.result in
    let point = decimal c.args.sheet.now.point in
    let day = decimal c.args.sheet.now.day in
    let one = room_more 256 [] (decimal p) _ _ c.new-text.ensures c.push_number.ensures in
    let two = room_more 256 (decimal p) (124 ∷ []) _ _ one c.push.ensures in
    room_more 256 (decimal p ++ 124 ∷ []) (decimal d) _ _ two c.push_number-2.ensures
    ∙ ap (λ n. take 256 ((decimal n ++ 124 ∷ []) ++ decimal d)) c.from.ensures
    ∙ ap (λ n. take 256 ((point ++ 124 ∷ []) ++ decimal n)) c.from-2.ensures
    ∙ ap (take 256) (append_assoc point (124 ∷ []) day ∙ sym (append-nil (point ++ 124 ∷ day)))

pub loop-reading-preserved : goal.loop-reading-preserved
loop-reading-preserved c =
    let rs = c.args.sheet.now.readings in
    let i = c.loop-reading.reading-index in
    let x = get_or rs i (Withdrawal 0) in
    let head = decimal c.args.sheet.now.point ++ 124 ∷ decimal c.args.sheet.now.day in
    room_more 256 (head ++ hours_text (take i rs)) (124 ∷ reading_text x) _ _ c.loop-reading.invariant c.push_reading.ensures
    ∙ ap (take 256) (hours_more head rs i (Withdrawal 0) (omega arith))

pub returns : goal.returns
returns c =
    let rs = c.args.sheet.now.readings in
    let i = c.loop-reading.reading-index in
    let head = decimal c.args.sheet.now.point ++ 124 ∷ decimal c.args.sheet.now.day in
    let all : take i rs ≡ rs = take_all i rs (omega arith) in
    record {
      text = room_more 256 (head ++ hours_text rs) (10 ∷ []) _ _ (c.loop-reading.invariant ∙ ap (λ l. take 256 (head ++ hours_text l)) all) c.push-2.ensures;
      hours = omega arith;
    }
