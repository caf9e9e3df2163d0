-- A written line is read as the sheet that was written.
use Rattle.std.proofs.Common.{◌≡◌, ℕ, ◌+◌, false, eqb, List, [], ◌∷◌, ◌++◌, map, length, take, drop, Some, None, Ok, decimal, Option, Result, sym, refl, ap, ◌∙◌, subst, append_assoc, append-nil, arith}
use Rattle.std.specs.Option.{option_map, ok_or}
use Rattle.std.specs.Result as results
use Rattle.std.specs.Char.{is_ascii_digit}
use Rattle.std.specs.List.{AllByRecursion}
use Rattle.std.proofs.ByRecursion.{All-append}
use Rattle.std.proofs.lemmas.List.{length-map, take_all, take_at}
use Rattle.std.proofs.lemmas.Bool.{cond-true, eq-eqb}
use Rattle.tariff.specs.Readings.{Allowed}
use Rattle.tariff.specs.Sheets.{judged}
use Rattle.tariff.specs.declared.reading.Reading.{Reading}
use Rattle.tariff.specs.declared.reading.Reading.TheVariants.{Withdrawal, Injection}
use Rattle.tariff.specs.declared.reading.Sheet.{Sheet}
use Rattle.tariff.specs.declared.refusal.Refusal.{Refusal}
use Rattle.tariff.specs.declared.refusal.Refusal.TheVariants.{TextTooShort}
use Rattle.text.specs.Format.{lines}
use Rattle.text.specs.Laws.{Free}
use Rattle.text.specs.Texts.{fitting, overlay}
use Rattle.text.proofs.Lines.{lines_line}
use Rattle.text.proofs.Numbers.{free_decimal, number_back}
use Rattle.text.proofs.Parts.{parts_first, parts_last}
use Rattle.text.proofs.Room.{length_fitting}
use Rattle.sheet_file.specs.Values.{values, reading_of}
use Rattle.sheet_file.specs.Sheets.{and_then, readings_from, sheet_from, sheet_of, file_fault_at}
use Rattle.sheet_file.specs.Files.{outcomes}
use Rattle.sheet_file.specs.Writing.{reading_text, hours_text, sheet_text, sheet_line, written, memory_after, ReadsBack}
use Rattle.sheet_file.proofs.Hours.{all_read}
use Rattle.sheet_file.proofs.Replies.{part_from_okOr}
use Rattle.sheet_file.proofs.Lengths.{Small, small_from_judged, line_short}

values_hours : (v : List ℕ) (rs : List Reading) → Free 124 v → AllByRecursion (λ r. Free 124 (reading_text r)) rs → values (v ++ hours_text rs) ≡ v ∷ map reading_text rs
values_hours v [] f g = ap values (append-nil v) ∙ parts_last 124 v f
values_hours v (r ∷ rs) f g =
    parts_first 124 v (reading_text r ++ hours_text rs) f ∙ ap (λ l. v ∷ l) (values_hours (reading_text r) rs g.0 g.1)

free_reading : (m : ℕ) (r : Reading) → is_ascii_digit m ≡ false → (87 ≡ m → ⊥) → (73 ≡ m → ⊥) → Allowed r → Free m (reading_text r)
free_reading m (Withdrawal q) other w i h = (w, free_decimal m q other (omega arith))
free_reading m (Injection q) other w i h = (i, free_decimal m q other (omega arith))

reading_back : (r : Reading) → Allowed r → reading_of (reading_text r) ≡ Some r
reading_back (Withdrawal q) h = ap (option_map Withdrawal) (number_back 8 q (omega arith) (omega arith) (omega arith))
reading_back (Injection q) h = ap (option_map Injection) (number_back 8 q (omega arith) (omega arith) (omega arith))

readings_back : (p : ℕ) (rs : List Reading) → AllByRecursion Allowed rs → readings_from p (map reading_text rs) ≡ Ok rs
readings_back p [] h = refl
readings_back p (r ∷ rs) h =
    ap (λ o. and_then (ok_or o p) (λ x. and_then (readings_from (p + 1) (map reading_text rs)) (λ xs. Ok (x ∷ xs)))) (reading_back r h.0)
    ∙ ap (λ x. and_then x (λ xs. Ok (r ∷ xs))) (readings_back (p + 1) rs h.1)

free_readings : (m : ℕ) (rs : List Reading) → is_ascii_digit m ≡ false → (87 ≡ m → ⊥) → (73 ≡ m → ⊥) → AllByRecursion Allowed rs → AllByRecursion (λ r. Free m (reading_text r)) rs
free_readings m [] other w i h = tt
free_readings m (r ∷ rs) other w i h = (free_reading m r other w i h.0, free_readings m rs other w i h.1)

free_hours : (m : ℕ) (rs : List Reading) → (124 ≡ m → ⊥) → AllByRecursion (λ r. Free m (reading_text r)) rs → Free m (hours_text rs)
free_hours m [] b f = tt
free_hours m (r ∷ rs) b f = (b, All-append (λ c. c ≡ m → ⊥) (reading_text r) (hours_text rs) f.0 (free_hours m rs b f.1))

module _ (s : Sheet) (small : Small s) (long : length s.readings ≡ 24) where
  values_text : values (sheet_text s) ≡ decimal s.point ∷ decimal s.day ∷ map reading_text s.readings
  values_text =
      ap values (append_assoc (decimal s.point) (124 ∷ decimal s.day) (hours_text s.readings))
      ∙ parts_first 124 (decimal s.point) (decimal s.day ++ hours_text s.readings) (free_decimal 124 s.point refl (omega (arith, small.point)))
      ∙ ap (λ l. decimal s.point ∷ l) (values_hours (decimal s.day) s.readings (free_decimal 124 s.day refl (omega (arith, small.day))) (free_readings 124 s.readings refl (λ e. omega arith) (λ e. omega arith) small.quantities))

  sheet_back : sheet_of (values (sheet_text s)) ≡ Ok s
  sheet_back =
      let all : length (values (sheet_text s)) ≡ 26 = omega (arith, ap length values_text, length-map s.readings reading_text) in
      cond-true (eqb (length (values (sheet_text s))) 26) _ _ (eq-eqb _ 26 all)
      ∙ ap sheet_from values_text
      ∙ all_read (decimal s.point) (decimal s.day) (map reading_text s.readings) s.point s.day s.readings (number_back 9 s.point (omega arith) (omega (arith, small.point)) (omega (arith, small.point))) (number_back 2 s.day (omega arith) (omega (arith, small.day)) (omega (arith, small.day))) (readings_back 3 s.readings small.quantities)

  free_text : Free 10 (sheet_text s)
  free_text =
      let P : ℕ → Type 0 = λ c. c ≡ 10 → ⊥ in
      All-append P (decimal s.point ++ 124 ∷ decimal s.day) (hours_text s.readings)
      (All-append P (decimal s.point) (124 ∷ decimal s.day) (free_decimal 10 s.point refl (omega (arith, small.point))) (λ e. omega arith, free_decimal 10 s.day refl (omega (arith, small.day))))
      (free_hours 10 s.readings (λ e. omega arith) (free_readings 10 s.readings refl (λ e. omega arith) (λ e. omega arith) small.quantities))

  line_back : (n : ℕ) (rest : List ℕ) → outcomes n (lines (sheet_line s ++ rest)) ≡ Ok s ∷ outcomes (n + 1) (lines rest)
  line_back n rest =
      ap (λ l. outcomes n (lines l)) (append_assoc (sheet_text s) (10 ∷ []) rest)
      ∙ ap (outcomes n) (lines_line (sheet_text s) rest free_text)
      ∙ ap (λ r. results.result_map_both (λ x. x) (file_fault_at (n + 1)) r ∷ outcomes (n + 1) (lines rest)) sheet_back

-- what `write_sheet` ensures
pub record Wrote (s : Sheet) (out out' : List ℕ) (r : Result ℕ Refusal) : Type 0 where
  pub value : r ≡ written s (length out)
  pub memory : out' ≡ memory_after r s out
  pub back : ReadsBack r s out'

-- where a line was copied, it stands in front
copied_back : (s : Sheet) (out out' : List ℕ) (o : Option ℕ) → Small s → length s.readings ≡ 24 → o ≡ fitting (sheet_line s) (length out) → out' ≡ overlay o (sheet_line s) out → ReadsBack (ok_or o TextTooShort) s out'
copied_back s out out' None small long is put = tt
copied_back s out out' (Some n) small long is put = λ line rest.
    let same = length_fitting (sheet_line s) (length out) n is in
    ap (λ l. outcomes line (lines (l ++ rest))) (ap (take n) put ∙ take_at (sheet_line s) (drop n out) n same) ∙ line_back s small long line rest

pub finish : (s : Sheet) (out out' text : List ℕ) (r : Result ℕ Refusal) (o : Option ℕ) → judged 400 31 s ≡ Ok tt → length s.readings ≡ 24 → text ≡ take 256 (sheet_line s) → r ≡ ok_or o TextTooShort → o ≡ fitting text (length out) → out' ≡ overlay o text out → Wrote s out out' r
finish s out out' text r o ok long is-text is value put =
    let small = small_from_judged s ok in
    let whole : text ≡ sheet_line s = is-text ∙ take_all 256 (sheet_line s) (omega (arith, line_short s small long)) in
    let fits : o ≡ fitting (sheet_line s) (length out) = value ∙ ap (λ l. fitting l (length out)) whole in
    let copied : out' ≡ overlay o (sheet_line s) out = put ∙ ap (λ l. overlay o l out) whole in
    record {
      value = is ∙ ap (λ x. ok_or x TextTooShort) fits ∙ ap (λ j. and_then j (λ _. ok_or (fitting (sheet_line s) (length out)) TextTooShort)) (sym ok);
      memory = copied ∙ ap (λ x. overlay x (sheet_line s) out) (sym (ap results.result_ok is ∙ part_from_okOr o TextTooShort));
      back = subst (λ x. ReadsBack x s out') (sym is) (copied_back s out out' o small long fits copied);
    }
