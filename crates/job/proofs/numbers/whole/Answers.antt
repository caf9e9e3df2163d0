use Rattle.std.proofs.Common.{◌≡◌, ◌+◌, ◌-◌, ◌*◌, ◌<◌, min, true, ltb, length, get_or, drop, Some, sym, ap, ◌∙◌, arith}
use Rattle.std.specs.Str.{all_ascii_digits}
use Rattle.std.proofs.lemmas.List.{at_drop_more, at_drop_all}
use Rattle.std.proofs.lemmas.Bool.{eqb-false, cond-true, cond-false, and_from, and_right, lt-ltb}
use Rattle.text.specs.Format.{read_on}
use Rattle.text.proofs.Numbers.{digits_end, digits_more}
use Rattle.job.proofs.Capping.{read_capped}
use Rattle.job.proofs.numbers.whole.Goals as goal

pub returns-then-not-is_ascii_digit : goal.returns-then-not-is_ascii_digit
returns-then-not-is_ascii_digit c =
    let xs = c.args.text.now in
    sym (cond-false _ _ _ (and_right (ltb 0 (length xs)) (all_ascii_digits xs) (digits_end xs _ c.loop-b-test.true c.loop-b.invariant.0 c.if-not-is_ascii_digit.ensures.value)))

pub loop-b-preserved : goal.loop-b-preserved
loop-b-preserved c =
    let xs = c.args.text.now in
    let i = c.loop-b.b-index in
    let n = c.loop-b.n in
    let rest = drop (i + 1) xs in
    let digit = get_or xs i 0 - 48 in
    let capped : c.saturating_add-n.result ≡ min (10 * n + digit) 4294967295 = omega (arith, c.saturating_mul.ensures, c.from.ensures, c.saturating_add-n.ensures) in (
      digits_more xs _ c.loop-b-test.true c.loop-b.invariant.0 c.if-not-is_ascii_digit.ensures.value,
      ap (λ m. min (read_on m rest) 4294967295) capped
          ∙ read_capped 4294967295 (10 * n + digit) rest
          ∙ ap (λ m. min m 4294967295) (sym (at_drop_more (read_on n) xs i 0 c.loop-b-test.true))
          ∙ c.loop-b.invariant.1,
      omega (arith, capped),
    )

pub returns : goal.returns
returns c =
    let xs = c.args.text.now in
    let i = c.loop-b.b-index in
    let n = c.loop-b.n in
    let all : all_ascii_digits xs ≡ true = sym c.loop-b.invariant.0 ∙ at_drop_all all_ascii_digits xs i (omega arith) in
    let read : n ≡ min (read_on 0 xs) 4294967295 =
    omega (arith, ap (λ m. min m 4294967295) (at_drop_all (read_on n) xs i (omega arith)), c.loop-b.invariant.1) in
    let some : 0 < length xs = omega (arith, eqb-false (length xs) 0 (sym c.if-is_empty.ensures)) in
    ap Some read ∙ sym (cond-true _ _ _ (and_from _ _ (lt-ltb 0 (length xs) some) all))
