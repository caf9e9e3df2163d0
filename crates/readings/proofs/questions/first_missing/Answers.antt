use Rattle.std.proofs.Common.{◌≡◌, ℕ, Some, None, Option, sym, ap, ◌∙◌, arith}
use Rattle.tariff.specs.declared.refusal.Refusal.{Refusal}
use Rattle.readings.specs.Missing.{first_of, no_sheet, first_missing}
use Rattle.readings.proofs.Firsts.{first_none, first_found}
use Rattle.readings.proofs.Missing.{first_missing_is}
use Rattle.readings.proofs.questions.first_missing.Goals as goal

pub returns-in-Some : goal.returns-in-Some
returns-in-Some g c =
    let sheets = (g.R.Readings.meaning c.args.readings.now).sheets in
    let f : ℕ → Option Refusal = λ p. first_of (no_sheet sheets p) c.args.days in
    let is : Some c.in-Some.refusal ≡ first_missing sheets c.args.points c.args.days =
    sym (first_found f c.loop-k.k c.args.points c.in-Some.refusal (omega arith) c.loop-k.invariant (sym c.in-Some.ensures)) in
    record { value = is; first = first_missing_is sheets c.args.points c.args.days (Some c.in-Some.refusal) is }

pub loop-k-preserved : goal.loop-k-preserved
loop-k-preserved g c =
    let f : ℕ → Option Refusal = λ p. first_of (no_sheet (g.R.Readings.meaning c.args.readings.now).sheets p) c.args.days in
    first_none f c.loop-k.k c.loop-k.invariant (sym c.in_default.ensures)

pub returns : goal.returns
returns g c =
    let sheets = (g.R.Readings.meaning c.args.readings.now).sheets in
    let all : c.loop-k.k ≡ c.args.points = omega arith in
    let is : None ≡ first_missing sheets c.args.points c.args.days = sym c.loop-k.invariant ∙ ap (λ n. first_missing sheets n c.args.days) all in
    record { value = is; first = first_missing_is sheets c.args.points c.args.days None is }
