-- What the first place without a sheet says of the others.
use Rattle.std.proofs.Common.{◌≡◌, ℕ, true, is_some, Some, None, Option, sym, ◌∙◌}
use Rattle.tariff.specs.declared.refusal.Refusal.{Refusal}
use Rattle.tariff.specs.declared.refusal.Refusal.TheVariants.{SheetMissing}
use Rattle.readings.specs.Meaning.{Sheets}
use Rattle.readings.specs.Missing.{first_of, no_sheet, first_missing, Complete, MissingAt, FirstMissing}
use Rattle.readings.specs.Options.{from_none, from_failed, none_from}
use Rattle.readings.proofs.Firsts.{none_before, first_some}

has_sheet : (sheets : Sheets) (p d : ℕ) → no_sheet sheets p d ≡ None → is_some (sheets p d) ≡ true
has_sheet sheets p d e = (from_none (is_some (sheets p d)) None (SheetMissing p d) e).0

all_days : (sheets : Sheets) (days p : ℕ) → first_of (no_sheet sheets p) days ≡ None → Complete sheets days p
all_days sheets days p e d low high = has_sheet sheets p d (none_before (no_sheet sheets p) days d e low high)

module _ (sheets : Sheets) (points days : ℕ) where
  found : (x : Refusal) → first_missing sheets points days ≡ Some x → (p : ℕ) × (d : ℕ) × (x ≡ SheetMissing p d) × MissingAt sheets points days p d
  found x e =
      let (p, p1, pn, at_p, points-before) = first_some (λ p. first_of (no_sheet sheets p) days) points x e in
      let (d, d1, dn, at-d, days-before) = first_some (no_sheet sheets p) days x at_p in
      let (gone, is) = from_failed (is_some (sheets p d)) (SheetMissing p d) x at-d in (
        p,
        d,
        sym is,
        record {
          point = (p1, pn);
          day = (d1, dn);
          absent = none_from (sheets p d) gone;
          earlier_points = λ q low high. all_days sheets days q (points-before q low high);
          earlier_days = λ e low high. has_sheet sheets p e (days-before e low high);
        },
      )

  moved : (p d q e : ℕ) → SheetMissing p d ≡ SheetMissing q e → MissingAt sheets points days q e → MissingAt sheets points days p d
  moved p d q e is at =
      let same_point : p ≡ q = cc in
      let same-day : d ≡ e = cc in
      rw (same_point, same-day) at

  pub first_missing_is : (r : Option Refusal) → r ≡ first_missing sheets points days → FirstMissing sheets points days r
  first_missing_is r value = record {
    complete = λ none p low high. all_days sheets days p (none_before (λ q. first_of (no_sheet sheets q) days) points p (sym value ∙ none) low high);
    missing = λ p d some.
        let (q, e, is, at) = found (SheetMissing p d) (sym value ∙ some) in
        moved p d q e is at;
    nothing_else = λ x some. let (p, d, is, _) = found x (sym value ∙ some) in (p, d, is);
  }
