-- The ranges of a list, taken part by part, and the days that they name.
use Rattle.std.proofs.Common.{◌≡◌, ℕ, Bool, true, false, ◌||◌, List, [], ◌∷◌, ◌++◌, Some, None, Option, sym, refl, ap, ◌∙◌, ap₂, append_assoc}
use lib.Bits.{bit_or, or_lt}
use Rattle.std.specs.Option.{option_map}
use Rattle.calendar.specs.Marks.{MarksJust}
use Rattle.calendar.proofs.Masks.{marked_or}
use Rattle.job.specs.declared.days.DayRange.{DayRange}
use Rattle.job.specs.Days.{bind, range_of, ranges_of, names, named}

or_assoc : (a b c : Bool) → ((a || b) || c) ≡ (a || (b || c))
or_assoc true b c = refl
or_assoc false b c = refl

named_push : (rs : List DayRange) (r : DayRange) (d : ℕ) → named (rs ++ r ∷ []) d ≡ (named rs d || names r d)
named_push [] r d = or_false (names r d)
  where
    or_false : (b : Bool) → (b || false) ≡ b
    or_false true = refl
    or_false false = refl
named_push (x ∷ rs) r d = ap (λ b. names x d || b) (named_push rs r d) ∙ sym (or_assoc (names x d) (named rs d) (names r d))

-- the ranges of a list are those so far and those of the parts that are left
pub record SoFar (all left : List (List ℕ)) (mask : ℕ) : Type 0 where
  pub ranges : List DayRange
  pub whole : ranges_of all ≡ option_map (λ more. ranges ++ more) (ranges_of left)
  pub marks : MarksJust 32 (named ranges) mask

push_step : (rs : List DayRange) (r : DayRange) (o : Option (List DayRange)) → option_map (λ more. rs ++ more) (bind o (λ ms. Some (r ∷ ms))) ≡ option_map (λ more. (rs ++ r ∷ []) ++ more) o
push_step rs r None = refl
push_step rs r (Some ms) = ap Some (sym (append_assoc rs (r ∷ []) ms))

module _ (all left rest : List (List ℕ)) (part : List ℕ) (mask : ℕ) (so_far : SoFar all left mask) (next : left ≡ part ∷ rest) where
  pub one_more : (r : DayRange) (days : ℕ) → range_of part ≡ Some r → MarksJust 32 (names r) days → SoFar all rest (bit_or mask days)
  one_more r days is marks =
      let rs = so_far.ranges in
      record {
        ranges = rs ++ r ∷ [];
        whole =
            so_far.whole
            ∙ ap (λ l. option_map (λ more. rs ++ more) (ranges_of l)) next
            ∙ ap (λ o. option_map (λ more. rs ++ more) (bind o (λ x. bind (ranges_of rest) (λ ms. Some (x ∷ ms))))) is
            ∙ push_step rs r (ranges_of rest);
        marks =
            record {
              fits = or_lt 32 mask days so_far.marks.fits marks.fits;
              days = λ d low high. marked_or mask days d ∙ ap₂ ◌||◌ (so_far.marks.days d low high) (marks.days d low high) ∙ sym (named_push rs r d);
            };
      }
