use Rattle.std.proofs.Common.{◌≡◌, ℕ, Bool, true, false, cond, ◌&&◌, eqb, refl, subst}
use Rattle.std.proofs.lemmas.Bool.{true≢false, and_parts, and_right, eqb-true}
use Rattle.demand.specs.Peaks.{best_of_day, peak_over}
use Rattle.dues.specs.Dues.{determinant_of, due_of, point_dues}
use Rattle.records.specs.Books.{book_latest}
use Rattle.month.proofs.worked.worked_month.Goals as goal

-- a later entry at a place stands over an earlier one
over : {X : Type 0} (b : Bool) (x y z : X) → cond b x (cond b y z) ≡ cond b x z
over true x y z = refl
over false x y z = refl

-- entries at two places may come in either order
either_order : {X : Type 0} (a b : Bool) (x y z : X) → (a ≡ true → b ≡ false) → cond a x (cond b y z) ≡ cond b y (cond a x z)
either_order true true x y z apart = elim (true≢false (apart refl)) [ ]
either_order true false x y z apart = refl
either_order false b x y z apart = refl

-- no entry is from two days
two_days : (p d : ℕ) → (eqb 1 p && eqb 8521 d) ≡ true → (eqb 1 p && eqb 8500 d) ≡ false
two_days p d e = subst (λ n. (eqb 1 p && eqb 8500 n) ≡ false) (eqb-true 8521 d (and_parts (eqb 1 p) (eqb 8521 d) e).1) (and_right (eqb 1 p) false refl)

pub returns : goal.returns
unfolding best_of_day peak_over determinant_of due_of point_dues book_latest
returns c = (
  refl,
  record {
    bare = record { sheets = λ p d. refl; customers = refl; transmitters = refl; service = refl; rates = refl; ledger = refl };
    takes = refl;
    first_issue = refl;
    second_issue = refl;
    third_issue = refl;
    charged = refl;
    taken_back = refl;
    new_owner = refl;
    sound_histories = refl;
    entries = refl;
    sound_lines = refl;
    lines = refl;
    bare_too = record { sheets = λ p d. refl; customers = refl; transmitters = refl; service = refl; rates = refl; ledger = refl };
    alike = record { kinds = refl; days = refl; first = refl; admits = λ d h i. refl };
    same_met = record {
      sheets = λ p d. over (eqb p 1 && eqb d 1) _ _ _;
      customers = λ p d. either_order (eqb 1 p && eqb 8521 d) (eqb 1 p && eqb 8500 d) _ _ _ (two_days p d);
      transmitters = λ p d. refl;
      service = λ p d. refl;
      rates = λ p d. refl;
    };
  },
)
