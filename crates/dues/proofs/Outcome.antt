-- What comes of a month.
use Rattle.std.proofs.Common.{◌≡◌, ℕ, Bool, true, false, cond, ◌&&◌, List, length, is_err, IfOk, Some, None, Ok, Err, Option, Result, sym, refl, ap, ◌∙◌, arith}
use Rattle.std.specs.Result.{result_map_both}
use Rattle.std.proofs.lemmas.Bool.{false≢true}
use Rattle.tariff.specs.declared.parties.Rates.{Rates}
use Rattle.tariff.specs.declared.refusal.Refusal.{Refusal}
use Rattle.tariff.specs.declared.refusal.Refusal.TheVariants.{Unsound}
use Rattle.demand.specs.Peaks.{Triple}
use Rattle.ledger.specs.Lines.{every}
use Rattle.ledger.specs.Dues.{DueFacts, sound_due}
use Rattle.ledger.specs.Issues.{distinct}
use Rattle.ledger.proofs.Issuing.{dues_sound}
use Rattle.fixed_list.specs.declared.list.FixedList.{FixedList}
use Rattle.ledger.specs.declared.due.Due.{Due}
use Rattle.dues.specs.Facts.{Facts, last_day, refusal_of}
use Rattle.dues.specs.Dues.{peak_of, dues_up_to, dues_at, dues_of, unless, dues_answer}
use Rattle.dues.specs.Lists.{dues_in, facts_in}
use Rattle.dues.proofs.Apart.{dues_distinct}

-- ---- a check of several histories, one after another

abbrev pub checked : Bool → Result (Unit {0}) Refusal
checked sound = cond sound (Ok tt) (Err Unsound)

pub refused_here : (a b : Bool) (r : Result (Unit {0}) Refusal) → is_err r ≡ true → r ≡ checked a → r ≡ checked (a && b)
refused_here true b r err e = absurd (false≢true (sym (ap is_err e) ∙ err))
refused_here false b r err e = e

pub passed_here : (a b : Bool) (u : Unit {0}) (r : Result (Unit {0}) Refusal) → Ok u ≡ checked a → r ≡ checked b → r ≡ checked (a && b)
passed_here true b u r passed e = e
passed_here false b u r passed e = let z : ◌≡◌ {A = ℕ} 0 1 = cc in absurd (omega arith)

pub passed_sound : (a : Bool) (u : Unit {0}) → Ok u ≡ checked a → a ≡ true
passed_sound true u e = refl
passed_sound false u e = let z : ◌≡◌ {A = ℕ} 0 1 = cc in absurd (omega arith)

-- ---- the ways out

pub unsound_out : (sound : Bool) (f : Facts) (e : Refusal) → Err e ≡ checked sound → Err e ≡ dues_answer sound f
unsound_out true f e is = let z : ◌≡◌ {A = ℕ} 0 1 = cc in absurd (omega arith)
unsound_out false f e is = let same : e ≡ Unsound = cc in ap Err same

module _ (sound : Bool) (f : Facts) (is : sound ≡ true) where
  in_order : dues_answer sound f ≡ unless (refusal_of f) (dues_of f)
  in_order = ap (λ b. cond b (unless (refusal_of f) (dues_of f)) (Err Unsound)) is

  pub lacking : (e : Refusal) → refusal_of f ≡ Some e → Err e ≡ dues_answer sound f
  lacking e refused = sym (in_order ∙ ap (λ o. unless o (dues_of f)) refused)

  pub worked_out : (r : Rates) (system : Triple) (ds : List DueFacts) → refusal_of f ≡ None → f.rates_on (last_day f) ≡ Some r → system ≡ peak_of f
      → ds ≡ dues_up_to f system r (length f.kinds) → Ok ds ≡ dues_answer sound f
  worked_out r system ds none on peak ed =
      sym (in_order ∙ (ap (λ o. unless o (dues_of f)) none
      ∙ ap Ok (ap (dues_at f) on ∙ sym (ed ∙ ap (λ (s : Triple). dues_up_to f s r (length f.kinds)) peak))))

-- ---- what follows of the answer

answered : (sound : Bool) (o : Option Refusal) (x ds : List DueFacts) → Ok x ≡ cond sound (unless o ds) (Err Unsound) → x ≡ ds
answered true None x ds e = cc
answered true (Some r) x ds e = let z : ◌≡◌ {A = ℕ} 0 1 = cc in absurd (omega arith)
answered false o x ds e = let z : ◌≡◌ {A = ℕ} 0 1 = cc in absurd (omega arith)

-- dues are sound by their type, and distinct since they are those of the month
pub sound_out : (sound : Bool) (f : Facts) (r : Result (FixedList Due 800) Refusal) → result_map_both facts_in (λ e. e) r ≡ dues_answer sound f
    → IfOk r (λ l. (every sound_due (facts_in l) ≡ true) × (distinct (facts_in l) ≡ true))
sound_out sound f (Ok l) e = (dues_sound (dues_in l), ap distinct (answered sound (refusal_of f) (facts_in l) (dues_of f) e) ∙ dues_distinct f)
sound_out sound f (Err x) e = tt
