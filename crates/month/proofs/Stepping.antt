-- A run, one call on.
use Rattle.std.proofs.Common.{◌≡◌, ℕ, suc, ◌+◌, ◌<◌, ◌≤◌, List, [], ◌∷◌, ◌++◌, length, get_or, take, drop, set, Some, Result, sym, refl, ap, ◌∙◌, ap₂, arith}
use Rattle.std.proofs.lemmas.List.{length-take-le, take_more, take_all, drop_more, drop_all, set_at, get_or_at, append_assoc, append-nil}
use Rattle.tariff.specs.declared.refusal.Refusal.{Refusal}
use Rattle.month.specs.declared.calls.JournalEntry.{JournalEntry}
use Rattle.month.specs.States.{State}
use Rattle.month.specs.Answers.{next, answer}
use Rattle.month.specs.Journals.{after, answered}
use Rattle.month.proofs.Keeping.{filled}

after_push : (s : State) (es : List JournalEntry) (e : JournalEntry) → after s (es ++ e ∷ []) ≡ next (after s es) e.call
after_push s [] e = refl
after_push s (x ∷ es) e = after_push (next s x.call) es e

answered_push : (s : State) (es : List JournalEntry) (e : JournalEntry) → answered s (es ++ e ∷ []) ≡ answered s es ++ filled (after s es) e.call ∷ []
answered_push s [] e = refl
answered_push s (x ∷ es) e = ap (λ ys. filled s x.call ∷ ys) (answered_push (next s x.call) es e)

length_answered : (s : State) (es : List JournalEntry) → length (answered s es) ≡ length es
length_answered s [] = refl
length_answered s (x ∷ es) = ap suc (length_answered (next s x.call) es)

module _ (s s₁ s₂ : State) (j js : List JournalEntry) (i : ℕ) (d₀ : JournalEntry) (r : Result ℕ Refusal)
    (inside : i < length j) (state : s₁ ≡ after s (take i j)) (done : js ≡ answered s (take i j) ++ drop i j)
    (says : r ≡ answer s₁ (get_or js i d₀).call) (leaves : s₂ ≡ next s₁ (get_or js i d₀).call) where
  split : js ≡ answered s (take i j) ++ get_or j i d₀ ∷ drop (i + 1) j
  split = done ∙ ap (λ ys. answered s (take i j) ++ ys) (drop_more j i d₀ inside)

  so_far : length (answered s (take i j)) ≡ i
  so_far = length_answered s (take i j) ∙ length-take-le i j (omega arith)

  read : get_or js i d₀ ≡ get_or j i d₀
  read = ap (λ ys. get_or ys i d₀) split ∙ get_or_at (answered s (take i j)) (get_or j i d₀) (drop (i + 1) j) d₀ i so_far

  pub run_more : (s₂ ≡ after s (take (i + 1) j)) × (set js i (record { call = (get_or js i d₀).call; outcome = Some r }) ≡ answered s (take (i + 1) j) ++ drop (i + 1) j)
  run_more =
      let e = get_or j i d₀ in
      let so = answered s (take i j) in
      let rest = drop (i + 1) j in
      let filled_in : record { call = (get_or js i d₀).call; outcome = Some r } ≡ filled (after s (take i j)) e.call =
      ap (λ o. record { call = (get_or js i d₀).call; outcome = Some o }) says
      ∙ ap (λ x. filled s₁ x.call) read
      ∙ ap (λ t. filled t e.call) state in (
        leaves ∙ ap₂ next state (ap (λ x. x.call) read) ∙ sym (after_push s (take i j) e) ∙ ap (after s) (sym (take_more j i d₀ inside)),
        ap₂ (λ ys y. set ys i y) split filled_in
            ∙ set_at so e rest (filled (after s (take i j)) e.call) i so_far
            ∙ sym (append_assoc so (filled (after s (take i j)) e.call ∷ []) rest)
            ∙ ap (λ ys. ys ++ rest) (sym (answered_push s (take i j) e) ∙ ap (answered s) (sym (take_more j i d₀ inside))),
      )

pub run_all : (s s₁ : State) (j js : List JournalEntry) (i : ℕ) → length j ≤ i → s₁ ≡ after s (take i j) → js ≡ answered s (take i j) ++ drop i j → (s₁ ≡ after s j) × (js ≡ answered s j)
run_all s s₁ j js i h state done = (
  state ∙ ap (after s) (take_all i j h),
  done ∙ ap₂ (λ xs ys. answered s xs ++ ys) (take_all i j h) (drop_all i j h) ∙ append-nil (answered s j),
)
