-- A table that is made of two, and the calls' names.
use Rattle.std.proofs.Common.{◌≡◌, ℕ, true, false, cond, List, [], ◌∷◌, ◌++◌, Some, refl, ap, ◌∙◌}
use Rattle.std.specs.Option.{option_or}
use Rattle.job.specs.Values.{is_word, look_up, state_words, entry_words, answer_words, state_word, word_of}

module _ {T : Type 0} (text : List ℕ) where
  look_up_both : (xs ys : List (List ℕ × T)) → look_up (xs ++ ys) text ≡ option_or (look_up xs text) (look_up ys text)
  look_up_both [] ys = refl
  look_up_both (e ∷ es) ys =
      elim (is_word text e.0) as (λ b. cond b (Some e.1) (look_up (es ++ ys) text) ≡ option_or (cond b (Some e.1) (look_up es text)) (look_up ys text)) [
        | true ↦ refl
        | false ↦ look_up_both es ys
      ]

pub word_found : (text : List ℕ) → look_up (state_words ++ entry_words ++ answer_words) text ≡ word_of text
word_found text = look_up_both text state_words (entry_words ++ answer_words) ∙ ap (option_or (state_word text)) (look_up_both text entry_words answer_words)
