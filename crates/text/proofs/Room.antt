-- A text in a memory of n bytes, where what does not fit is dropped.
use Rattle.std.proofs.Common.{◌≡◌, ℕ, zero, suc, true, false, cond, leb, List, [], ◌∷◌, ◌++◌, length, take, Some, None, refl, ap, ◌∙◌}
use Rattle.text.specs.Texts.{fitting}

pub take_again : (n : ℕ) (a b : List ℕ) → take n (take n a ++ b) ≡ take n (a ++ b)
take_again zero a b = refl
take_again (suc n) [] b = refl
take_again (suc n) (x ∷ xs) b = ap (λ l. x ∷ l) (take_again n xs b)

-- one more piece, after what was kept of a
pub room_more : (n : ℕ) (a b t u : List ℕ) → t ≡ take n a → u ≡ take n (t ++ b) → u ≡ take n (a ++ b)
room_more n a b t u was more = more ∙ ap (λ l. take n (l ++ b)) was ∙ take_again n a b

-- what fits is told by its length
pub length_fitting : (line : List ℕ) (room n : ℕ) → Some n ≡ fitting line room → length line ≡ n
length_fitting line room n h =
    elim (leb (length line) room) as (λ b. Some n ≡ cond b (Some (length line)) None → length line ≡ n) [
      | true ↦ λ h. cc
      | false ↦ λ h. cc
    ] h
