-- The marked days of a list as one number.
use Rattle.std.specs.Prelude.{ℕ, zero, suc, ◌+◌, ◌^◌, Bool, cond, List, length, Some, Option, ◌==◌}
use Rattle.std.specs.Option.{option_map}
use Rattle.text.specs.Format.{parts}
use Rattle.job.specs.Days.{ranges_of, named}

-- the mask of the first n days that marks just those which a test picks
unfoldable pub mask_to : ℕ → (ℕ → Bool) → ℕ
mask_to zero picked = 0
mask_to (suc n) picked = mask_to n picked + cond (picked (suc n)) (2 ^ n) 0

-- the mask of the days that a list names
abbrev pub list_mask : List ℕ → Option ℕ
list_mask text = option_map (λ rs. mask_to 32 (named rs)) (ranges_of (parts 44 text))

-- no day, of an empty text
abbrev pub days_of : List ℕ → Option ℕ
days_of text = cond (length text == 0) (Some 0) (list_mask text)
