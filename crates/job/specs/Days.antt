-- Which days a list of days names.
use Rattle.std.specs.Prelude.{ℕ, Bool, false, cond, ◌||◌, List, [], ◌∷◌, length, Some, None, Option, ◌==◌, nat_le, nat_lt}
use Rattle.tariff.specs.Ranges.{between}
use Rattle.calendar.specs.Marks.{MarksJust}
use Rattle.text.specs.Format.{before, after}
use Rattle.job.specs.declared.days.DayRange.{DayRange}
use Rattle.job.specs.Numbers.{whole_of}

-- what follows from a value that is there
abbrev pub bind : {X Y : Type 0} → Option X → (X → Option Y) → Option Y
bind None f = None
bind (Some x) f = f x

abbrev pub range : ℕ → ℕ → DayRange
range first last = record { first = first; last = last }

-- a first and a last day, in order
abbrev pub ordered : ℕ → ℕ → Option DayRange
ordered first last = cond (nat_le first last) (Some (range first last)) None

-- a day, or the first and the last of some days with a hyphen (45) between
abbrev pub range_of : List ℕ → Option DayRange
range_of part =
    bind (whole_of (before 45 part)) (λ first.
    cond (length (before 45 part) == length part) (Some (range first first)) (bind (whole_of (after 45 part)) (ordered first)))

-- the ranges of all parts, where each is one
abbrev pub ranges_of : List (List ℕ) → Option (List DayRange)
ranges_of [] = Some []
ranges_of (p ∷ ps) = bind (range_of p) (λ r. bind (ranges_of ps) (λ rs. Some (r ∷ rs)))

-- whether a range names day d; as day 32, which no month has, it names each day that is not from 1 to 31
abbrev pub names : DayRange → ℕ → Bool
names r d = cond (d == 32) (nat_lt r.first 1 || nat_lt 31 r.last) (between r.first r.last d)

abbrev pub named : List DayRange → ℕ → Bool
named [] d = false
named (r ∷ rs) d = names r d || named rs d

-- a mask of 32 days that marks just the days which one of the ranges names
abbrev pub Marks : Option (List DayRange) → ℕ → Type 0
Marks None mask = ⊥
Marks (Some rs) mask = MarksJust 32 (named rs) mask
