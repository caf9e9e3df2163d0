-- Statement types by rank, and their turn.
use Rattle.std.specs.Prelude.{ℕ, Bool, cond, List, Some, None, codes, Option, ◌==◌, nat_lt}
use Rattle.tariff.specs.declared.statement.Statement.{Statement}
use Rattle.tariff.specs.declared.statement.Statement.TheVariants.{P, F, R1, R2, R3, R4, R5, R6, RF}

abbrev pub rank_of : Statement → ℕ
rank_of P = 0
rank_of F = 1
rank_of R1 = 2
rank_of R2 = 3
rank_of R3 = 4
rank_of R4 = 5
rank_of R5 = 6
rank_of R6 = 7
rank_of RF = 8

-- the letters by which a type is known
abbrev pub letters_of : Statement → List ℕ
letters_of P = codes "P"
letters_of F = codes "F"
letters_of R1 = codes "R1"
letters_of R2 = codes "R2"
letters_of R3 = codes "R3"
letters_of R4 = codes "R4"
letters_of R5 = codes "R5"
letters_of R6 = codes "R6"
letters_of RF = codes "RF"

abbrev pub same_statement : Statement → Statement → Bool
same_statement a b = rank_of a == rank_of b

-- P (rank 0) comes first, F (rank 1) next, then any type of higher rank than the last issued
abbrev pub in_turn : Option Statement → Statement → Bool
in_turn None asked = rank_of asked == 0
in_turn (Some last) asked = cond (rank_of last == 0) (rank_of asked == 1) (nat_lt (rank_of last) (rank_of asked))
