-- Where the days of a table lie.
use Rattle.std.proofs.Common.{◌≡◌, ℕ, ◌-◌, ◌/◌, ◌%◌, ◌<◌, ◌≤◌, List, map, length, get_or, sym, ap, ◌∙◌, arith}
use Rattle.std.proofs.lemmas.Nat.{div-mul-add, mod-mul-add}
use Rattle.std.proofs.lemmas.List.{ext_get_or, get_or-map, length-map}
use Rattle.tariff.specs.declared.reading.Reading.{Reading}
use Rattle.tariff.specs.declared.reading.Reading.TheVariants.{Withdrawal}
use Rattle.stores.specs.Words.{encoded, sheets_before}

-- sheets that stand at one place are of one point and day
pub same_place : (days p d q e : ℕ) → 1 ≤ p → 1 ≤ q → 1 ≤ d → d ≤ days → 1 ≤ e → e ≤ days → sheets_before days p d ≡ sheets_before days q e → (p ≡ q) × (d ≡ e)
same_place days p d q e p1 q1 d1 dn e1 en same =
    let ps : p - 1 ≡ q - 1 = sym (div-mul-add (p - 1) days (d - 1) (omega arith)) ∙ ap (λ x. x / days) same ∙ div-mul-add (q - 1) days (e - 1) (omega arith) in
    let ds : d - 1 ≡ e - 1 = sym (mod-mul-add (p - 1) days (d - 1) (omega arith)) ∙ ap (λ x. x % days) same ∙ mod-mul-add (q - 1) days (e - 1) (omega arith) in
    (omega arith, omega arith)

-- numbers that are written one by one
pub all_written : (rs : List Reading) (ws : List ℕ) → length ws ≡ length rs → ((k : ℕ) → k < length ws → get_or ws k 0 ≡ encoded (get_or rs k (Withdrawal 0))) → ws ≡ map encoded rs
all_written rs ws same each =
    ext_get_or 0 ws (map encoded rs) (same ∙ sym (length-map rs encoded)) (λ k h. each k h ∙ sym (get_or-map encoded rs k (Withdrawal 0) 0 (omega arith)))
