-- Why a table's sheets have 24 readings within the limit.
use Rattle.std.proofs.Common.{◌∙◌, arith}
use Rattle.std.specs.Prelude.{ℕ, ◌+◌, ◌-◌, ◌*◌, ◌%◌, ◌≤◌, ◌&&◌, List, map, length, take, drop, ◌==◌, nat_lt, slice_index}
use Rattle.std.proofs.ByRecursion.{All-map, All-from_get_or}
use Rattle.std.proofs.lemmas.List.{length-map, length-take-le, length-drop}
use Rattle.std.proofs.lemmas.Nat.{mod_below, mul-add-lt}
use Rattle.std.proofs.lemmas.Bool.{cond_both, and_parts, ltb-true}
use Rattle.tariff.specs.declared.reading.Reading.TheVariants.{Withdrawal, Injection}
use Rattle.tariff.specs.Readings.{Allowed}
use Rattle.tariff.specs.Ranges.{within, between_parts}
use Rattle.readings.specs.Meaning.{Sound}
use Rattle.readings.specs.Options.{from_passed, from_failed}
use Rattle.stores.specs.Words.{decoded, offset, day_at, table}

pub offset_within : (n days p d : ℕ) → 1 ≤ p → p ≤ n → 1 ≤ d → d ≤ days → offset days p d + 24 ≤ n * days * 24
offset_within n days p d p1 pn d1 dn =
    let h = mul-add-lt (p - 1) days (d - 1) n (omega arith) (omega arith) in omega (arith, h)

pub decoded_allowed : (w : ℕ) → Allowed (decoded w)
decoded_allowed w =
    cond_both (nat_lt w 100000000) (Withdrawal w) (Injection (w % 100000000)) Allowed
    (λ e. omega (arith, ltb-true w 100000000 e))
    (λ e. omega (arith, mod_below w 100000000 (omega arith)))

-- a table's sheets have 24 readings within the limit
module _ (n days : ℕ) (ws : List ℕ) (fits : n * days * 24 ≤ length ws) where
  pub table_sound : Sound (table n days ws)
  table_sound p d rs e =
      let o = offset days p d in
      let (inside, there) = from_passed (within n p && within days d) (day_at ws o) rs e in
      let (wp, wd) = and_parts (within n p) (within days d) inside in
      let (p1, pn) = between_parts 1 n p wp in
      let (d1, dn) = between_parts 1 days d wd in
      let h = offset_within n days p d p1 pn d1 dn in
      let (_, is) = from_failed (slice_index ws o == 4294967295) (map decoded (take 24 (drop o ws))) rs there in
      record {
        point = wp;
        day = wd;
        full = rw (← is) (length-map (take 24 (drop o ws)) decoded ∙ length-take-le 24 (drop o ws) (rw length-drop (omega arith)));
        limited = rw (← is) (All-map Allowed decoded (take 24 (drop o ws)) (All-from_get_or _ (take 24 (drop o ws)) 0 (λ i _. decoded_allowed (slice_index (take 24 (drop o ws)) i))));
      }
