-- The passes over the lines: what is counted or written so far, and what is left.
use Rattle.std.proofs.Common.{◌≡◌, ℕ, ◌+◌, ◌<◌, ◌≤◌, Bool, true, false, cond, List, [], ◌∷◌, ◌++◌, length, get_or, take, drop, Some, Ok, Err, Result, sym, refl, ap, ◌∙◌, zero-add, arith}
use Rattle.std.specs.List.{flat_map}
use Rattle.std.specs.Option.{ok_or}
use Rattle.std.proofs.lemmas.List.{at_drop_more, length-append, take-append-drop, take_more, drop-drop, flat_map_more}
use Rattle.std.proofs.lemmas.Bool.{and_parts, cond-true, le-leb}
use Rattle.tariff.specs.declared.refusal.Refusal.{Refusal}
use Rattle.tariff.specs.declared.refusal.Refusal.TheVariants.{Unsound, TextTooShort}
use Rattle.tariff.specs.Shelves.{Shelf, items}
use Rattle.text.specs.Texts.{overlay}
use Rattle.ledger.specs.declared.line.Line.{Line}
use Rattle.ledger.specs.Ledgers.{sound_ledger, if_sound}
use Rattle.listing.specs.Rows.{line_text}
use Rattle.listing.specs.Listings.{header_row, listing_of, listing_answer, Listed}
use Rattle.listing.proofs.Rows.{listing_listed}

module _ (ls : List Line) (i : ℕ) (d : Line) (text : List ℕ) (is : text ≡ line_text (get_or ls i d)) (h : i < length ls) where
  -- the text at i and those after it
  pub lengths_at : length (flat_map line_text (drop i ls)) ≡ length text + length (flat_map line_text (drop (i + 1) ls))
  lengths_at =
      at_drop_more (λ l. length (flat_map line_text l)) ls i d h
      ∙ length-append (line_text (get_or ls i d)) (flat_map line_text (drop (i + 1) ls))
      ∙ ap (λ l. length l + length (flat_map line_text (drop (i + 1) ls))) (sym is)

  pub front_more : (front was after : List ℕ) → was ≡ front ++ flat_map line_text (take i ls) → after ≡ was ++ text
      → after ≡ front ++ flat_map line_text (take (i + 1) ls)
  front_more front was after so_far more =
      more
      ∙ (λ k. so_far k ++ is k)
      ∙ flat_map_more line_text front (take i ls) (get_or ls i d)
      ∙ ap (λ l. front ++ flat_map line_text l) (sym (take_more ls i d h))

-- what lies past a second write is what lay past the first
pub back_more : (out was after : List ℕ) (at n r : ℕ) → r ≡ at + n → drop at was ≡ drop at out → drop r after ≡ drop r was → drop r after ≡ drop r out
back_more out was after at n r is so_far more =
    more
    ∙ ap (λ k. drop k was) is
    ∙ sym (drop-drop n at was)
    ∙ ap (drop n) so_far
    ∙ drop-drop n at out
    ∙ ap (λ k. drop k out) (sym is)

sound_from : (b : Bool) → ◌≡◌ {A = Result (Unit {0}) Refusal} (Ok tt) (cond b (Ok tt) (Err Unsound)) → b ≡ true
sound_from true e = refl
sound_from false e = cc

-- what a call that writes a listing ensures
pub record Wrote (g : Shelf Line) (out after : List ℕ) (n : ℕ) : Type 0 where
  pub value : Ok n ≡ listing_answer g (length out)
  pub memory : after ≡ overlay (Some n) (listing_of (items g)) out
  pub listed : Listed (items g) (take n after)

pub wrote : (g : Shelf Line) (ls : List Line) (head out mid after : List ℕ) (start n : ℕ)
    → ◌≡◌ {A = Result (Unit {0}) Refusal} (Ok tt) (if_sound g tt) → ls ≡ items g → head ≡ header_row ++ 10 ∷ []
    → start ≡ 0 + length head → take start mid ≡ head → drop start mid ≡ drop start out
    → n ≡ start + length (flat_map line_text ls) → take n after ≡ take start mid ++ flat_map line_text ls → drop n after ≡ drop n mid
    → n ≤ length out → Wrote g out after n
wrote g ls head out mid after start n checked lines_are head_is at-start head-put head-back long lines-put lines-back room =
    let sound = sound_from (sound_ledger g) checked in
    let text : take n after ≡ listing_of (items g) = lines-put ∙ (λ k. (head-put ∙ head_is) k ++ flat_map line_text (lines_are k)) in
    let size : n ≡ length (listing_of (items g)) =
    long
    ∙ ap (λ k. k + length (flat_map line_text ls)) (at-start ∙ zero-add (length head) ∙ ap length head_is)
    ∙ ap (λ l. length (header_row ++ 10 ∷ []) + length (flat_map line_text l)) lines_are
    ∙ sym (length-append (header_row ++ 10 ∷ []) (flat_map line_text (items g))) in
    record {
      value = sym (
          cond-true (sound_ledger g) _ _ sound
          ∙ ap (λ o. ok_or o TextTooShort) (cond-true _ _ _ (le-leb (length (listing_of (items g))) (length out) (omega arith)))
          ∙ ap Ok (sym size)
          );
      memory = sym (take-append-drop n after) ∙ (λ k. text k ++ back_more out mid after start (length (flat_map line_text ls)) n long head-back lines-back k);
      listed = listing_listed (items g) (take n after) (and_parts _ _ sound).1 text;
    }
