-- A line's text: its length, and that it is split into the same lines and values again.
use Rattle.std.proofs.Common.{◌≡◌, ℕ, ◌^◌, ◌<◌, ◌≤◌, true, false, ◌&&◌, leb, List, [], ◌∷◌, ◌++◌, map, length, take, ℤ, pos, negsuc, decimal, refl, ap, ◌∙◌, append_assoc, arith, length-append}
use lib.Signed.{mag}
use Rattle.std.specs.List.{flat_map, AllByRecursion}
use Rattle.std.specs.Char.{is_ascii_digit}
use Rattle.std.proofs.lemmas.Fmt.{length-decimal-le, length_signed_le}
use Rattle.std.proofs.ByRecursion.{All-append}
use Rattle.std.proofs.lemmas.Bool.{and_parts, leb-true}
use Rattle.tariff.specs.declared.charge.Charge.{Charge}
use Rattle.tariff.specs.declared.charge.Charge.TheVariants.{Network, Line as Line-charge, Transformation}
use Rattle.tariff.specs.declared.statement.Statement.{Statement}
use Rattle.tariff.specs.declared.statement.Statement.TheVariants.{P, F, R1, R2, R3, R4, R5, R6, RF}
use Rattle.tariff.specs.Charges.{charge_number}
use Rattle.tariff.specs.Parties.{party_in_range}
use Rattle.tariff.specs.Ranges.{within, between_parts}
use Rattle.tariff.specs.Statements.{letters_of}
use Rattle.text.specs.Format.{lines, parts}
use Rattle.text.specs.Laws.{Free, marked}
use Rattle.text.proofs.Lines.{lines_line}
use Rattle.text.proofs.Numbers.{free_decimal, free_signed}
use Rattle.text.proofs.Room.{room_more}
use Rattle.text.proofs.Parts.{parts_first, parts_last}
use Rattle.ledger.specs.declared.line.Line.{Line}
use Rattle.ledger.specs.Lines.{account_of, every, small, sound_account, sound_reading, sound_line}
use Rattle.listing.specs.Rows.{line_values, line_row, line_text}
use Rattle.listing.specs.Listings.{header_row, listing_of, Listed}

-- one value more, after what was kept of a
pub value_more : (a : List ℕ) (n m : ℕ) (t u : List ℕ) → t ≡ take 256 a → u ≡ take 256 (t ++ 124 ∷ decimal m) → m ≡ n → u ≡ take 256 (a ++ 124 ∷ decimal n)
value_more a n m t u was more is = room_more 256 a (124 ∷ decimal m) t u was more ∙ ap (λ k. take 256 (a ++ 124 ∷ decimal k)) is

-- a line whose numbers have 64 bits
pub record Sized (l : Line) : Type 0 where
  pub point : l.point < 2 ^ 64
  pub customer : l.customer.number < 2 ^ 64
  pub transmitter : l.transmitter.number < 2 ^ 64
  pub cents : mag l.cents < 2 ^ 63
  pub quantity : l.quantity < 2 ^ 64
  pub day : l.day < 2 ^ 64
  pub hour : l.hour < 2 ^ 64

charge_sized : (c : Charge) → charge_number c < 2 ^ 64
charge_sized Network = omega arith
charge_sized Line-charge = omega arith
charge_sized Transformation = omega arith

letters_short : (s : Statement) → length (letters_of s) ≤ 2
letters_short P = omega arith
letters_short F = omega arith
letters_short R1 = omega arith
letters_short R2 = omega arith
letters_short R3 = omega arith
letters_short R4 = omega arith
letters_short R5 = omega arith
letters_short R6 = omega arith
letters_short RF = omega arith

digits_short : (n : ℕ) → n < 2 ^ 64 → length (decimal n) ≤ 20
digits_short n h = length-decimal-le 20 n (omega arith) (omega arith) h

-- any line has room in 256 bytes
pub line_short : (l : Line) → Sized l → length (line_text l) ≤ 256
line_short l s =
    let letters = letters_short l.statement in
    let point = digits_short l.point s.point in
    let charge = digits_short (charge_number l.charge) (charge_sized l.charge) in
    let customer = digits_short l.customer.number s.customer in
    let transmitter = digits_short l.transmitter.number s.transmitter in
    let cents = length_signed_le 19 l.cents (omega (arith, s.cents)) s.cents in
    let quantity = digits_short l.quantity s.quantity in
    let day = digits_short l.day s.day in
    let hour = digits_short l.hour s.hour in
    simp length-append (omega arith)

-- what a sound line has
amount_sized : (z : ℤ) → small z ≡ true → mag z < 2 ^ 63
amount_sized (pos n) e = omega (arith, leb-true n 9999999900 e)
amount_sized (negsuc n) e = omega (arith, leb-true n 9999999899 (and_parts (leb n 9999999899) true e).0)

sound_sized : (l : Line) → sound_line l ≡ true → Sized l
sound_sized l e =
    let all = and_parts (sound_account (account_of l) && small l.cents) (sound_reading l.quantity l.day l.hour) e in
    let front = and_parts (sound_account (account_of l)) (small l.cents) all.0 in
    let account = and_parts (within 400 l.point && party_in_range l.customer) (party_in_range l.transmitter) front.0 in
    let start = and_parts (within 400 l.point) (party_in_range l.customer) account.0 in
    let reading = and_parts (leb l.quantity 9999999900 && leb l.day 31) (leb l.hour 24) all.1 in
    let determinant = and_parts (leb l.quantity 9999999900) (leb l.day 31) reading.0 in
    record {
      point = omega (arith, between_parts 1 400 l.point start.0);
      customer = omega (arith, between_parts 1 999999999 l.customer.number start.1);
      transmitter = omega (arith, between_parts 1 999999999 l.transmitter.number account.1);
      cents = amount_sized l.cents front.1;
      quantity = omega (arith, leb-true l.quantity 9999999900 determinant.0);
      day = omega (arith, leb-true l.day 31 determinant.1);
      hour = omega (arith, leb-true l.hour 24 reading.1);
    }

-- a mark that is neither `-`, a digit nor a letter of a statement: these are bytes from 45 to 82
module _ (mark : ℕ) (apart : (c : ℕ) → 45 ≤ c → c ≤ 82 → c ≡ mark → ⊥) (no_digit : is_ascii_digit mark ≡ false) where
  letters_free : (s : Statement) → Free mark (letters_of s)
  letters_free P = (apart 80 (omega arith) (omega arith), tt)
  letters_free F = (apart 70 (omega arith) (omega arith), tt)
  letters_free R1 = (apart 82 (omega arith) (omega arith), (apart 49 (omega arith) (omega arith), tt))
  letters_free R2 = (apart 82 (omega arith) (omega arith), (apart 50 (omega arith) (omega arith), tt))
  letters_free R3 = (apart 82 (omega arith) (omega arith), (apart 51 (omega arith) (omega arith), tt))
  letters_free R4 = (apart 82 (omega arith) (omega arith), (apart 52 (omega arith) (omega arith), tt))
  letters_free R5 = (apart 82 (omega arith) (omega arith), (apart 53 (omega arith) (omega arith), tt))
  letters_free R6 = (apart 82 (omega arith) (omega arith), (apart 54 (omega arith) (omega arith), tt))
  letters_free RF = (apart 82 (omega arith) (omega arith), (apart 70 (omega arith) (omega arith), tt))

  values_free : (l : Line) → Sized l → AllByRecursion (Free mark) (line_values l)
  values_free l s = (
    letters_free l.statement,
    (
      free_decimal mark l.point no_digit s.point,
      (
        free_decimal mark (charge_number l.charge) no_digit (charge_sized l.charge),
        (
          free_decimal mark l.customer.number no_digit s.customer,
          (
            free_decimal mark l.transmitter.number no_digit s.transmitter,
            (
              free_signed mark l.cents no_digit (apart 45 (omega arith) (omega arith)) s.cents,
              (
                free_decimal mark l.quantity no_digit s.quantity,
                (
                  free_decimal mark l.day no_digit s.day,
                  (
                    free_decimal mark l.hour no_digit s.hour,
                    tt,
                  ),
                ),
              ),
            ),
          ),
        ),
      ),
    ),
  )

-- values that hold no mark are split into the same again
parts_marked : (mark : ℕ) (p : List ℕ) (ps : List (List ℕ)) → AllByRecursion (Free mark) (p ∷ ps) → parts mark (marked mark (p ∷ ps)) ≡ p ∷ ps
parts_marked mark p [] f = parts_last mark p f.0
parts_marked mark p (q ∷ qs) f = parts_first mark p (marked mark (q ∷ qs)) f.0 ∙ ap (λ l. p ∷ l) (parts_marked mark q qs f.1)

free_marked : (other mark : ℕ) → (mark ≡ other → ⊥) → (ps : List (List ℕ)) → AllByRecursion (Free other) ps → Free other (marked mark ps)
free_marked other mark apart [] f = tt
free_marked other mark apart (p ∷ []) f = f.0
free_marked other mark apart (p ∷ q ∷ qs) f =
    All-append (λ c. c ≡ other → ⊥) p (mark ∷ marked mark (q ∷ qs)) f.0 (apart, free_marked other mark apart (q ∷ qs) f.1)

row_values : (l : Line) → Sized l → parts 124 (line_row l) ≡ line_values l
row_values l s = parts_marked 124 _ _ (values_free 124 (λ c low high e. omega arith) refl l s)

row_free : (l : Line) → Sized l → Free 10 (line_row l)
row_free l s = free_marked 10 124 (λ e. omega arith) (line_values l) (values_free 10 (λ c low high e. omega arith) refl l s)

texts_lines : (ls : List Line) → every sound_line ls ≡ true → lines (flat_map line_text ls) ≡ map line_row ls
texts_lines [] e = refl
texts_lines (l ∷ ls) e =
    let h = and_parts (sound_line l) (every sound_line ls) e in
    ap lines (append_assoc (line_row l) (10 ∷ []) (flat_map line_text ls))
    ∙ lines_line (line_row l) (flat_map line_text ls) (row_free l (sound_sized l h.0))
    ∙ ap (λ rows. line_row l ∷ rows) (texts_lines ls h.1)

lines_values : (ls : List Line) → every sound_line ls ≡ true → AllByRecursion (λ l. parts 124 (line_row l) ≡ line_values l) ls
lines_values [] e = tt
lines_values (l ∷ ls) e =
    let h = and_parts (sound_line l) (every sound_line ls) e in
    (row_values l (sound_sized l h.0), lines_values ls h.1)

-- a listing is split into the lines that it was made of
pub listing_listed : (ls : List Line) (text : List ℕ) → every sound_line ls ≡ true → text ≡ listing_of ls → Listed ls text
listing_listed ls text e is = record {
  rows = ap lines is ∙ ap (λ rows. header_row ∷ rows) (texts_lines ls e);
  values = lines_values ls e;
}
