-- This file shows that digits without capitals are those of the bytes that they decode to, and of no others.
use Rattle.std.proofs.Common.{◌≡◌, ℕ, zero, suc, ◌+◌, ◌*◌, ◌/◌, ◌%◌, ◌<◌, ◌≤◌, ◌==◌, Bool, true, false, ◌&&◌, ◌||◌, not, nat_le}
use Rattle.std.proofs.Common.{List, [], ◌∷◌, slice_index, Option, Some, None, Result, Ok, Err, refl, sym, ap, subst, ◌∙◌, arith, inl, inr}
use Rattle.std.specs.List.{list_any}
use Rattle.std.specs.Result.{result_unwrap_or}
use Rattle.std.specs.Prelude.{◌≢◌}
use Rattle.std.specs.List.{All}
use Rattle.std.proofs.lemmas.List.Elements.{All-nil, All-cons}
use Rattle.std.proofs.lemmas.Bool.{and_parts, or_parts, or_from, not-true, cases_lt, eqb-true, leb-true}
use Rattle.hex.specs.Hex.{IsBytes, decode_of, decode_pairs, encode_with, hex_digit_value, lower_digits, ◌>>=◌}
use Rattle.hex.specs.Hex.{digit_or_error, pair_value, value_at}
use Rattle.hex.specs.declared.error.FromHexError.{FromHexError}
use Rattle.hex.proofs.HexLemmas.{decode_of-encode_lower, decode_of-ok, decode_of-even, decode_of-same}
use Rattle.standby_core.specs.Digits.{is_capital, AreDigitsOf}

-- ---- small numbers, one by one

-- whether the test holds of each number below n
abbrev holds_below : (ℕ → Bool) → ℕ → Bool
holds_below test zero = true
holds_below test (suc n) = test n && holds_below test n

holds_below-at : (test : ℕ → Bool) (n c : ℕ) → holds_below test n ≡ true → c < n → test c ≡ true
holds_below-at test zero c h below = absurd (omega arith)
holds_below-at test (suc n) c h below =
    let parts = and_parts (test n) (holds_below test n) h in
    elim (cases_lt c n) [
      | inl less ↦ holds_below-at test n c parts.1 less
      | inr last ↦
          let e : c ≡ n = omega arith in
          rw e parts.0
    ]

-- ---- one digit

-- whether c is a capital, or the digit in lower case of its value
abbrev is_own : ℕ → Option ℕ → Bool
is_own c None = true
is_own c (Some v) = is_capital c || (slice_index lower_digits v == c)

-- no digit is above f
digit_below : (c v : ℕ) → hex_digit_value c ≡ Some v → c < 103
digit_below c v h = grind arith

or_second : (a b : Bool) → a ≡ false → (a || b) ≡ true → b ≡ true
or_second true b small h = absurd cc
or_second false b small h = h

lower_of_own : (c v : ℕ) → is_capital c ≡ false → is_own c (Some v) ≡ true → slice_index lower_digits v ≡ c
lower_of_own c v small own =
    eqb-true (slice_index lower_digits v) c (or_second (is_capital c) (slice_index lower_digits v == c) small own)

lower_of_value : (c v : ℕ) → is_capital c ≡ false → hex_digit_value c ≡ Some v → slice_index lower_digits v ≡ c
lower_of_value c v small is =
    let own = holds_below-at (λ d. is_own d (hex_digit_value d)) 103 c refl (digit_below c v is) in
    lower_of_own c v small (subst (λ o. is_own c o ≡ true) is own)

-- ---- texts without a capital

small_digit : (d : ℕ) → d < 16 → is_capital (slice_index lower_digits d) ≡ false
small_digit d below =
    not-true (is_capital (slice_index lower_digits d))
    (holds_below-at (λ n. not (is_capital (slice_index lower_digits n))) 16 d refl below)

encoded_small : (bytes : List ℕ) → IsBytes bytes → list_any is_capital (encode_with lower_digits bytes) ≡ false
unfolding encode_with
encoded_small [] fit = refl
encoded_small (b ∷ rest) fit =
    let fits : b < 256 = fit 0 in
    let high : b / 16 < 16 = omega arith in
    let low : b % 16 < 16 = omega arith in
    or_from _ _ (small_digit (b / 16) high)
    (or_from _ _ (small_digit (b % 16) low) (encoded_small rest (λ k. fit (suc k))))

-- ---- pairs of digits

bind_ok : {A B : Type 0} (r : Result A FromHexError) (f : A → Result B FromHexError) (y : B)
    → (r >>= f) ≡ Ok y → (x : A) × (r ≡ Ok x) × (f x ≡ Ok y)
bind_ok (Ok x) f y h = (x, refl, h)
bind_ok (Err e) f y h = cc h

digit_read : (c i : ℕ) (o : Option ℕ) (v : ℕ) → digit_or_error c i o ≡ Ok v → o ≡ Some v
digit_read c i (Some w) v h = ap Some (ap (λ (r : Result ℕ FromHexError). result_unwrap_or r 0) h)
digit_read c i None v h = cc h

value_below : (c v : ℕ) → hex_digit_value c ≡ Some v → v < 16
value_below c v h = grind arith

pairs_own : (i : ℕ) (s bytes : List ℕ) → decode_pairs i s ≡ Ok bytes → list_any is_capital s ≡ false
    → s ≡ encode_with lower_digits bytes
unfolding decode_pairs encode_with
pairs_own i [] bytes h small =
    let e : [] ≡ bytes = ap (λ (r : Result (List ℕ) FromHexError). result_unwrap_or r []) h in
    rw (← e) refl
pairs_own i (a ∷ []) bytes h small = cc h
pairs_own i (a ∷ b ∷ rest) bytes h small =
    let pair = bind_ok (pair_value a b i) _ bytes h in
    let left = bind_ok (value_at a i) _ pair.0 pair.1 in
    let right = bind_ok (value_at b (i + 1)) _ pair.0 left.2 in
    let others = bind_ok (decode_pairs (i + 2) rest) _ bytes pair.2 in
    let small_a = or_parts (is_capital a) (list_any is_capital (b ∷ rest)) small in
    let small_b = or_parts (is_capital b) (list_any is_capital rest) small_a.1 in
    let tail : rest ≡ encode_with lower_digits others.0 = pairs_own (i + 2) rest others.0 others.1 small_b.1 in
    let e : pair.0 ∷ others.0 ≡ bytes = ap (λ (r : Result (List ℕ) FromHexError). result_unwrap_or r []) others.2 in
    let value_a = digit_read a i (hex_digit_value a) left.0 left.1 in
    let value_b = digit_read b (i + 1) (hex_digit_value b) right.0 right.1 in
    let below_a = value_below a left.0 value_a in
    let below_b = value_below b right.0 value_b in
    let byte : left.0 * 16 + right.0 ≡ pair.0 = ap (λ (r : Result ℕ FromHexError). result_unwrap_or r 0) right.2 in
    let high : pair.0 / 16 ≡ left.0 = omega arith in
    let low : pair.0 % 16 ≡ right.0 = omega arith in
    let own_a : slice_index lower_digits (pair.0 / 16) ≡ a =
    ap (λ d. slice_index lower_digits d) high ∙ lower_of_value a left.0 small_a.0 value_a in
    let own_b : slice_index lower_digits (pair.0 % 16) ≡ b =
    ap (λ d. slice_index lower_digits d) low ∙ lower_of_value b right.0 small_b.0 value_b in
    ap (λ d. d ∷ b ∷ rest) (sym own_a) ∙ ap (λ d. slice_index lower_digits (pair.0 / 16) ∷ d ∷ rest) (sym own_b)
    ∙ ap (λ l. slice_index lower_digits (pair.0 / 16) ∷ slice_index lower_digits (pair.0 % 16) ∷ l) tail
    ∙ ap (λ l. encode_with lower_digits l) e

-- ---- whole texts

-- digits without a capital are those of the bytes that they decode to
pub digits_of_decoded : (bytes digits : List ℕ) → list_any is_capital digits ≡ false → decode_of digits ≡ Ok bytes
    → AreDigitsOf bytes digits
digits_of_decoded bytes digits small h =
    let ok = decode_of-ok digits bytes h in
    record { are_bytes = ok.3; are_digits = pairs_own 0 digits bytes (sym (decode_of-even digits ok.0) ∙ h) small }

-- the digits of bytes have no capital,
pub no_capital : (bytes digits : List ℕ) → AreDigitsOf bytes digits → list_any is_capital digits ≡ false
no_capital bytes digits are =
    ap (list_any is_capital) are.are_digits ∙ encoded_small bytes are.are_bytes

-- and decode to them
pub decoded : (bytes digits : List ℕ) → AreDigitsOf bytes digits → decode_of digits ≡ Ok bytes
decoded bytes digits are = ap decode_of are.are_digits ∙ decode_of-encode_lower bytes are.are_bytes

-- so digits are those of one list of bytes
pub bytes_once : (x y digits : List ℕ) → AreDigitsOf x digits → AreDigitsOf y digits → x ≡ y
bytes_once x y digits one also = decode_of-same digits x y (decoded x digits one) (decoded y digits also)

ok_is_no_error : (bytes : List ℕ) (e : FromHexError) → Ok bytes ≡ Err e → ⊥
ok_is_no_error bytes e same = absurd (cc same)

-- what decodes is not refused
pub not_both : (digits bytes : List ℕ) (e : FromHexError) → decode_of digits ≡ Ok bytes → decode_of digits ≡ Err e → ⊥
not_both digits bytes e one also = ok_is_no_error bytes e (sym one ∙ also)

-- ---- no line end

digit_above : (d : ℕ) → d < 16 → 48 ≤ slice_index lower_digits d
digit_above d below =
    leb-true 48 (slice_index lower_digits d)
    (holds_below-at (λ n. nat_le 48 (slice_index lower_digits n)) 16 d refl below)

pub no_line_end : (bytes : List ℕ) → IsBytes bytes → All (λ c. c ≢ 10) (encode_with lower_digits bytes)
unfolding encode_with
no_line_end [] fit = All-nil (λ (c : ℕ). c ≢ 10)
no_line_end (b ∷ rest) fit =
    let P = λ (c : ℕ). c ≢ 10 in
    let fits : b < 256 = fit 0 in
    let high = digit_above (b / 16) (omega arith) in
    let low = digit_above (b % 16) (omega arith) in
    let first : P (slice_index lower_digits (b / 16)) = λ e. omega arith in
    let second : P (slice_index lower_digits (b % 16)) = λ e. omega arith in
    let more = encode_with lower_digits rest in
    All-cons P (slice_index lower_digits (b / 16)) (slice_index lower_digits (b % 16) ∷ more) first
    (All-cons P (slice_index lower_digits (b % 16)) more second (no_line_end rest (λ k. fit (suc k))))
