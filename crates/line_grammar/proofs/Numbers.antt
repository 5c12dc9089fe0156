-- This file shows that numbers are read exactly.
use Rattle.std.proofs.Common.{◌≡◌, ℕ, suc, ◌+◌, ◌-◌, ◌*◌, ◌^◌, ◌≤◌, ◌<◌, true, false, List, [], ◌∷◌, ◌++◌, length, drop, get_or}
use Rattle.std.proofs.Common.{add-one, refl, sym, ap, subst, ◌∙◌, arith, rules, inl, inr}
use Rattle.std.specs.Fmt.{decimal}
use Rattle.std.proofs.lemmas.Str.Parse.{IsNumeralModel, numerals_by_fold, digits_value_short}
use Rattle.std.proofs.lemmas.Fmt.{digits_decimal, digits_value-decimal, decimal-digits_value, decimal_nonempty, first_decimal}
use Rattle.std.proofs.lemmas.Fmt.{length-decimal-le, decimal_digit}
use Rattle.std.proofs.Math.Seq.{drop-cons}
use Rattle.std.proofs.lemmas.Bool.{cases_lt, eq-eqb, ne_eqb}
use Rattle.std.proofs.lemmas.List.{length-drop, take-append-drop, nil_from_length}
use Rattle.line_grammar.proofs.Agree.{agree}
use Rattle.line_grammar.specs.Fitting.{is_digit, IsNumber}
use Rattle.line_grammar.specs.Reading.{run, value_from, number_at}
use Rattle.line_grammar.proofs.Agreement.{agree-other_head, agree-nil, cases_equal}
use Rattle.line_grammar.proofs.Exact.{Kind, Took, Stuck, Reads, Token}
use Rattle.line_grammar.proofs.Runs.{Parted, Passes, front, tested, run-pass, run-le, run_passes, run_apart, length-front}

abbrev pub number_kind : Kind ℕ
number_kind = record { text = decimal; fits = IsNumber; follow = Parted }

-- ---- the loop over the digits

pub value_goes : (n : ℕ) (ds : List ℕ) (i : ℕ) → i < length ds
    → value_from n (drop i ds) ≡ value_from (10 * n + (get_or ds i 0 - 48)) (drop (i + 1) ds)
unfolding value_from
value_goes n ds i lt = rw (add-one, drop-cons ds i 0 lt) refl

pub value_from-le : (n : ℕ) (ds : List ℕ) → n ≤ value_from n ds
unfolding value_from
value_from-le n [] = omega arith
value_from-le n (d ∷ ds) = let inner = value_from-le (10 * n + (d - 48)) ds in omega (arith, inner)

pub value_done : (n : ℕ) (ds : List ℕ) (i : ℕ) → length ds ≤ i → value_from n (drop i ds) ≡ n
unfolding value_from
value_done n ds i le = rw (nil_from_length (drop i ds) (let len = length-drop i ds in omega (arith, len))) refl

-- ---- numbers

pub own : IsNumeralModel (λ ds. Passes is_digit ds) (value_from 0)
unfolding value_from
own = numerals_by_fold _ (search rules) value_from (search rules)

pub digits_fit : (line : List ℕ) → value_from 0 (front is_digit 19 line) < 10 ^ 19
digits_fit line =
    let len = length-front is_digit 19 line in
    let most = (run-le is_digit 19 line).1 in
    digits_value_short own (front is_digit 19 line) 19 (run_passes is_digit 19 line) (omega (arith, len, most))

below_wide : (n : ℕ) → n < 10 ^ 19 → n < 2 ^ 64
below_wide n h = omega (arith, h)

zero_first : (n : ℕ) → n < 10 ^ 19 → get_or (decimal n) 0 0 ≡ 48 → n ≡ 0
zero_first n h e = elim (cases_lt 0 n) [
  | inl some ↦ absurd (let first = first_decimal n some (below_wide n h) in omega (arith, first, e))
  | inr none ↦ omega (arith, none)
]

at_cells : (n : ℕ) → n < 10 ^ 19 → (ds : List ℕ) → decimal n ≡ ds → Passes is_digit ds → 0 < length ds → length ds ≤ 19
    → (d : ℕ) × (more : List ℕ) × (decimal n ≡ d ∷ more) × Passes is_digit (d ∷ more) × (length (d ∷ more) ≤ 19) × (d ≡ 48 → n ≡ 0)
at_cells n h [] e pass some le = absurd (omega (arith, some))
at_cells n h (d ∷ ds) e pass some le = (d, ds, e, pass, le, λ z. zero_first n h (rw e z))

-- the text of a number in cells
pub decimal_cells : (n : ℕ) → n < 10 ^ 19
    → (d : ℕ) × (ds : List ℕ) × (decimal n ≡ d ∷ ds) × Passes is_digit (d ∷ ds) × (length (d ∷ ds) ≤ 19) × (d ≡ 48 → n ≡ 0)
decimal_cells n h = at_cells n h (decimal n) refl (digits_decimal own n (below_wide n h)) (decimal_nonempty n (below_wide n h))
    (length-decimal-le 19 n (omega arith) h (below_wide n h))

decimal-zero : decimal 0 ≡ 48 ∷ []
decimal-zero = decimal_digit 0 (omega arith)

-- a number of the line's digits, the first of which isn't 0
number_took : (b : ℕ) (line : List ℕ) → (b ≡ 48 → ⊥) → is_digit b ≡ true
    → Took number_kind (b ∷ line) (value_from 0 (front is_digit 19 (b ∷ line))) (drop (run is_digit 19 (b ∷ line)) (b ∷ line))
number_took b line nonzero e =
    let fits = digits_fit (b ∷ line) in
    let pass = run-pass is_digit 18 b line e in
    let len = length-front is_digit 19 (b ∷ line) in
    let text : decimal (value_from 0 (front is_digit 19 (b ∷ line))) ≡ front is_digit 19 (b ∷ line) =
    decimal-digits_value own (front is_digit 19 (b ∷ line)) (run_passes is_digit 19 (b ∷ line)) (omega (arith, len, pass))
    (rw pass (λ z. absurd (nonzero z))) (below_wide (value_from 0 (front is_digit 19 (b ∷ line))) fits) in
    record {
      fits = fits;
      parts = rw text (sym (take-append-drop (run is_digit 19 (b ∷ line)) (b ∷ line)));
      apart = λ m t h parted.
          let small = below_wide m h in
          let len_text = ap length text in
          elim (run_apart is_digit refl 19 (b ∷ line) (decimal m) t (digits_decimal own m small)
          (length-decimal-le 19 m (omega arith) h small) parted) [
            | inl same ↦ inl (sym (digits_value-decimal own m small) ∙ ap (value_from 0) same)
            | inr less ↦ inr (omega (arith, less, len, len_text))
          ];
    }

zero_took : (line : List ℕ) → Took number_kind (48 ∷ line) 0 line
zero_took line = record {
  fits = omega arith;
  parts = rw decimal-zero refl;
  apart = λ m t h parted.
      let cells = decimal_cells m h in
      elim (cases_equal 48 cells.0) [
        | inl same ↦ inl (cells.5 (sym same))
        | inr other ↦ inr (rw (cells.2) (let none = agree-other_head 48 cells.0 line (cells.1 ++ t) other in omega (arith, none)))
      ];
}

number_parts : (b : ℕ) (line : List ℕ) (m : ℕ) (t : List ℕ) → is_digit b ≡ false → m < 10 ^ 19 → agree (b ∷ line) (decimal m ++ t) ≡ 0
number_parts b line m t fails h =
    let cells = decimal_cells m h in
    rw (cells.2) (agree-other_head b cells.0 line (cells.1 ++ t) (λ e. let both : true ≡ false = sym cells.3.0 ∙ ap is_digit (sym e)
    ∙ fails in absurd cc))

number_stuck : (b : ℕ) (line : List ℕ) → is_digit b ≡ false → Stuck number_kind (b ∷ line) (suc (length line))
number_stuck b line fails = record {
  within = omega arith;
  sample = 0;
  fits = omega arith;
  reached = λ t. let none = number_parts b line 0 t fails (omega arith) in omega (arith, none);
  furthest = λ m t h parted. let none = number_parts b line m t fails h in omega (arith, none);
}

number_nothing : (m : ℕ) (t : List ℕ) → m < 10 ^ 19 → agree [] (decimal m ++ t) ≡ 0
number_nothing m t h = let cells = decimal_cells m h in rw (cells.2) (agree-nil (cells.1 ++ t) cells.0)

pub number_reads : (line : List ℕ) → Reads number_kind line (number_at line)
unfolding number_at
number_reads [] = record {
  within = omega arith;
  sample = 0;
  fits = omega arith;
  reached = λ t. let none = number_nothing 0 t (omega arith) in omega (arith, none);
  furthest = λ m t h parted. let none = number_nothing m t h in omega (arith, none);
}
number_reads (b ∷ line) =
    elim (cases_equal b 48) [
      | inl nil ↦ rw (eq-eqb b 48 nil) (subst (λ (d : ℕ). Took number_kind (d ∷ line) 0 line) (sym nil) (zero_took line))
      | inr other ↦ tested (is_digit b)
          (λ holds. rw (ne_eqb b 48 other, holds) (number_took b line other holds))
          (λ fails. rw (ne_eqb b 48 other, fails) (number_stuck b line fails))
    ]

pub zero_is_number : IsNumber 0
zero_is_number = omega arith

abbrev pub number : Token ℕ
number = record { kind = number_kind; read = number_at; reads = number_reads; sample = 0; sample_fits = zero_is_number }
