-- This file shows that a place with or without a semicolon before it is read exactly.
use Rattle.std.proofs.Common.{◌≡◌, ℕ, ◌+◌, ◌≤◌, Bool, true, false, List, [], ◌∷◌, ◌++◌, length, Result, Ok, Err, refl, sym, ap, subst, ◌∙◌}
use Rattle.std.proofs.Common.{arith, ◌⊎◌, inl, inr}
use Rattle.std.specs.Prelude.{codes}
use Rattle.std.proofs.lemmas.Bool.{eq-eqb, ne_eqb}
use Rattle.std.proofs.lemmas.List.{length-append}
use Rattle.line_grammar.specs.declared.command.At.{At}
use Rattle.line_grammar.proofs.Agree.{agree}
use Rattle.line_grammar.specs.Pieces.{space, point}
use Rattle.line_grammar.specs.Fitting.{is_digit, IsPoint}
use Rattle.line_grammar.specs.Reading.{◌>>=◌, literal_at}
use Rattle.line_grammar.specs.Listing.{semicolon_at, item_at}
use Rattle.line_grammar.proofs.Agreement.{agree-other_head, agree-nil, agree-cons_nil, cases_equal}
use Rattle.line_grammar.proofs.Exact.{Kind, Took, Reads, Token}
use Rattle.line_grammar.proofs.Literals.{IsLiteral, literal_is, led}
use Rattle.line_grammar.proofs.Pairs.{pair}
use Rattle.line_grammar.proofs.Rows.{IsRowToken}
use Rattle.line_grammar.proofs.Numbers.{decimal_cells}
use Rattle.line_grammar.proofs.Choices.{Each}
use Rattle.line_grammar.proofs.PlaceRows.{place}

-- no semicolon comes next
abbrev pub NoSemicolon : List ℕ → Type 0
NoSemicolon [] = Unit {0}
NoSemicolon (b ∷ bs) = b ≡ 59 → ⊥

abbrev pub mark : Bool → List ℕ
mark true = codes "; "
mark false = []

abbrev pub mark_kind : Kind Bool
mark_kind = record { text = mark; fits = Each; follow = NoSemicolon }

pub point_no_semicolon : (p : At) (t : List ℕ) → IsPoint p → NoSemicolon (point p ++ t)
point_no_semicolon p t fits =
    let cells = decimal_cells p.x fits.0 in
    rw (cells.2) (λ e. let both : true ≡ false = sym cells.3.0 ∙ ap is_digit e in absurd cc)

other_parts : (b : ℕ) (line t : List ℕ) → (b ≡ 59 → ⊥) → agree (b ∷ line) (codes "; " ++ t) ≡ 0
other_parts b line t other = agree-other_head b 59 line (32 ∷ t) other

semicolon_parts : (line t : List ℕ) → NoSemicolon t → agree (59 ∷ line) t ≡ 0
semicolon_parts line [] no_mark = agree-cons_nil line 59
semicolon_parts line (c ∷ t) no_mark = agree-other_head 59 c line t (λ e. no_mark (sym e))

mark_reads : (line : List ℕ) (r : Result (List ℕ) ℕ) → IsLiteral (codes "; ") (59 ∷ line) r
    → Reads mark_kind (59 ∷ line) (r >>= λ rest. Ok (true, rest))
mark_reads line (Ok rest) e = record {
  fits = tt;
  parts = e;
  apart = λ b t fits follow. elim b as (λ (x : Bool). (x ≡ true) ⊎ (agree (59 ∷ line) (mark x ++ t) ≤ length (mark true))) [
    | true ↦ inl refl
    | false ↦ inr (let none = semicolon_parts line t follow in omega (arith, none))
  ];
}
mark_reads line (Err left) h = record {
  within = h.0;
  sample = true;
  fits = tt;
  reached = h.1;
  furthest = λ b t fits follow. elim b as (λ (x : Bool). agree (59 ∷ line) (mark x ++ t) + left ≤ length (59 ∷ line)) [
    | true ↦ (let e = h.1 t in omega (arith, e))
    | false ↦ (let none = semicolon_parts line t follow in let within = h.0 in omega (arith, none, within))
  ];
}

no_mark_took : (b : ℕ) (line : List ℕ) → (b ≡ 59 → ⊥) → Took mark_kind (b ∷ line) false (b ∷ line)
no_mark_took b line other = record {
  fits = tt;
  parts = refl;
  apart = λ x t fits follow. elim x as (λ (y : Bool). (y ≡ false) ⊎ (agree (b ∷ line) (mark y ++ t) ≤ length (mark false))) [
    | true ↦ inr (let none = other_parts b line t other in omega (arith, none))
    | false ↦ inl refl
  ];
}

pub semicolon_reads : (line : List ℕ) → Reads mark_kind line (semicolon_at line)
unfolding semicolon_at
semicolon_reads [] = record {
  fits = tt;
  parts = refl;
  apart = λ x t fits follow. elim x as (λ (y : Bool). (y ≡ false) ⊎ (agree [] (mark y ++ t) ≤ length (mark false))) [
    | true ↦ inr (let none = agree-nil (32 ∷ t) 59 in omega (arith, none))
    | false ↦ inl refl
  ];
}
semicolon_reads (b ∷ line) = elim (cases_equal b 59) [
  | inl same ↦ rw (eq-eqb b 59 same)
      (subst (λ (c : ℕ). Reads mark_kind (c ∷ line) (literal_at (codes "; ") (c ∷ line) >>= λ rest. Ok (true, rest))) (sym same)
      (mark_reads line (literal_at (codes "; ") (59 ∷ line)) (literal_is (codes "; ") (59 ∷ line))))
  | inr other ↦ rw (ne_eqb b 59 other) (no_mark_took b line other)
]

abbrev pub semicolon : Token Bool
semicolon = record { kind = mark_kind; read = semicolon_at; reads = semicolon_reads; sample = false; sample_fits = tt }

abbrev pub mark_and_place : Token (Bool × At)
mark_and_place = pair (led space semicolon) place (λ p t fits follow. point_no_semicolon p t fits)

pub item_reads : (line : List ℕ) → Reads mark_and_place.kind line (item_at line)
unfolding item_at
item_reads line = mark_and_place.reads line

-- a place behind a space, with or without a semicolon before it
abbrev pub item : Token (Bool × At)
item = record {
  kind = mark_and_place.kind;
  read = item_at;
  reads = item_reads;
  sample = mark_and_place.sample;
  sample_fits = mark_and_place.sample_fits;
}

abbrev pub item_text : Bool × At → List ℕ
item_text = item.kind.text

abbrev pub ItemFits : Bool × At → Type 0
ItemFits = item.kind.fits

pub item_row : IsRowToken item.kind
item_row = record {
  nonempty = λ i fits.
      let len = length-append (space ++ mark i.0) (point i.1) in
      let more = length-append space (mark i.0) in
      omega (arith, len, more);
  follows = λ i t fits. refl;
  ends = tt;
}
