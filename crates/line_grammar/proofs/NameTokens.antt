-- This file shows that names are read exactly.
use Rattle.std.proofs.Common.{◌≡◌, ℕ, suc, ◌≤◌, true, false, List, [], ◌∷◌, ◌++◌, length, drop, refl, sym, ap, ◌∙◌, arith, inl, inr}
use Rattle.std.proofs.lemmas.List.{take-append-drop}
use Rattle.line_grammar.proofs.Agree.{agree}
use Rattle.line_grammar.specs.Fitting.{is_letter, is_name_byte, IsName}
use Rattle.line_grammar.specs.Reading.{run, name_at}
use Rattle.line_grammar.proofs.Agreement.{agree-other_head, agree-nil}
use Rattle.line_grammar.proofs.Exact.{Kind, Took, Stuck, Reads, Token}
use Rattle.line_grammar.proofs.Runs.{Parted, Passes, front, tested, run-pass, run-le, run_passes, run_apart, length-front}

abbrev pub name_kind : Kind (List ℕ)
name_kind = record { text = λ n. n; fits = IsName; follow = Parted }

letter_is_name_byte : (b : ℕ) → is_letter b ≡ true → is_name_byte b ≡ true
letter_is_name_byte b e = rw e refl

IsName-passes : (n : List ℕ) → IsName n → Passes is_name_byte n × (length n ≤ 32)
IsName-passes [] h = absurd h
IsName-passes (b ∷ bs) h = ((letter_is_name_byte b h.0, h.1), omega (arith, h.2))

name_front : (b : ℕ) (line : List ℕ) → is_letter b ≡ true → IsName (front is_name_byte 32 (b ∷ line))
name_front b line e =
    let pass = run-pass is_name_byte 31 b line (letter_is_name_byte b e) in
    let len = length-front is_name_byte 31 line in
    let most = (run-le is_name_byte 31 line).1 in
    rw pass (e, run_passes is_name_byte 31 line, omega (arith, len, most))

no_name_at : (b : ℕ) (line n t : List ℕ) → is_letter b ≡ false → IsName n → agree (b ∷ line) (n ++ t) ≡ 0
no_name_at b line [] t fails h = absurd h
no_name_at b line (c ∷ n) t fails h = agree-other_head b c line (n ++ t) (λ e. let both : true ≡ false = sym h.0 ∙ ap is_letter (sym e)
    ∙ fails in absurd cc)

name_stuck : (b : ℕ) (line : List ℕ) → is_letter b ≡ false → Stuck name_kind (b ∷ line) (suc (length line))
name_stuck b line e = record {
  within = omega arith;
  sample = 97 ∷ [];
  fits = (refl, tt, omega arith);
  reached = λ t. let none = no_name_at b line (97 ∷ []) t e (refl, tt, omega arith) in omega (arith, none);
  furthest = λ n t h parted. let none = no_name_at b line n t e h in omega (arith, none);
}

name_took : (b : ℕ) (line : List ℕ) → is_letter b ≡ true
    → Took name_kind (b ∷ line) (front is_name_byte 32 (b ∷ line)) (drop (run is_name_byte 32 (b ∷ line)) (b ∷ line))
name_took b line e = record {
  fits = name_front b line e;
  parts = sym (take-append-drop (run is_name_byte 32 (b ∷ line)) (b ∷ line));
  apart = λ n t h parted.
      let passes = IsName-passes n h in
      let len = length-front is_name_byte 32 (b ∷ line) in
      elim (run_apart is_name_byte refl 32 (b ∷ line) n t passes.0 passes.1 parted) [
        | inl same ↦ inl same
        | inr less ↦ inr (omega (arith, less, len))
      ];
}

name_nothing : (n t : List ℕ) → IsName n → agree [] (n ++ t) ≡ 0
name_nothing [] t h = absurd h
name_nothing (c ∷ n) t h = agree-nil (n ++ t) c

pub name_reads : (line : List ℕ) → Reads name_kind line (name_at line)
unfolding name_at
name_reads [] = record {
  within = omega arith;
  sample = 97 ∷ [];
  fits = (refl, tt, omega arith);
  reached = λ t. let none = agree-nil t 97 in omega (arith, none);
  furthest = λ n t h parted. let none = name_nothing n t h in omega (arith, none);
}
name_reads (b ∷ line) = tested (is_letter b)
    (λ holds. rw holds (name_took b line holds))
    (λ fails. rw fails (name_stuck b line fails))

pub a_is_name : IsName (97 ∷ [])
a_is_name = (refl, tt, omega arith)

abbrev pub name : Token (List ℕ)
name = record { kind = name_kind; read = name_at; reads = name_reads; sample = 97 ∷ []; sample_fits = a_is_name }
