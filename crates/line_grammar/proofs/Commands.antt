-- This file shows that lines are read exactly.
use Rattle.std.proofs.Common.{◌≡◌, ℕ, List, ◌++◌, Result, Ok, Err, arith, refl, sym, ap, subst, ◌∙◌}
use Rattle.line_grammar.specs.declared.command.Command.{Command}
use Rattle.line_grammar.specs.declared.command.Keyword.{Keyword}
use Rattle.line_grammar.specs.Slots.{Values, Filling, Fits, spelled, fits_in, text_in}
use Rattle.line_grammar.specs.Rows.{Row, Line, row, word_of, slots_of, said_by, parts}
use Rattle.line_grammar.specs.Spelling.{command_text}
use Rattle.line_grammar.specs.Spellable.{IsSpellable}
use Rattle.line_grammar.specs.Lines.{Says}
use Rattle.line_grammar.specs.Forms.{command_at}
use Rattle.line_grammar.proofs.Agreement.{agree-self}
use Rattle.line_grammar.proofs.Exact.{Exact, Exact-same, Then}
use Rattle.line_grammar.proofs.WordLemmas.{keyword_token}
use Rattle.line_grammar.proofs.CommandRows.{parts_said, said_parts}
use Rattle.line_grammar.proofs.FormLemmas.{Filled, whole}

-- ---- the lines of rows are texts of commands

-- these parts fit, and s is their text
abbrev IsSaid : Keyword × Filling → List ℕ → Type 0
IsSaid p s = fits_in p.1 × (s ≡ word_of (row p.0) ++ text_in p.1)

row_said : (r : Row) (c : Command) (rest : List ℕ) → Filled r c rest
    → (v : Values (slots_of r)) × (c ≡ said_by r v) × Fits (slots_of r) v × (rest ≡ spelled (slots_of r) v)
row_said (Line word slots said) c rest h = (h.value, h.made, h.spelled.0, h.spelled.1)

whole_said : (c : Command) (s : List ℕ) → Then keyword_token.kind (λ k. Filled (row k)) c s → Says s c
whole_said c s h =
    let v = row_said (row h.a) c h.rest h.spelled in
    subst (λ (p : Keyword × Filling). IsSaid p s) (sym (ap parts v.1 ∙ parts_said h.a v.0))
    (v.2, h.parts ∙ ap (λ (t : List ℕ). word_of (row h.a) ++ t) v.3)

row_filled : (r : Row) (c : Command) (v : Values (slots_of r)) → c ≡ said_by r v → Fits (slots_of r) v
    → Filled r c (spelled (slots_of r) v)
row_filled (Line word slots said) c v is fits = record { value = v; made = is; spelled = (fits, refl) }

whole_formed : (c : Command) (s : List ℕ) → Says s c → Then keyword_token.kind (λ k. Filled (row k)) c s
whole_formed c s h =
    let first = (parts c).0 in
    let v = said_parts c in
    record {
      a = first;
      fits = tt;
      rest = spelled (slots_of (row first)) v.0;
      parts = h.1 ∙ ap (λ (p : Keyword × Filling). word_of (row first) ++ text_in p.1) v.1;
      spelled = row_filled (row first) c v.0 v.2 (subst (λ (p : Keyword × Filling). fits_in p.1) v.1 h.0);
    }

-- each line is read as the commands' texts ask for
pub exact_lines : (line : List ℕ) → Exact (λ c s. Says s c) line (command_at line)
exact_lines line =
    Exact-same (Then keyword_token.kind (λ k. Filled (row k))) (λ c s. Says s c) line (command_at line)
    whole_said whole_formed (whole.exact line)

-- what is read of a text is its only command
one_spelled : (s : List ℕ) (r : Result Command ℕ) → Exact (λ c t. Says t c) s r → (c d : Command) → Says s c → Says s d → c ≡ d
one_spelled s (Ok e) x c d says also = x.alone c says ∙ sym (x.alone d also)
one_spelled s (Err left) x c d says also =
    absurd (let whole = agree-self s in let less = x.furthest c s says in omega (arith, whole, less))

pub one_command : (c d : Command) → IsSpellable c → IsSpellable d → command_text c ≡ command_text d → c ≡ d
one_command c d fits also same =
    one_spelled (command_text c) (command_at (command_text c)) (exact_lines (command_text c)) c d (fits, refl) (also, same)
