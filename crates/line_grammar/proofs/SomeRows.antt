-- This file shows that one or more tokens up to the end of the line are read exactly.
use Rattle.std.proofs.Common.{◌≡◌, ℕ, ◌<◌, List, [], ◌∷◌, ◌++◌, length, Result, Ok, Err, refl, sym, ap, subst, ◌∙◌, append_assoc}
use Rattle.std.specs.List.{flat_map, AllByRecursion}
use Rattle.std.proofs.lemmas.List.{append-nil}
use Rattle.std.proofs.lemmas.List.Concat.{flat_map-cons}
use Rattle.line_grammar.specs.declared.fault.ReadError.{ReadError}
use Rattle.line_grammar.specs.declared.fault.ReadError.TheVariants as errors
use Rattle.line_grammar.specs.Fitting.{IsNonempty}
use Rattle.line_grammar.specs.Reading.{◌>>=◌, Fails, rows_at, push}
use Rattle.line_grammar.proofs.Exact.{Tail, Tail-same, Kind, Token, Then, then, Spells}
use Rattle.line_grammar.proofs.Rows.{Row, added, IsRowToken, rows, Shrinks, rows_more}

-- pushing each of the items appends them
pub added-push : {A : Type 0} (s items : List A) → added push s items ≡ s ++ items
added-push s [] = sym (append-nil s)
added-push s (a ∷ items) = added-push (s ++ a ∷ []) items ∙ append_assoc s (a ∷ []) items

-- one or more that fit, one after the other
abbrev pub SomeOf : {A : Type 0} → Kind A → List A → List ℕ → Type 0
SomeOf {A = A} k = Spells (λ (xs : List A). IsNonempty xs × AllByRecursion k.fits xs) (λ (xs : List A). flat_map k.text xs)

-- a first token, and then a row
abbrev FirstAndRow : {A : Type 0} → Kind A → List A → List ℕ → Type 0
FirstAndRow k = Then k (λ a. Row k push (a ∷ []))

row_is_some : {A : Type 0} (k : Kind A) (xs : List A) (s : List ℕ) → FirstAndRow k xs s → SomeOf k xs s
row_is_some {A = A} k xs s h =
    let row = h.spelled in
    let is : xs ≡ h.a ∷ row.items = row.value ∙ added-push (h.a ∷ []) row.items in
    let text : s ≡ flat_map k.text (h.a ∷ row.items) =
    h.parts ∙ ap (λ (t : List ℕ). k.text h.a ++ t) row.text ∙ sym (flat_map-cons k.text h.a row.items) in
    subst (λ (ys : List A). SomeOf k ys s) (sym is) ((tt, (h.fits, row.fits)), text)

some_is_row : {A : Type 0} (k : Kind A) (xs : List A) (s : List ℕ) → SomeOf k xs s → FirstAndRow k xs s
some_is_row k [] s h = absurd h.0.0
some_is_row k (x ∷ xs) s h = record {
  a = x;
  fits = h.0.1.0;
  rest = flat_map k.text xs;
  parts = h.1 ∙ flat_map-cons k.text x xs;
  spelled = record { items = xs; fits = h.0.1.1; text = refl; value = sym (added-push (x ∷ []) xs) };
}

-- one or more tokens up to the end of the line are read exactly
pub some_rows : {A : Type 0} (tok : Token A) (Before : List ℕ → Type 0) → IsRowToken tok.kind
    → ((a : A) (t : List ℕ) → tok.kind.fits a → Before (tok.kind.text a ++ t))
    → Tail Before (SomeOf tok.kind) (λ line. tok.read line >>= λ x. rows_at tok.read push (x.0 ∷ []) x.1)
some_rows tok Before is_row before =
    Tail-same Before (FirstAndRow tok.kind) (SomeOf tok.kind) (λ line. tok.read line >>= λ x. rows_at tok.read push (x.0 ∷ []) x.1)
    (row_is_some tok.kind) (some_is_row tok.kind)
    (then tok Before (λ a. Row tok.kind push (a ∷ [])) (λ a line. rows_at tok.read push (a ∷ []) line)
    (λ a fits. rows tok push (a ∷ []) is_row) before)

-- ---- the loop over the tokens

-- a token joins those before it
pub row_goes : {A S : Type 0} (read : List ℕ → Result (A × List ℕ) ℕ) (add : S → A → S) → Shrinks read → (s : S) (rest : List ℕ) (a : A)
    → (after : List ℕ) (total : Result S ℕ) → 0 < length rest → read rest ≡ Ok (a, after) → rows_at read add s rest ≡ total
    → rows_at read add (add s a) after ≡ total
row_goes read add shrinks s rest a after total some found so_far =
    let step : rows_at read add s rest ≡ rows_at read add (add s a) after = rw (rows_more read add shrinks s rest some, found) refl in
    sym step ∙ so_far

-- where a token stops, the row stops
pub row_fails : {A S : Type 0} (e : ReadError) (read : List ℕ → Result (A × List ℕ) ℕ) (add : S → A → S) → Shrinks read → (s : S)
    → (rest : List ℕ) (total : Result S ℕ) → 0 < length rest → Fails e (read rest) → rows_at read add s rest ≡ total → Fails e total
row_fails errors.NoMemory read add shrinks s rest total some stopped so_far = tt
row_fails (errors.Stopped left) read add shrinks s rest total some stopped so_far =
    let step : rows_at read add s rest ≡ Err left = rw (rows_more read add shrinks s rest some, stopped) refl in
    sym so_far ∙ step
