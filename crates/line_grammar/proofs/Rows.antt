-- This file shows that a row of tokens up to the end of the line is read exactly.
use Rattle.std.proofs.Common.{◌≡◌, ℕ, zero, suc, ◌≤◌, ◌<◌, List, [], ◌∷◌, ◌++◌, length, Result, Ok, Err, refl, sym, ap, subst, ◌∙◌, arith}
use Rattle.std.proofs.Common.{◌⊎◌, inl, inr}
use Rattle.std.specs.List.{flat_map, AllByRecursion}
use Rattle.std.proofs.lemmas.List.{length-append}
use Rattle.std.proofs.lemmas.List.Concat.{flat_map-cons}
use Rattle.line_grammar.specs.Reading.{◌>>=◌, rows_from, rows_at}
use Rattle.line_grammar.proofs.Agreement.{agree-cons_nil}
use Rattle.line_grammar.proofs.Exact.{Exact, Tail, Kind, Reads, Token, Then, goes_on}

-- what the tokens make of what was there before them
abbrev pub added : {A S : Type 0} → (S → A → S) → S → List A → S
added add s [] = s
added add s (a ∷ more) = added add (add s a) more

-- t is tokens one after the other, and c is what they make of s
pub record Row {A S : Type 0} (k : Kind A) (add : S → A → S) (s c : S) (t : List ℕ) : Type 0 where
  pub items : List A
  pub fits : AllByRecursion k.fits items
  pub text : t ≡ flat_map k.text items
  pub value : c ≡ added add s items

-- what tokens of a row must have: none is empty, and one may follow another
pub record IsRowToken {A : Type 0} (k : Kind A) : Type 0 where
  pub nonempty : (a : A) → k.fits a → 0 < length (k.text a)
  pub follows : (a : A) (t : List ℕ) → k.fits a → k.follow (k.text a ++ t)
  pub ends : k.follow []

row_follows : {A : Type 0} (k : Kind A) → IsRowToken k → (items : List A) → AllByRecursion k.fits items → k.follow (flat_map k.text items)
row_follows k is_row [] fits = is_row.ends
row_follows k is_row (a ∷ items) fits =
    subst k.follow (sym (flat_map-cons k.text a items)) (is_row.follows a (flat_map k.text items) fits.0)

-- a first token, and then a row
abbrev MoreOf : {A S : Type 0} → Kind A → (S → A → S) → S → S → List ℕ → Type 0
MoreOf k add s = Then k (λ a. Row k add (add s a))

row_more : {A S : Type 0} (k : Kind A) (add : S → A → S) (s c : S) (t : List ℕ) → MoreOf k add s c t → Row k add s c t
row_more k add s c t h = record {
  items = h.a ∷ h.spelled.items;
  fits = (h.fits, h.spelled.fits);
  text = h.parts ∙ ap (λ (x : List ℕ). k.text h.a ++ x) h.spelled.text ∙ sym (flat_map-cons k.text h.a h.spelled.items);
  value = h.spelled.value;
}

row_cases : {A S : Type 0} (k : Kind A) (add : S → A → S) (s c : S) (t : List ℕ) (items : List A)
    → AllByRecursion k.fits items → t ≡ flat_map k.text items → c ≡ added add s items → ((t ≡ []) × (c ≡ s)) ⊎ MoreOf k add s c t
row_cases k add s c t [] fits text value = inl (text, value)
row_cases k add s c t (a ∷ items) fits text value = inr (record {
  a = a;
  fits = fits.0;
  rest = flat_map k.text items;
  parts = text ∙ flat_map-cons k.text a items;
  spelled = record { items = items; fits = fits.1; text = refl; value = value };
})

-- before the end of the line the empty row changes nothing
not_ended : {A S : Type 0} (k : Kind A) (add : S → A → S) (s : S) (b : ℕ) (line : List ℕ) (r : Result S ℕ)
    → Exact (MoreOf k add s) (b ∷ line) r → Exact (Row k add s) (b ∷ line) r
not_ended k add s b line (Ok c) x = record {
  spelled = row_more k add s c (b ∷ line) x.spelled;
  alone = λ d h. elim (row_cases k add s d (b ∷ line) h.items h.fits h.text h.value) [
    | inl none ↦ let e = none.0 in absurd cc
    | inr more ↦ x.alone d more
  ];
}
not_ended k add s b line (Err left) x = record {
  within = x.within;
  value = x.value;
  text = x.text;
  spelled = row_more k add s x.value x.text x.spelled;
  reached = x.reached;
  furthest = λ c t h. elim (row_cases k add s c t h.items h.fits h.text h.value) [
    | inl none ↦ rw (none.0) (let e = agree-cons_nil line b in let within = x.within in omega (arith, e, within))
    | inr more ↦ x.furthest c t more
  ];
}

-- no token is empty, so none is behind the end
at_end : {A S : Type 0} (k : Kind A) (add : S → A → S) (s d : S) → IsRowToken k → (items : List A)
    → AllByRecursion k.fits items → [] ≡ flat_map k.text items → d ≡ added add s items → d ≡ s
at_end k add s d is_row [] fits text value = value
at_end k add s d is_row (a ∷ items) fits text value =
    let some = is_row.nonempty a fits.0 in
    let len = ap length (text ∙ flat_map-cons k.text a items) ∙ length-append (k.text a) (flat_map k.text items) in
    absurd (omega (arith, some, len))

row_step : {A S : Type 0} (k : Kind A) (read : List ℕ → Result (A × List ℕ) ℕ) (add : S → A → S) (n : ℕ) (s : S) (line : List ℕ)
    → IsRowToken k → length line ≤ suc n
    → ((s : S) (rest : List ℕ) → length rest ≤ n → Exact (Row k add s) rest (rows_from read add n s rest))
    → (r : Result (A × List ℕ) ℕ) → Reads k line r → Exact (MoreOf k add s) line (r >>= λ x. rows_from read add n (add s x.0) x.1)
row_step k read add n s line is_row le next (Ok x) took =
    let some = is_row.nonempty x.0 took.fits in
    let len = ap length took.parts ∙ length-append (k.text x.0) x.1 in
    goes_on k (λ a. Row k add (add s a)) line x.0 x.1 took
    (λ a fits c t h. subst k.follow (sym h.text) (row_follows k is_row h.items h.fits))
    (rows_from read add n (add s x.0) x.1) (next (add s x.0) x.1 (omega (arith, le, len, some)))
row_step k read add n s line is_row le next (Err left) stuck = record {
  within = stuck.within;
  value = add s stuck.sample;
  text = k.text stuck.sample ++ [];
  spelled = record {
    a = stuck.sample;
    fits = stuck.fits;
    rest = [];
    parts = refl;
    spelled = record { items = []; fits = tt; text = refl; value = refl };
  };
  reached = stuck.reached [];
  furthest = λ c t h.
      let follow = subst k.follow (sym h.spelled.text) (row_follows k is_row h.spelled.items h.spelled.fits) in
      rw (h.parts) (stuck.furthest h.a h.rest h.fits follow);
}

rows_exact : {A S : Type 0} (tok : Token A) (add : S → A → S) → IsRowToken tok.kind
    → (n : ℕ) (s : S) (line : List ℕ) → length line ≤ n → Exact (Row tok.kind add s) line (rows_from tok.read add n s line)
unfolding rows_from
rows_exact tok add is_row n s [] le = record {
  spelled = record { items = []; fits = tt; text = refl; value = refl };
  alone = λ d h. at_end tok.kind add s d is_row h.items h.fits h.text h.value;
}
rows_exact tok add is_row zero s (b ∷ line) le = absurd (omega (arith, le))
rows_exact tok add is_row (suc n) s (b ∷ line) le =
    not_ended tok.kind add s b line (tok.read (b ∷ line) >>= λ x. rows_from tok.read add n (add s x.0) x.1)
    (row_step tok.kind tok.read add n s (b ∷ line) is_row le (λ s rest le. rows_exact tok add is_row n s rest le)
    (tok.read (b ∷ line)) (tok.reads (b ∷ line)))

-- rows of tokens are read exactly
pub rows : {A S : Type 0} (tok : Token A) (add : S → A → S) (s : S) → IsRowToken tok.kind
    → Tail tok.kind.follow (Row tok.kind add s) (λ line. rows_at tok.read add s line)
rows tok add s is_row = record {
  exact = λ line. rows_exact tok add is_row (length line) s line (omega arith);
  value = s;
  text = [];
  spelled = record { items = []; fits = tt; text = refl; value = refl };
  stands = λ c t h. subst tok.kind.follow (sym h.text) (row_follows tok.kind is_row h.items h.fits);
}

-- ---- the loop over a row

pub bind_fuel : {A S : Type 0} (r : Result (A × List ℕ) ℕ) (f g : A × List ℕ → Result S ℕ)
    → ((x : A × List ℕ) → r ≡ Ok x → f x ≡ g x) → (r >>= f) ≡ (r >>= g)
bind_fuel (Ok x) f g same = same x refl
bind_fuel (Err left) f g same = refl

-- each token takes at least a byte
abbrev pub Shrinks : {A : Type 0} → (List ℕ → Result (A × List ℕ) ℕ) → Type 0
Shrinks {A = A} read = (line : List ℕ) (x : A × List ℕ) → read line ≡ Ok x → length x.1 < length line

rows_fuel : {A S : Type 0} (read : List ℕ → Result (A × List ℕ) ℕ) (add : S → A → S) → Shrinks read → (m n : ℕ) (s : S) (line : List ℕ)
    → length line ≤ m → length line ≤ n → rows_from read add m s line ≡ rows_from read add n s line
unfolding rows_from
rows_fuel read add shrinks m n s [] in_m in_n = refl
rows_fuel read add shrinks zero n s (b ∷ line) in_m in_n = absurd (omega (arith, in_m))
rows_fuel read add shrinks (suc m) zero s (b ∷ line) in_m in_n = absurd (omega (arith, in_n))
rows_fuel read add shrinks (suc m) (suc n) s (b ∷ line) in_m in_n =
    bind_fuel (read (b ∷ line)) (λ x. rows_from read add m (add s x.0) x.1) (λ x. rows_from read add n (add s x.0) x.1)
    (λ x e. let less = shrinks (b ∷ line) x e in
    rows_fuel read add shrinks m n (add s x.0) x.1 (omega (arith, less, in_m)) (omega (arith, less, in_n)))

-- a token, and then the others
pub rows_more : {A S : Type 0} (read : List ℕ → Result (A × List ℕ) ℕ) (add : S → A → S) → Shrinks read → (s : S) (line : List ℕ)
    → 0 < length line → rows_at read add s line ≡ (read line >>= λ x. rows_at read add (add s x.0) x.1)
unfolding rows_from
rows_more read add shrinks s [] some = absurd (omega (arith, some))
rows_more read add shrinks s (b ∷ line) some =
    bind_fuel (read (b ∷ line)) (λ x. rows_from read add (length line) (add s x.0) x.1) (λ x. rows_at read add (add s x.0) x.1)
    (λ x e. let less = shrinks (b ∷ line) x e in
    rows_fuel read add shrinks (length line) (length x.1) (add s x.0) x.1 (omega (arith, less)) (omega arith))

pub rows_ended : {A S : Type 0} (read : List ℕ → Result (A × List ℕ) ℕ) (add : S → A → S) (s : S) → rows_at read add s [] ≡ Ok s
unfolding rows_from
rows_ended read add s = refl

took_shrinks : {A : Type 0} (k : Kind A) → IsRowToken k → (line : List ℕ) (r : Result (A × List ℕ) ℕ) → Reads k line r
    → (x : A × List ℕ) → r ≡ Ok x → length x.1 < length line
took_shrinks k is_row line (Ok y) took x e =
    let same : y ≡ x = cc in
    let some = is_row.nonempty y.0 took.fits in
    let len = ap length took.parts ∙ length-append (k.text y.0) y.1 in
    rw (← same) (omega (arith, some, len))
took_shrinks k is_row line (Err left) stuck x e = absurd cc

pub shrinks : {A : Type 0} (tok : Token A) → IsRowToken tok.kind → Shrinks tok.read
shrinks tok is_row line x e = took_shrinks tok.kind is_row line (tok.read line) (tok.reads line) x e
