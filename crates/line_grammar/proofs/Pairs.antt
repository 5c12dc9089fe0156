-- This file shows that two tokens, one after the other, are a token.
use Rattle.std.proofs.Common.{◌≡◌, ℕ, ◌+◌, ◌≤◌, List, ◌++◌, length, Result, Ok, Err, sym, ap, subst, ◌∙◌, arith, ◌⊎◌, inl, inr}
use Rattle.std.proofs.Common.{append_assoc}
use Rattle.std.proofs.lemmas.List.{length-append}
use Rattle.line_grammar.proofs.Agree.{agree}
use Rattle.line_grammar.specs.Reading.{◌>>=◌}
use Rattle.line_grammar.proofs.Agreement.{agree-append}
use Rattle.line_grammar.proofs.Exact.{Kind, Took, Stuck, Reads, Token}

-- a token of the first kind and then one of the second
abbrev pub both_kinds : {A B : Type 0} → Kind A → Kind B → Kind (A × B)
both_kinds k l = record { text = λ p. k.text p.0 ++ l.text p.1; fits = λ p. k.fits p.0 × l.fits p.1; follow = l.follow }

-- every token of the second kind may follow one of the first
abbrev pub Joins : {A B : Type 0} → Kind A → Kind B → Type 0
Joins {B = B} k l = (b : B) (t : List ℕ) → l.fits b → l.follow t → k.follow (l.text b ++ t)

abbrev pair_of : {A B : Type 0} → A → B → A × B
pair_of a b = (a, b)

pair_is : {A B : Type 0} (x y : A) (u v : B) → x ≡ y → u ≡ v → pair_of x u ≡ pair_of y v
pair_is x y u v same also = cc

-- a pair with the same first token agrees as far as the second tokens do
agree-both : {A B : Type 0} (k : Kind A) (l : Kind B) (line : List ℕ) (a : A) (rest : List ℕ) (p : A × B) (t : List ℕ)
    → Took k line a rest → p.0 ≡ a → agree line ((k.text p.0 ++ l.text p.1) ++ t) ≡ length (k.text a) + agree rest (l.text p.1 ++ t)
agree-both {A = A} k l line a rest p t took same =
    ap (agree line) (append_assoc (k.text p.0) (l.text p.1) t)
    ∙ subst (λ (x : A). agree line (k.text x ++ (l.text p.1 ++ t)) ≡ length (k.text a) + agree rest (l.text p.1 ++ t)) (sym same)
    (rw (took.parts) (agree-append (k.text a) rest (l.text p.1 ++ t)))

-- a pair with another first token parts within it
agree-other : {A B : Type 0} (k : Kind A) (l : Kind B) (line : List ℕ) (a : A) (p : A × B) (t : List ℕ)
    → agree line (k.text p.0 ++ (l.text p.1 ++ t)) ≤ length (k.text a) → agree line ((k.text p.0 ++ l.text p.1) ++ t) ≤ length (k.text a)
agree-other k l line a p t less =
    subst (λ (s : List ℕ). agree line s ≤ length (k.text a)) (sym (append_assoc (k.text p.0) (l.text p.1) t)) less

both_apart : {A B : Type 0} (k : Kind A) (l : Kind B) (line : List ℕ) (a : A) (rest : List ℕ) (y : B) (behind : List ℕ)
    → Took k line a rest → Joins k l → Took l rest y behind → (p : A × B) (t : List ℕ) → k.fits p.0 × l.fits p.1 → l.follow t
    → (p ≡ pair_of a y) ⊎ (agree line ((k.text p.0 ++ l.text p.1) ++ t) ≤ length (k.text a ++ l.text y))
both_apart k l line a rest y behind first joins second p t fits follow =
    let len = length-append (k.text a) (l.text y) in
    elim (first.apart p.0 (l.text p.1 ++ t) fits.0 (joins p.1 t fits.1 follow)) [
      | inl same ↦
          elim (second.apart p.1 t fits.1 follow) [
            | inl also ↦ inl (pair_is p.0 a p.1 y same also)
            | inr less ↦ inr (let here = agree-both k l line a rest p t first same in omega (arith, here, less, len))
          ]
      | inr less ↦ inr (let here = agree-other k l line a p t less in omega (arith, here, len))
    ]

both_furthest : {A B : Type 0} (k : Kind A) (l : Kind B) (line : List ℕ) (a : A) (rest : List ℕ) (left : ℕ)
    → Took k line a rest → Joins k l → Stuck l rest left → length line ≡ length (k.text a) + length rest
    → (p : A × B) (t : List ℕ) → k.fits p.0 × l.fits p.1 → l.follow t → agree line ((k.text p.0 ++ l.text p.1) ++ t) + left ≤ length line
both_furthest k l line a rest left first joins second len p t fits follow =
    let within = second.within in
    elim (first.apart p.0 (l.text p.1 ++ t) fits.0 (joins p.1 t fits.1 follow)) [
      | inl same ↦
          let here = agree-both k l line a rest p t first same in
          let inner = second.furthest p.1 t fits.1 follow in
          omega (arith, here, inner, len)
      | inr less ↦ let here = agree-other k l line a p t less in omega (arith, here, len, within)
    ]

second_reads : {A B : Type 0} (k : Kind A) (l : Kind B) (line : List ℕ) (a : A) (rest : List ℕ) → Took k line a rest → Joins k l
    → (r : Result (B × List ℕ) ℕ) → Reads l rest r → Reads (both_kinds k l) line (r >>= λ y. Ok ((a, y.0), y.1))
second_reads k l line a rest first joins (Ok y) second = record {
  fits = (first.fits, second.fits);
  parts = first.parts ∙ ap (λ (s : List ℕ). k.text a ++ s) second.parts ∙ sym (append_assoc (k.text a) (l.text y.0) y.1);
  apart = both_apart k l line a rest y.0 y.1 first joins second;
}
second_reads k l line a rest first joins (Err left) second =
    let len : length line ≡ length (k.text a) + length rest = ap length first.parts ∙ length-append (k.text a) rest in
    let within = second.within in
    record {
      within = omega (arith, len, within);
      sample = (a, second.sample);
      fits = (first.fits, second.fits);
      reached = λ t.
          let here : agree line ((k.text a ++ l.text second.sample) ++ t) ≡ length (k.text a) + agree rest (l.text second.sample ++ t) =
          ap (agree line) (append_assoc (k.text a) (l.text second.sample) t)
          ∙ rw (first.parts) (agree-append (k.text a) rest (l.text second.sample ++ t)) in
          let inner = second.reached t in
          omega (arith, here, inner, len);
      furthest = both_furthest k l line a rest left first joins second len;
    }

pub first_reads : {A B : Type 0} (k : Kind A) (tok : Token B) (line : List ℕ) → Joins k tok.kind → (r : Result (A × List ℕ) ℕ)
    → Reads k line r
    → Reads (both_kinds k tok.kind) line (r >>= λ x. tok.read x.1 >>= λ y. Ok ((x.0, y.0), y.1))
first_reads k tok line joins (Ok x) took = second_reads k tok.kind line x.0 x.1 took joins (tok.read x.1) (tok.reads x.1)
first_reads k tok line joins (Err left) stuck = record {
  within = stuck.within;
  sample = (stuck.sample, tok.sample);
  fits = (stuck.fits, tok.sample_fits);
  reached = λ t. rw (append_assoc (k.text stuck.sample) (tok.kind.text tok.sample) t) (stuck.reached (tok.kind.text tok.sample ++ t));
  furthest = λ p t fits follow.
      rw (append_assoc (k.text p.0) (tok.kind.text p.1) t)
      (stuck.furthest p.0 (tok.kind.text p.1 ++ t) fits.0 (joins p.1 t fits.1 follow));
}

-- two tokens are a token, where what the second begins with may follow the first
abbrev pub pair : {A B : Type 0} (first : Token A) (second : Token B) → Joins first.kind second.kind → Token (A × B)
pair first second joins = record {
  kind = both_kinds first.kind second.kind;
  read = λ line. first.read line >>= λ x. second.read x.1 >>= λ y. Ok ((x.0, y.0), y.1);
  reads = λ line. first_reads first.kind second line joins (first.read line) (first.reads line);
  sample = (first.sample, second.sample);
  sample_fits = (first.sample_fits, second.sample_fits);
}
