-- This file shows that a token and a rest that is read exactly are read exactly together.
use Rattle.std.proofs.Common.{◌≡◌, ℕ, suc, ◌+◌, ◌≤◌, List, ◌++◌, length, Result, Ok, Err, refl, sym, ap, subst, ◌∙◌, arith, ◌⊎◌, inl, inr}
use Rattle.std.proofs.lemmas.List.{length-append, append_cancel_left}
use Rattle.line_grammar.proofs.Agree.{agree}
use Rattle.line_grammar.specs.Reading.{◌>>=◌}
use Rattle.line_grammar.proofs.Agreement.{agree-append, agree-self}

-- ---- readers of a whole rest

-- T spells nothing that goes further than where `left` bytes of the line are left, and something that goes so far
pub record Stops {C : Type 0} (T : C → List ℕ → Type 0) (line : List ℕ) (left : ℕ) : Type 0 where
  pub within : left ≤ length line
  pub value : C
  pub text : List ℕ
  pub spelled : T value text
  pub reached : agree line text + left ≡ length line
  pub furthest : (c : C) (s : List ℕ) → T c s → agree line s + left ≤ length line

-- T spells the line by this value alone
pub record Spelled {C : Type 0} (T : C → List ℕ → Type 0) (line : List ℕ) (c : C) : Type 0 where
  pub spelled : T c line
  pub alone : (d : C) → T d line → d ≡ c

-- what was answered for the line is right of the texts T
abbrev pub Exact : {C : Type 0} → (C → List ℕ → Type 0) → List ℕ → Result C ℕ → Type 0
Exact T line (Ok c) = Spelled T line c
Exact T line (Err left) = Stops T line left

-- a reader of texts T, each of which may stand where Before asks
pub record Tail {C : Type 0} (Before : List ℕ → Type 0) (T : C → List ℕ → Type 0) (read : List ℕ → Result C ℕ) : Type 0 where
  pub exact : (rest : List ℕ) → Exact T rest (read rest)
  pub value : C
  pub text : List ℕ
  pub spelled : T value text
  pub stands : (c : C) (t : List ℕ) → T c t → Before t

-- the same texts in other words
pub Exact-same : {C : Type 0} (T V : C → List ℕ → Type 0) (line : List ℕ) (r : Result C ℕ)
    → ((c : C) (s : List ℕ) → T c s → V c s) → ((c : C) (s : List ℕ) → V c s → T c s) → Exact T line r → Exact V line r
Exact-same T V line (Ok c) to from x = record { spelled = to c line x.spelled; alone = λ d h. x.alone d (from d line h) }
Exact-same T V line (Err left) to from x = record {
  within = x.within;
  value = x.value;
  text = x.text;
  spelled = to x.value x.text x.spelled;
  reached = x.reached;
  furthest = λ c s h. x.furthest c s (from c s h);
}

pub Tail-same : {C : Type 0} (Before : List ℕ → Type 0) (T V : C → List ℕ → Type 0) (read : List ℕ → Result C ℕ)
    → ((c : C) (s : List ℕ) → T c s → V c s) → ((c : C) (s : List ℕ) → V c s → T c s) → Tail Before T read → Tail Before V read
Tail-same Before T V read to from tail = record {
  exact = λ rest. Exact-same T V rest (read rest) to from (tail.exact rest);
  value = tail.value;
  text = tail.text;
  spelled = to tail.value tail.text tail.spelled;
  stands = λ c t h. tail.stands c t (from c t h);
}

-- c is one of those that fit, and s is its text
abbrev pub Spells : {C : Type 0} → (C → Type 0) → (C → List ℕ) → C → List ℕ → Type 0
Spells fits text c s = fits c × (s ≡ text c)

-- ---- readers of a token

-- how each token is written, which of them there are, and what may follow them
pub record Kind (A : Type 0) : Type 1 where
  pub text : A → List ℕ
  pub fits : A → Type 0
  pub follow : List ℕ → Type 0

-- the token a was taken from the front of the line, and what has another token parts from the line within it
pub record Took {A : Type 0} (k : Kind A) (line : List ℕ) (a : A) (rest : List ℕ) : Type 0 where
  pub fits : k.fits a
  pub parts : line ≡ k.text a ++ rest
  pub apart : (b : A) (t : List ℕ) → k.fits b → k.follow t → (b ≡ a) ⊎ (agree line (k.text b ++ t) ≤ length (k.text a))

-- no token is at the front, and the line parts from each of them where `left` bytes are left, or before
pub record Stuck {A : Type 0} (k : Kind A) (line : List ℕ) (left : ℕ) : Type 0 where
  pub within : left ≤ length line
  pub sample : A
  pub fits : k.fits sample
  pub reached : (t : List ℕ) → agree line (k.text sample ++ t) + left ≡ length line
  pub furthest : (b : A) (t : List ℕ) → k.fits b → k.follow t → agree line (k.text b ++ t) + left ≤ length line

abbrev pub Reads : {A : Type 0} → Kind A → List ℕ → Result (A × List ℕ) ℕ → Type 0
Reads k line (Ok x) = Took k line x.0 x.1
Reads k line (Err left) = Stuck k line left

-- tokens of a kind and their reader, which is right of them
pub record Token (A : Type 0) : Type 1 where
  pub kind : Kind A
  pub read : List ℕ → Result (A × List ℕ) ℕ
  pub reads : (line : List ℕ) → Reads kind line (read line)
  pub sample : A
  pub sample_fits : kind.fits sample

-- ---- a token, and then a rest that depends on it

-- s is the token of a, and then a text for c
pub record Then {A C : Type 0} (k : Kind A) (U : A → C → List ℕ → Type 0) (c : C) (s : List ℕ) : Type 0 where
  pub a : A
  pub fits : k.fits a
  pub rest : List ℕ
  pub parts : s ≡ k.text a ++ rest
  pub spelled : U a c rest

-- every rest may follow its token
abbrev pub MayFollow : {A C : Type 0} → Kind A → (A → C → List ℕ → Type 0) → Type 0
MayFollow {A = A} {C = C} k U = (a : A) → k.fits a → (c : C) (t : List ℕ) → U a c t → k.follow t

took_length : {A : Type 0} (k : Kind A) (line : List ℕ) (a : A) (rest : List ℕ)
    → Took k line a rest → length line ≡ length (k.text a) + length rest
took_length k line a rest took = ap length took.parts ∙ length-append (k.text a) rest

-- the text of another value begins with the same token, or parts from the line within it
then_furthest : {A C : Type 0} (k : Kind A) (U : A → C → List ℕ → Type 0) (line : List ℕ) (a : A) (rest : List ℕ) (left : ℕ)
    → Took k line a rest → MayFollow k U → Stops (U a) rest left
    → (c : C) (s : List ℕ) → Then k U c s → agree line s + left ≤ length line
then_furthest {A = A} k U line a rest left took follows x c s h =
    let len = took_length k line a rest took in
    elim (took.apart h.a h.rest h.fits (follows h.a h.fits c h.rest h.spelled)) [
      | inl same ↦
          let there : s ≡ k.text a ++ h.rest = h.parts ∙ ap (λ (b : A). k.text b ++ h.rest) same in
          let both : agree line s ≡ length (k.text a) + agree rest h.rest = rw (there, took.parts) (agree-append (k.text a) rest h.rest) in
          let inner = x.furthest c h.rest (subst (λ (b : A). U b c h.rest) same h.spelled) in
          omega (arith, both, inner, len)
      | inr less ↦
          let here : agree line s ≤ length (k.text a) = rw (h.parts) less in
          let within = x.within in
          omega (arith, here, within, len)
    ]

-- the whole line with another token would agree with one more than its length
then_alone : {A C : Type 0} (k : Kind A) (U : A → C → List ℕ → Type 0) (line : List ℕ) (a : A) (rest : List ℕ) (c : C)
    → Took k line a rest → MayFollow k U → Spelled (U a) rest c → (d : C) → Then k U d line → d ≡ c
then_alone {A = A} k U line a rest c took follows x d h =
    elim (took.apart h.a h.rest h.fits (follows h.a h.fits d h.rest h.spelled)) [
      | inl same ↦
          let here : k.text a ++ rest ≡ k.text a ++ h.rest = sym took.parts ∙ h.parts ∙ ap (λ (b : A). k.text b ++ h.rest) same in
          let ends : rest ≡ h.rest = append_cancel_left (k.text a) rest h.rest here in
          x.alone d (subst (λ (b : A). U b d rest) same (subst (U h.a d) (sym ends) h.spelled))
      | inr less ↦
          let whole : agree line (k.text h.a ++ h.rest) ≡ suc (length line) =
          subst (λ (s : List ℕ). agree line s ≡ suc (length line)) h.parts (agree-self line) in
          let len = took_length k line a rest took in
          absurd (omega (arith, whole, less, len))
    ]

pub goes_on : {A C : Type 0} (k : Kind A) (U : A → C → List ℕ → Type 0) (line : List ℕ) (a : A) (rest : List ℕ)
    → Took k line a rest → MayFollow k U → (r : Result C ℕ) → Exact (U a) rest r → Exact (Then k U) line r
goes_on k U line a rest took follows (Ok c) x = record {
  spelled = record { a = a; fits = took.fits; rest = rest; parts = took.parts; spelled = x.spelled };
  alone = λ d h. then_alone k U line a rest c took follows x d h;
}
goes_on k U line a rest took follows (Err left) x =
    let len = took_length k line a rest took in
    let within = x.within in
    let reached = x.reached in
    record {
      within = omega (arith, len, within);
      value = x.value;
      text = k.text a ++ x.text;
      spelled = record { a = a; fits = took.fits; rest = x.text; parts = refl; spelled = x.spelled };
      reached =
          let both : agree line (k.text a ++ x.text) ≡ length (k.text a) + agree rest x.text =
          rw (took.parts) (agree-append (k.text a) rest x.text) in
          omega (arith, both, reached, len);
      furthest = then_furthest k U line a rest left took follows x;
    }

then_reads : {A C : Type 0} (k : Kind A) (U : A → C → List ℕ → Type 0) (next : A → List ℕ → Result C ℕ)
    → (line : List ℕ) (r : Result (A × List ℕ) ℕ) → Reads k line r → ((a : A) → k.fits a → Tail k.follow (U a) (next a))
    → Exact (Then k U) line (r >>= λ x. next x.0 x.1)
then_reads k U next line (Ok x) took tails =
    goes_on k U line x.0 x.1 took (λ a fits. (tails a fits).stands) (next x.0 x.1) ((tails x.0 took.fits).exact x.1)
then_reads k U next line (Err left) stuck tails =
    let tail = tails stuck.sample stuck.fits in
    record {
      within = stuck.within;
      value = tail.value;
      text = k.text stuck.sample ++ tail.text;
      spelled = record { a = stuck.sample; fits = stuck.fits; rest = tail.text; parts = refl; spelled = tail.spelled };
      reached = stuck.reached tail.text;
      furthest = λ c s h.
          rw (h.parts) (stuck.furthest h.a h.rest h.fits ((tails h.a h.fits).stands c h.rest h.spelled));
    }

-- a token and then an exact rest are exact
pub then : {A C : Type 0} (tok : Token A) (Before : List ℕ → Type 0) (U : A → C → List ℕ → Type 0) (next : A → List ℕ → Result C ℕ)
    → ((a : A) → tok.kind.fits a → Tail tok.kind.follow (U a) (next a))
    → ((a : A) (t : List ℕ) → tok.kind.fits a → Before (tok.kind.text a ++ t))
    → Tail Before (Then tok.kind U) (λ line. tok.read line >>= λ x. next x.0 x.1)
then tok Before U next tails before =
    let tail = tails tok.sample tok.sample_fits in
    record {
      exact = λ line. then_reads tok.kind U next line (tok.read line) (tok.reads line) tails;
      value = tail.value;
      text = tok.kind.text tok.sample ++ tail.text;
      spelled = record { a = tok.sample; fits = tok.sample_fits; rest = tail.text; parts = refl; spelled = tail.spelled };
      stands = λ c t h. subst Before (sym h.parts) (before h.a h.rest h.fits);
    }
