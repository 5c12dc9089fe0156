-- This file shows that a fixed word is read exactly, before a rest or before a token.
use Rattle.std.proofs.Common.{◌≡◌, ℕ, suc, ◌+◌, ◌-◌, ◌≤◌, ◌<◌, List, [], ◌∷◌, ◌++◌, length, drop, get_or, add-one, Result, Ok, Err, refl}
use Rattle.std.proofs.Common.{sym, ap, subst, ◌∙◌, arith, inl, inr, append_assoc}
use Rattle.std.proofs.lemmas.Bool.{eq-eqb, ne_eqb}
use Rattle.std.proofs.lemmas.List.{length-append, append_cancel_left, length-drop, nil_from_length}
use Rattle.std.proofs.Math.Seq.{drop-cons}
use Rattle.line_grammar.proofs.Agree.{agree}
use Rattle.line_grammar.specs.Reading.{◌>>=◌, literal_at, end_at}
use Rattle.line_grammar.proofs.Agreement.{agree-append, agree-same_head, agree-other_head, agree-nil, agree-cons_nil, cases_equal}
use Rattle.line_grammar.proofs.Exact.{Exact, Tail, Kind, Reads, Token}

-- what reading a word says of the line
abbrev pub IsLiteral : List ℕ → List ℕ → Result (List ℕ) ℕ → Type 0
IsLiteral word line (Ok rest) = line ≡ word ++ rest
IsLiteral word line (Err left) = (left ≤ length line) × ((t : List ℕ) → agree line (word ++ t) + left ≡ length line)

one_more : (b : ℕ) (word line : List ℕ) (r : Result (List ℕ) ℕ) → IsLiteral word line r → IsLiteral (b ∷ word) (b ∷ line) r
one_more b word line (Ok rest) e = ap (λ (s : List ℕ). b ∷ s) e
one_more b word line (Err left) h =
    (omega (arith, h.0), λ t. let inner = h.1 t in let head = agree-same_head b line (word ++ t) in omega (arith, inner, head))

pub literal_is : (word line : List ℕ) → IsLiteral word line (literal_at word line)
unfolding literal_at
literal_is [] line = refl
literal_is (w ∷ word) [] = (omega arith, λ t. let none = agree-nil (word ++ t) w in omega (arith, none))
literal_is (w ∷ word) (b ∷ line) =
    elim (cases_equal w b) [
      | inl same ↦
          let here = one_more b word line (literal_at word line) (literal_is word line) in
          subst (λ (x : ℕ). IsLiteral (x ∷ word) (b ∷ line) (literal_at (x ∷ word) (b ∷ line))) (sym same) (rw (eq-eqb b b refl) here)
      | inr apart ↦
          rw (ne_eqb w b apart) (
            omega arith,
            λ t. let none = agree-other_head b w line (word ++ t) (λ e. apart (sym e)) in
                omega (arith, none),
          )
    ]

-- ---- the loop over the word

pub literal_goes : (word line : List ℕ) (i : ℕ) → i < length word → i < length line → get_or word i 0 ≡ get_or line i 0
    → literal_at (drop i word) (drop i line) ≡ literal_at (drop (i + 1) word) (drop (i + 1) line)
unfolding literal_at
literal_goes word line i in_word in_line same =
    let one_byte = eq-eqb (get_or word i 0) (get_or line i 0) same in
    rw (add-one, drop-cons word i 0 in_word, drop-cons line i 0 in_line, one_byte) refl

pub literal_parts : (word line : List ℕ) (i : ℕ) → i < length word → i < length line → (get_or word i 0 ≡ get_or line i 0 → ⊥)
    → literal_at (drop i word) (drop i line) ≡ Err (length line - i)
unfolding literal_at
literal_parts word line i in_word in_line apart =
    let len = length-drop (suc i) line in
    rw (drop-cons word i 0 in_word, drop-cons line i 0 in_line, ne_eqb (get_or word i 0) (get_or line i 0) apart)
    (ap (λ (n : ℕ). Err n) (omega (arith, len)))

pub literal_short : (word line : List ℕ) (i : ℕ) → i < length word → length line ≤ i → literal_at (drop i word) (drop i line) ≡ Err 0
unfolding literal_at
literal_short word line i in_word le =
    let none = nil_from_length (drop i line) (let len = length-drop i line in omega (arith, len)) in
    rw (drop-cons word i 0 in_word, none) refl

pub literal_done : (word line : List ℕ) (i : ℕ) → length word ≤ i → literal_at (drop i word) (drop i line) ≡ Ok (drop i line)
unfolding literal_at
literal_done word line i le = rw (nil_from_length (drop i word) (let len = length-drop i word in omega (arith, len))) refl

-- ---- a word and then a rest

-- s is the word, and then a text for c
pub record After {C : Type 0} (word : List ℕ) (T : C → List ℕ → Type 0) (c : C) (s : List ℕ) : Type 0 where
  pub rest : List ℕ
  pub parts : s ≡ word ++ rest
  pub spelled : T c rest

goes_on : {C : Type 0} (word : List ℕ) (T : C → List ℕ → Type 0) (line rest : List ℕ) → line ≡ word ++ rest
    → (r : Result C ℕ) → Exact T rest r → Exact (After word T) line r
goes_on word T line rest e (Ok c) x = record {
  spelled = record { rest = rest; parts = e; spelled = x.spelled };
  alone = λ d h. x.alone d (subst (T d) (sym (append_cancel_left word rest h.rest (sym e ∙ h.parts))) h.spelled);
}
goes_on word T line rest e (Err left) x =
    let len : length line ≡ length word + length rest = ap length e ∙ length-append word rest in
    let within = x.within in
    let reached = x.reached in
    record {
      within = omega (arith, len, within);
      value = x.value;
      text = word ++ x.text;
      spelled = record { rest = x.text; parts = refl; spelled = x.spelled };
      reached =
          let both : agree line (word ++ x.text) ≡ length word + agree rest x.text = rw e (agree-append word rest x.text) in
          omega (arith, both, reached, len);
      furthest = λ c s h.
          let both : agree line s ≡ length word + agree rest h.rest = rw (e, h.parts) (agree-append word rest h.rest) in
          let inner = x.furthest c h.rest h.spelled in
          omega (arith, both, inner, len);
    }

after_reads : {C : Type 0} (word : List ℕ) (Follow : List ℕ → Type 0) (T : C → List ℕ → Type 0) (next : List ℕ → Result C ℕ)
    → (line : List ℕ) (r : Result (List ℕ) ℕ) → IsLiteral word line r → Tail Follow T next → Exact (After word T) line (r >>= next)
after_reads word Follow T next line (Ok rest) e tail = goes_on word T line rest e (next rest) (tail.exact rest)
after_reads word Follow T next line (Err left) h tail = record {
  within = h.0;
  value = tail.value;
  text = word ++ tail.text;
  spelled = record { rest = tail.text; parts = refl; spelled = tail.spelled };
  reached = h.1 tail.text;
  furthest = λ c s x. rw (x.parts) (let e = h.1 x.rest in omega (arith, e));
}

-- a word and then an exact rest are exact
pub after : {C : Type 0} (word : List ℕ) (Follow Before : List ℕ → Type 0) (T : C → List ℕ → Type 0) (next : List ℕ → Result C ℕ)
    → Tail Follow T next → ((t : List ℕ) → Before (word ++ t)) → Tail Before (After word T) (λ line. literal_at word line >>= next)
after word Follow Before T next tail before = record {
  exact = λ line. after_reads word Follow T next line (literal_at word line) (literal_is word line) tail;
  value = tail.value;
  text = word ++ tail.text;
  spelled = record { rest = tail.text; parts = refl; spelled = tail.spelled };
  stands = λ c t h. subst Before (sym h.parts) (before h.rest);
}

-- ---- a word and then a token

-- tokens with a word before each
abbrev pub led_kind : {A : Type 0} → List ℕ → Kind A → Kind A
led_kind word k = record { text = λ a. word ++ k.text a; fits = k.fits; follow = k.follow }

agree-led : {A : Type 0} (word : List ℕ) (k : Kind A) (line rest : List ℕ) (b : A) (t : List ℕ) → line ≡ word ++ rest
    → agree line ((word ++ k.text b) ++ t) ≡ length word + agree rest (k.text b ++ t)
agree-led word k line rest b t e = rw (e, append_assoc word (k.text b) t) (agree-append word rest (k.text b ++ t))

led_took : {A : Type 0} (word : List ℕ) (k : Kind A) (line rest : List ℕ) → line ≡ word ++ rest
    → (r : Result (A × List ℕ) ℕ) → Reads k rest r → Reads (led_kind word k) line r
led_took {A = A} word k line rest e (Ok x) took = record {
  fits = took.fits;
  parts = e ∙ ap (λ (s : List ℕ). word ++ s) took.parts ∙ sym (append_assoc word (k.text x.0) x.1);
  apart = λ b t fits follow.
      let both = agree-led word k line rest b t e in
      let len = length-append word (k.text x.0) in
      elim (took.apart b t fits follow) [
        | inl same ↦ inl same
        | inr less ↦ inr (omega (arith, both, less, len))
      ];
}
led_took word k line rest e (Err left) stuck =
    let len : length line ≡ length word + length rest = ap length e ∙ length-append word rest in
    let within = stuck.within in
    record {
      within = omega (arith, len, within);
      sample = stuck.sample;
      fits = stuck.fits;
      reached = λ t.
          let both = agree-led word k line rest stuck.sample t e in
          let inner = stuck.reached t in
          omega (arith, both, inner, len);
      furthest = λ b t fits follow.
          let both = agree-led word k line rest b t e in
          let inner = stuck.furthest b t fits follow in
          omega (arith, both, inner, len);
    }

pub led_reads : {A : Type 0} (word : List ℕ) (tok : Token A) (line : List ℕ) (r : Result (List ℕ) ℕ) → IsLiteral word line r
    → Reads (led_kind word tok.kind) line (r >>= tok.read)
led_reads word tok line (Ok rest) e = led_took word tok.kind line rest e (tok.read rest) (tok.reads rest)
led_reads word tok line (Err left) h = record {
  within = h.0;
  sample = tok.sample;
  fits = tok.sample_fits;
  reached = λ t. rw (append_assoc word (tok.kind.text tok.sample) t) (h.1 (tok.kind.text tok.sample ++ t));
  furthest = λ b t fits follow. rw (append_assoc word (tok.kind.text b) t) (let e = h.1 (tok.kind.text b ++ t) in omega (arith, e));
}

-- a word and then a token are a token
abbrev pub led : {A : Type 0} → List ℕ → Token A → Token A
led word tok = record {
  kind = led_kind word tok.kind;
  read = λ line. literal_at word line >>= tok.read;
  reads = λ line. led_reads word tok line (literal_at word line) (literal_is word line);
  sample = tok.sample;
  sample_fits = tok.sample_fits;
}

-- ---- the end of the line

-- s is nothing, and c is the value
abbrev pub Ended : {C : Type 0} → C → C → List ℕ → Type 0
Ended value c s = (c ≡ value) × (s ≡ [])

ends : {C : Type 0} (value : C) (rest : List ℕ) → Exact (Ended value) rest (end_at rest >>= λ none. Ok value)
unfolding end_at
ends value [] = record { spelled = (refl, refl); alone = λ d h. h.0 }
ends value (b ∷ rest) = record {
  within = omega arith;
  value = value;
  text = [];
  spelled = (refl, refl);
  reached = let none = agree-cons_nil rest b in omega (arith, none);
  furthest = λ c s h. rw (h.1) (let none = agree-cons_nil rest b in omega (arith, none));
}

-- nothing more follows
pub finish : {C : Type 0} (Before : List ℕ → Type 0) (value : C) → Before []
    → Tail Before (Ended value) (λ rest. end_at rest >>= λ none. Ok value)
finish Before value before = record {
  exact = ends value;
  value = value;
  text = [];
  spelled = (refl, refl);
  stands = λ c t h. subst Before (sym h.1) before;
}

-- ---- what is made of what was read

-- d is made of some c that T spells so
pub record Made {C D : Type 0} (make : C → D) (T : C → List ℕ → Type 0) (d : D) (s : List ℕ) : Type 0 where
  pub value : C
  pub made : d ≡ make value
  pub spelled : T value s

made_exact : {C D : Type 0} (make : C → D) (T : C → List ℕ → Type 0) (line : List ℕ) (r : Result C ℕ)
    → Exact T line r → Exact (Made make T) line (r >>= λ c. Ok (make c))
made_exact make T line (Ok c) x = record {
  spelled = record { value = c; made = refl; spelled = x.spelled };
  alone = λ d h. h.made ∙ ap make (x.alone h.value h.spelled);
}
made_exact make T line (Err left) x = record {
  within = x.within;
  value = make x.value;
  text = x.text;
  spelled = record { value = x.value; made = refl; spelled = x.spelled };
  reached = x.reached;
  furthest = λ d s h. x.furthest h.value s h.spelled;
}

-- what is made of an exact rest is exact
pub made : {C D : Type 0} (Before : List ℕ → Type 0) (make : C → D) (T : C → List ℕ → Type 0) (read : List ℕ → Result C ℕ)
    → Tail Before T read → Tail Before (Made make T) (λ line. read line >>= λ c. Ok (make c))
made Before make T read tail = record {
  exact = λ line. made_exact make T line (read line) (tail.exact line);
  value = make tail.value;
  text = tail.text;
  spelled = record { value = tail.value; made = refl; spelled = tail.spelled };
  stands = λ d t h. tail.stands h.value t h.spelled;
}
