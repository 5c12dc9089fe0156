-- This file shows how the texts of a token and a rest, and of a word and a rest, are put together.
use Rattle.std.proofs.Common.{◌≡◌, ℕ, List, [], ◌++◌, Result, Ok, refl, sym, ap, subst, ◌∙◌}
use Rattle.std.proofs.lemmas.List.{append-nil}
use Rattle.line_grammar.specs.Reading.{◌>>=◌, literal_at, end_at}
use Rattle.line_grammar.specs.Forms as forms
use Rattle.line_grammar.proofs.Exact.{Tail, Tail-same, Kind, Token, Then, then, Spells}
use Rattle.line_grammar.proofs.Literals.{After, after, Ended, finish, Made, made}

-- ---- a token, and then the end

last_spells : {A : Type 0} (k : Kind A) (c : A) (s : List ℕ) → Then k (λ a. Ended a) c s → Spells k.fits k.text c s
last_spells {A = A} k c s h =
    let whole : s ≡ k.text h.a = h.parts ∙ ap (λ (t : List ℕ). k.text h.a ++ t) h.spelled.1 ∙ append-nil (k.text h.a) in
    subst (λ (d : A). Spells k.fits k.text d s) (sym h.spelled.0) (h.fits, whole)

spells_last : {A : Type 0} (k : Kind A) (c : A) (s : List ℕ) → Spells k.fits k.text c s → Then k (λ a. Ended a) c s
spells_last k c s h = record { a = c; fits = h.0; rest = []; parts = h.1 ∙ sym (append-nil (k.text c)); spelled = (refl, refl) }

-- the texts of a token that ends the line are the token's
pub last : {A : Type 0} (tok : Token A) (Before : List ℕ → Type 0) → tok.kind.follow []
    → ((a : A) (t : List ℕ) → tok.kind.fits a → Before (tok.kind.text a ++ t))
    → Tail Before (Spells tok.kind.fits tok.kind.text) (forms.last tok.read)
last tok Before follow before =
    Tail-same Before (Then tok.kind (λ a. Ended a)) (Spells tok.kind.fits tok.kind.text) (forms.last tok.read)
    (last_spells tok.kind) (spells_last tok.kind)
    (then tok Before (λ a. Ended a) (λ a rest. end_at rest >>= λ none. Ok a) (λ a fits. finish tok.kind.follow a follow) before)

-- ---- a token, and then a rest

abbrev pub pair_of : {A B : Type 0} → A → B → A × B
pair_of a b = (a, b)

abbrev pub BehindFits : {A B : Type 0} → Kind A → (A → B → Type 0) → A × B → Type 0
BehindFits k fits p = k.fits p.0 × fits p.0 p.1

abbrev pub behind_text : {A B : Type 0} → Kind A → (A → B → List ℕ) → A × B → List ℕ
behind_text k text p = k.text p.0 ++ text p.0 p.1

abbrev RestOf : {A B : Type 0} → (A → B → Type 0) → (A → B → List ℕ) → A → A × B → List ℕ → Type 0
RestOf fits text a = Made (λ b. pair_of a b) (Spells (fits a) (text a))

behind_spells : {A B : Type 0} (k : Kind A) (fits : A → B → Type 0) (text : A → B → List ℕ) (p : A × B) (s : List ℕ)
    → Then k (RestOf fits text) p s → Spells (BehindFits k fits) (behind_text k text) p s
behind_spells {A = A} {B = B} k fits text p s h =
    let rest = h.spelled in
    let whole : s ≡ k.text h.a ++ text h.a rest.value = h.parts ∙ ap (λ (t : List ℕ). k.text h.a ++ t) rest.spelled.1 in
    subst (λ (q : A × B). Spells (BehindFits k fits) (behind_text k text) q s) (sym rest.made) ((h.fits, rest.spelled.0), whole)

spells_behind : {A B : Type 0} (k : Kind A) (fits : A → B → Type 0) (text : A → B → List ℕ) (p : A × B) (s : List ℕ)
    → Spells (BehindFits k fits) (behind_text k text) p s → Then k (RestOf fits text) p s
spells_behind k fits text p s h = record {
  a = p.0;
  fits = h.0.0;
  rest = text p.0 p.1;
  parts = h.1;
  spelled = record { value = p.1; made = refl; spelled = (h.0.1, refl) };
}

-- the texts of a token and a rest are the one and then the other
pub behind : {A B : Type 0} (tok : Token A) (Before : List ℕ → Type 0) (fits : A → B → Type 0) (text : A → B → List ℕ)
    → (next : A → List ℕ → Result B ℕ) → ((a : A) → Tail tok.kind.follow (Spells (fits a) (text a)) (next a))
    → ((a : A) (t : List ℕ) → tok.kind.fits a → Before (tok.kind.text a ++ t))
    → Tail Before (Spells (BehindFits tok.kind fits) (behind_text tok.kind text)) (forms.behind tok.read next)
behind tok Before fits text next tails before =
    Tail-same Before (Then tok.kind (RestOf fits text)) (Spells (BehindFits tok.kind fits) (behind_text tok.kind text))
    (forms.behind tok.read next) (behind_spells tok.kind fits text) (spells_behind tok.kind fits text)
    (then tok Before (RestOf fits text) (λ a line. next a line >>= λ b. Ok (pair_of a b))
    (λ a a_fits. made tok.kind.follow (λ b. pair_of a b) (Spells (fits a) (text a)) (next a) (tails a)) before)

-- ---- a word, and then a rest

after_spells : {C : Type 0} (word : List ℕ) (fits : C → Type 0) (text : C → List ℕ) (c : C) (s : List ℕ)
    → After word (Spells fits text) c s → Spells fits (λ d. word ++ text d) c s
after_spells word fits text c s h = (h.spelled.0, h.parts ∙ ap (λ (t : List ℕ). word ++ t) h.spelled.1)

spells_after : {C : Type 0} (word : List ℕ) (fits : C → Type 0) (text : C → List ℕ) (c : C) (s : List ℕ)
    → Spells fits (λ d. word ++ text d) c s → After word (Spells fits text) c s
spells_after word fits text c s h = record { rest = text c; parts = h.1; spelled = (h.0, refl) }

-- the texts of a word and a rest are the word and then the rest's
pub past : {C : Type 0} (word : List ℕ) (Follow Before : List ℕ → Type 0) (fits : C → Type 0) (text : C → List ℕ)
    → (next : List ℕ → Result C ℕ) → Tail Follow (Spells fits text) next → ((t : List ℕ) → Before (word ++ t))
    → Tail Before (Spells fits (λ d. word ++ text d)) (λ line. literal_at word line >>= next)
past word Follow Before fits text next tail before =
    Tail-same Before (After word (Spells fits text)) (Spells fits (λ d. word ++ text d)) (λ line. literal_at word line >>= next)
    (after_spells word fits text) (spells_after word fits text) (after word Follow Before (Spells fits text) next tail before)
