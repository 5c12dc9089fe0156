-- This file shows that one of several words is read exactly, where no two of them begin alike to the end of one.
use Rattle.std.proofs.Common.{◌≡◌, ℕ, zero, suc, Some, slice_get, ◌+◌, ◌≤◌, ◌<◌, Bool, true, false, ◌&&◌, eqb, cond, List, []}
use Rattle.std.proofs.Common.{◌∷◌, ◌++◌, length, map, min, drop}
use Rattle.std.proofs.Common.{get_or, add-one, Result, Ok, Err, refl, sym, ap, subst, ◌∙◌, arith, ◌⊎◌, inl, inr}
use Rattle.std.proofs.lemmas.Option.{same_Some}
use Rattle.std.proofs.lemmas.Bool.{cases_lt, eq-eqb}
use Rattle.std.proofs.lemmas.List.{length-drop, nil_from_length}
use Rattle.std.proofs.Math.Seq.{drop-cons}
use Rattle.line_grammar.proofs.Agree.{agree}
use Rattle.line_grammar.specs.Reading.{literal_at, or_else, choose_from, choose_at}
use Rattle.line_grammar.specs.Choosing.{entries}
use Rattle.line_grammar.proofs.Agreement.{agree-same_head, agree-other_head, cases_equal}
use Rattle.line_grammar.proofs.Exact.{Kind, Reads}
use Rattle.line_grammar.proofs.Literals.{IsLiteral, literal_is}

-- ---- the loop over the words

choose_next : {X T : Type 0} (f : X → List ℕ × T) (left : ℕ) (table : List X) (i : ℕ) (e : X) (line : List ℕ) → i < length table
    → e ≡ get_or table i e
    → choose_from left (map f (drop i table)) line ≡ or_else (literal_at (f e).0 line) (f e).1 left
    (λ there. choose_from there (map f (drop (i + 1) table)) line)
unfolding choose_from
choose_next f left table i e line lt is =
    let cells : drop i table ≡ e ∷ drop (i + 1) table = rw (add-one, drop-cons table i e lt, ← is) refl in
    rw cells refl

-- the word of the entry at i is at the front
pub choose_found : {X T : Type 0} (f : X → List ℕ × T) (left : ℕ) (table : List X) (i : ℕ) (e : X) (line word rest : List ℕ)
    → i < length table → e ≡ get_or table i e → word ≡ (f e).0 → literal_at word line ≡ Ok rest
    → choose_from left (map f (drop i table)) line ≡ Ok ((f e).1, rest)
choose_found f left table i e line word rest lt is same found =
    choose_next f left table i e line lt is
    ∙ ap (λ (r : Result (List ℕ) ℕ). or_else r (f e).1 left (λ there. choose_from there (map f (drop (i + 1) table)) line))
    (ap (λ (w : List ℕ). literal_at w line) (sym same) ∙ found)

-- the word of the entry at i isn't
pub choose_passed : {X T : Type 0} (f : X → List ℕ × T) (left : ℕ) (table : List X) (i : ℕ) (e : X) (line word : List ℕ) (there : ℕ)
    → i < length table → e ≡ get_or table i e → word ≡ (f e).0 → literal_at word line ≡ Err there
    → choose_from left (map f (drop i table)) line ≡ choose_from (min left there) (map f (drop (i + 1) table)) line
choose_passed f left table i e line word there lt is same stopped =
    choose_next f left table i e line lt is
    ∙ ap (λ (r : Result (List ℕ) ℕ). or_else r (f e).1 left (λ there. choose_from there (map f (drop (i + 1) table)) line))
    (ap (λ (w : List ℕ). literal_at w line) (sym same) ∙ stopped)

pub choose_ended : {X T : Type 0} (f : X → List ℕ × T) (left : ℕ) (table : List X) (i : ℕ) (line : List ℕ) → length table ≤ i
    → choose_from left (map f (drop i table)) line ≡ Err left
unfolding choose_from
choose_ended f left table i line le = rw (nil_from_length (drop i table) (let len = length-drop i table in omega (arith, len))) refl

-- the two words differ at a place that both have
abbrev pub differ : List ℕ → List ℕ → Bool
differ [] v = false
differ (a ∷ u) [] = false
differ (a ∷ u) (b ∷ v) = cond (eqb a b) (differ u v) true

differ_parts : (u v x y : List ℕ) → differ u v ≡ true → agree (u ++ x) (v ++ y) ≤ length u
differ_parts [] v x y d = absurd cc
differ_parts (a ∷ u) [] x y d = absurd cc
differ_parts (a ∷ u) (b ∷ v) x y d = elim (cases_equal a b) [
  | inl same ↦
      let inner : differ u v ≡ true = rw (eq-eqb a b same) at d in
      let rest = differ_parts u v x y inner in
      let head : agree (a ∷ (u ++ x)) (b ∷ (v ++ y)) ≡ suc (agree (u ++ x) (v ++ y)) = rw same (agree-same_head b (u ++ x) (v ++ y)) in
      omega (arith, head, rest)
  | inr other ↦ let none = agree-other_head a b (u ++ x) (v ++ y) other in omega (arith, none)
]

abbrev pub Member : {T : Type 0} → T → List T → Type 0
Member t [] = ⊥
Member t (s ∷ all) = (t ≡ s) ⊎ Member t all

-- what stands at a place is a member
pub stands_at : {T : Type 0} {t : T} (k : ℕ) (all : List T) → slice_get all k ≡ Some t → Member t all
stands_at k [] there = absurd cc
stands_at {t = t} zero (s ∷ all) there = inl (sym (same_Some s t there))
stands_at (suc k) (s ∷ all) there = inr (stands_at k all there)

-- the word of t differs from each of these
abbrev pub differs : {T : Type 0} → (T → List ℕ) → T → List T → Bool
differs word t [] = true
differs word t (s ∷ all) = differ (word t) (word s) && differ (word s) (word t) && differs word t all

abbrev pub all_differ : {T : Type 0} → (T → List ℕ) → List T → Bool
all_differ word [] = true
all_differ word (t ∷ all) = differs word t all && all_differ word all

both_true : (a b : Bool) → (a && b) ≡ true → (a ≡ true) × (b ≡ true)
both_true true b e = (refl, e)
both_true false b e = absurd cc

differs_from : {T : Type 0} (word : T → List ℕ) (t s : T) (all : List T) → differs word t all ≡ true → Member s all
    → (differ (word t) (word s) ≡ true) × (differ (word s) (word t) ≡ true)
differs_from word t s [] d m = absurd m
differs_from {T = T} word t s (r ∷ all) d m =
    let split = both_true (differ (word t) (word r) && differ (word r) (word t)) (differs word t all) d in
    let pair = both_true (differ (word t) (word r)) (differ (word r) (word t)) split.0 in
    elim m [
      | inl same ↦ subst (λ (x : T). (differ (word t) (word x) ≡ true) × (differ (word x) (word t) ≡ true)) (sym same) pair
      | inr more ↦ differs_from word t s all split.1 more
    ]

-- two of the words are one, or they differ
one_or_differ : {T : Type 0} (word : T → List ℕ) (all : List T) → all_differ word all ≡ true → (t s : T) → Member t all → Member s all
    → (s ≡ t) ⊎ (differ (word t) (word s) ≡ true)
one_or_differ word [] d t s mt ms = absurd mt
one_or_differ {T = T} word (r ∷ all) d t s mt ms =
    let split = both_true (differs word r all) (all_differ word all) d in
    elim mt [
      | inl here ↦ elim ms [
        | inl also ↦ inl (also ∙ sym here)
        | inr more ↦ inr (subst (λ (x : T). differ (word x) (word s) ≡ true) (sym here) (differs_from word r s all split.0 more).0)
      ]
      | inr later ↦ elim ms [
        | inl also ↦ inr (subst (λ (x : T). differ (word t) (word x) ≡ true) (sym also) (differs_from word r t all split.0 later).1)
        | inr more ↦ one_or_differ word all split.1 t s later more
      ]
    ]

min_is : (a b : ℕ) → (min a b ≡ a) ⊎ (min a b ≡ b)
min_is a b = elim (cases_lt a b) [
  | inl lt ↦ inl (omega (arith, lt))
  | inr ge ↦ inr (omega (arith, ge))
]

-- what choosing from these words says of the line
abbrev Chose : {T : Type 0} → (T → List ℕ) → List T → ℕ → List ℕ → Result (T × List ℕ) ℕ → Type 0
Chose word all left line (Ok x) = (line ≡ word x.0 ++ x.1) × Member x.0 all
Chose {T = T} word all left line (Err there) =
    (there ≤ left) × ((t : T) (s : List ℕ) → Member t all → agree line (word t ++ s) + there ≤ length line)
    × ((there ≡ left) ⊎ ((t : T) × Member t all × ((s : List ℕ) → agree line (word t ++ s) + there ≡ length line)))

goes_on : {T : Type 0} (word : T → List ℕ) (t : T) (all : List T) (left : ℕ) (line : List ℕ) (stop : ℕ) → IsLiteral (word t) line (Err stop)
    → (r : Result (T × List ℕ) ℕ) → Chose word all (min left stop) line r → Chose word (t ∷ all) left line r
goes_on word t all left line stop h (Ok x) chose = (chose.0, inr chose.1)
goes_on {T = T} word t all left line stop h (Err there) chose = (
  omega (arith, chose.0),
  λ u s m. elim m [
    | inl same ↦ let e : agree line (word u ++ s) + stop ≡ length line = rw same (h.1 s) in omega (arith, e, chose.0)
    | inr later ↦ chose.1 u s later
  ],
  elim chose.2 [
    | inl same ↦ elim (min_is left stop) [
      | inl first ↦ inl (same ∙ first)
      | inr second ↦ inr (t, inl refl, λ s. let e = h.1 s in omega (arith, e, same, second))
    ]
    | inr found ↦ inr (found.0, inr found.1, found.2)
  ],
)

tries : {T : Type 0} (word : T → List ℕ) (t : T) (all : List T) (left : ℕ) (line : List ℕ)
    → ((there : ℕ) → Chose word all there line (choose_from there (entries word all) line))
    → (r : Result (List ℕ) ℕ) → IsLiteral (word t) line r
    → Chose word (t ∷ all) left line (or_else r t left (λ there. choose_from there (entries word all) line))
tries word t all left line next (Ok rest) e = (e, inl refl)
tries word t all left line next (Err stop) h = goes_on word t all left line stop h (choose_from (min left stop) (entries word all) line)
    (next (min left stop))

chooses : {T : Type 0} (word : T → List ℕ) (all : List T) (left : ℕ) (line : List ℕ)
    → Chose word all left line (choose_from left (entries word all) line)
unfolding choose_from
chooses word [] left line = (omega arith, λ t s m. absurd m, inl refl)
chooses word (t ∷ all) left line = tries word t all left line (λ there. chooses word all there line) (literal_at (word t) line)
    (literal_is (word t) line)

abbrev pub Any : List ℕ → Type 0
Any t = Unit {0}

abbrev pub Each : {T : Type 0} → T → Type 0
Each t = Unit {0}

-- words behind which anything may stand
abbrev pub word_kind : {T : Type 0} → (T → List ℕ) → Kind T
word_kind word = record { text = word; fits = Each; follow = Any }

choice_reads : {T : Type 0} (word : T → List ℕ) (all : List T) → all_differ word all ≡ true → ((t : T) → Member t all) → T
    → (line : List ℕ) (r : Result (T × List ℕ) ℕ) → Chose word all (length line) line r → Reads (word_kind word) line r
choice_reads word all apart every some line (Ok x) chose = record {
  fits = tt;
  parts = chose.0;
  apart = λ b t fits follow. elim (one_or_differ word all apart x.0 b chose.1 (every b)) [
    | inl same ↦ inl same
    | inr other ↦ inr (rw (chose.0) (differ_parts (word x.0) (word b) x.1 t other))
  ];
}
choice_reads word all apart every some line (Err left) chose = elim chose.2 [
  | inl start ↦ record {
    within = chose.0;
    sample = some;
    fits = tt;
    reached = λ t. let less = chose.1 some t (every some) in omega (arith, less, start);
    furthest = λ b t fits follow. chose.1 b t (every b);
  }
  | inr found ↦ record {
    within = chose.0;
    sample = found.0;
    fits = tt;
    reached = found.2;
    furthest = λ b t fits follow. chose.1 b t (every b);
  }
]

-- words of which no two begin alike to the end of one are read exactly
pub choice : {T : Type 0} (word : T → List ℕ) (all : List T) → all_differ word all ≡ true → ((t : T) → Member t all) → T
    → (line : List ℕ) → Reads (word_kind word) line (choose_at (entries word all) line)
choice word all apart every some line =
    choice_reads word all apart every some line (choose_at (entries word all) line) (chooses word all (length line) line)
