-- This file shows that lists of places with semicolons between them are read exactly.
use Rattle.std.proofs.Common.{◌≡◌, ℕ, ◌<◌, Bool, List, [], ◌∷◌, ◌++◌, length, Result, Ok, Err, refl, sym, ap, subst, ◌∙◌, arith, ◌⊎◌, inl}
use Rattle.std.proofs.Common.{inr}
use Rattle.std.specs.List.{AllByRecursion}
use Rattle.std.proofs.lemmas.List.{length-append, nil_from_length}
use Rattle.line_grammar.specs.declared.command.At.{At}
use Rattle.line_grammar.specs.declared.fault.ReadError.{ReadError}
use Rattle.line_grammar.specs.declared.fault.ReadError.TheVariants as errors
use Rattle.line_grammar.specs.Pieces.{space, point, lists}
use Rattle.line_grammar.specs.Fitting.{ArePoints}
use Rattle.line_grammar.specs.Reading.{◌>>=◌, Fails, led_point_at}
use Rattle.line_grammar.specs.Listing.{item_at, Lists, add_item, all_lists, items_at, lists_from_at, lists_at}
use Rattle.line_grammar.proofs.Agreement.{agree-cons_nil}
use Rattle.line_grammar.proofs.Exact.{Exact, Tail, Spells}
use Rattle.line_grammar.proofs.Rows.{Shrinks, shrinks, rows_more, rows_ended}
use Rattle.line_grammar.proofs.Runs.{Parted}
use Rattle.line_grammar.proofs.Semicolons.{item, item_row}
use Rattle.line_grammar.proofs.ListTexts.{SomeLists, some_lists, some_are_lists, lists_are_some}

-- ---- nothing, or some lists

-- no list and no text, or some lists
abbrev ListsForm : List (List At) → List ℕ → Type 0
ListsForm = Spells (AllByRecursion ArePoints) lists

lists_cases : (ls : List (List At)) (s : List ℕ) → ListsForm ls s → ((ls ≡ []) × (s ≡ [])) ⊎ SomeLists ls s
lists_cases [] s h = inl (refl, h.1)
lists_cases ([] ∷ later) s h = absurd h.0.0.0
lists_cases ((p ∷ ps) ∷ later) s h = inr (subst (SomeLists ((p ∷ ps) ∷ later)) (sym h.1) (some_are_lists p ps later h.0.0 h.0.1))

some_has_bytes : (ls : List (List At)) (s : List ℕ) → SomeLists ls s → 0 < length s
some_has_bytes ls s h =
    let len = ap length h.parts ∙ length-append (space ++ point h.a) h.rest in
    omega (arith, len)

not_ended : (b : ℕ) (line : List ℕ) (r : Result (List (List At)) ℕ) → Exact SomeLists (b ∷ line) r → Exact ListsForm (b ∷ line) r
not_ended b line (Ok ls) x = record {
  spelled = (let h = lists_are_some ls (b ∷ line) x.spelled in (h.0, h.2));
  alone = λ ms h. elim (lists_cases ms (b ∷ line) h) [
    | inl none ↦ let e = none.1 in absurd cc
    | inr some ↦ x.alone ms some
  ];
}
not_ended b line (Err left) x = record {
  within = x.within;
  value = x.value;
  text = x.text;
  spelled = (let h = lists_are_some x.value x.text x.spelled in (h.0, h.2));
  reached = x.reached;
  furthest = λ ms s h. elim (lists_cases ms s h) [
    | inl none ↦ rw (none.1) (let e = agree-cons_nil line b in let within = x.within in omega (arith, e, within))
    | inr some ↦ x.furthest ms s some
  ];
}

lists_exact : (line : List ℕ) → Exact ListsForm line (lists_at line)
unfolding lists_at
lists_exact [] = record {
  spelled = (tt, refl);
  alone = λ ms h. elim (lists_cases ms [] h) [
    | inl none ↦ none.0
    | inr some ↦ absurd (let bytes = some_has_bytes ms [] some in omega (arith, bytes))
  ];
}
lists_exact (b ∷ line) = not_ended b line (led_point_at (b ∷ line) >>= λ p. lists_from_at p.0 p.1) (some_lists.exact (b ∷ line))

lists_parted : (ls : List (List At)) (s : List ℕ) → ListsForm ls s → Parted s
lists_parted ls s h = elim (lists_cases ls s h) [
  | inl none ↦ subst Parted (sym none.1) tt
  | inr some ↦ some_lists.stands ls s some
]

-- nothing, or lists of places up to the end of the line, are read exactly
pub some_or_none : Tail Parted (Spells (AllByRecursion ArePoints) lists) lists_at
some_or_none = record { exact = lists_exact; value = []; text = []; spelled = (tt, refl); stands = lists_parted }

-- ---- the loop over the items

item_shrinks : Shrinks item_at
item_shrinks = shrinks item item_row

pub items_shorter : (line : List ℕ) (x : (Bool × At) × List ℕ) → item_at line ≡ Ok x → length x.1 < length line
items_shorter line x e = item_shrinks line x e

pub items_more : (ls : Lists) (line : List ℕ) → 0 < length line → items_at ls line ≡ (item_at line >>= λ x. items_at (add_item ls x.0) x.1)
unfolding items_at
items_more ls line some = rows_more item_at add_item item_shrinks ls line some

pub items_ended : (ls : Lists) (line : List ℕ) → length line ≡ 0 → items_at ls line ≡ Ok ls
unfolding items_at
items_ended ls line none = rw (nil_from_length line none) (rows_ended item_at add_item ls)

pub items_goes : (ls next : Lists) (rest : List ℕ) (i : Bool × At) (after : List ℕ) (total : Result Lists ℕ) → 0 < length rest
    → item_at rest ≡ Ok (i, after) → next ≡ add_item ls i → items_at ls rest ≡ total → items_at next after ≡ total
items_goes ls next rest i after total some found is so_far =
    let step : items_at ls rest ≡ items_at (add_item ls i) after = rw (items_more ls rest some, found) refl in
    ap (λ (x : Lists). items_at x after) is ∙ sym step ∙ so_far

pub items_stop : (e : ReadError) (ls : Lists) (rest : List ℕ) (first : At) (line : List ℕ) → 0 < length rest → Fails e (item_at rest)
    → items_at ls rest ≡ items_at ([], first ∷ []) line → Fails e (lists_from_at first line)
items_stop errors.NoMemory ls rest first line some stopped so_far = tt
items_stop (errors.Stopped left) ls rest first line some stopped so_far =
    let step : items_at ls rest ≡ Err left = rw (items_more ls rest some, stopped) refl in
    rw (← so_far, step) refl

pub lists_done : (ls : Lists) (rest : List ℕ) (first : At) (line : List ℕ) → length rest ≡ 0
    → items_at ls rest ≡ items_at ([], first ∷ []) line → lists_from_at first line ≡ Ok (all_lists ls)
lists_done ls rest first line none so_far = rw (← so_far, items_ended ls rest none) refl
