-- This file shows that originals whose chains are replaced one by one end as the step makes them.
use Rattle.std.proofs.Common.{◌≡◌, ◌≢◌, ◌⊎◌, ◌==◌, ℕ, ◌<◌, true, false, cond, List, [], ◌∷◌, All, length, get_or, map}
use Rattle.std.proofs.Common.{refl, sym, ap, subst, ◌∙◌, inl, inr, arith}
use Rattle.std.proofs.lemmas.Bool.{cases_eq}
use Rattle.std.proofs.lemmas.Bool.Decides.{nat_tests}
use Rattle.std.proofs.lemmas.List.{length-map, get_or-map, same_lists}
use Rattle.std.proofs.lemmas.List.Elements.{All-head, All-tail}
use Rattle.grid_base.specs.Point.{GridPoint}
use Rattle.grid_base.specs.declared.original.Original.{Original}
use Rattle.chain_laws.specs.declared.redrawing.Redrawings.{Redrawings}
use Rattle.realm_drawing.specs.declared.redrawing.Replacement.{Replacement}
use Rattle.realm_drawing.specs.ById.{rechained}
use Rattle.chain_laws.specs.Redraws.{redrawn_original_by}
use Rattle.realm_drawing.specs.Redraws.{IsReplacement, HasReplacement, AreReplacements}
use Rattle.chain_laws.proofs.Elements.{Any-cons_cases, Any-nil}

-- the original with this chain
abbrev with_chain : Original → List GridPoint → Original
with_chain o chain = record o { chain = chain }

-- the second is the first, or what the step makes of it
abbrev IsOldOrDone : Redrawings → Original → Original → Type 0
IsOldOrDone step o n = (n ≡ o) ⊎ (n ≡ redrawn_original_by step o)

-- a replacement is still to come for the first, or the second is what the step makes of it
abbrev IsToComeOrDone : Redrawings → List Replacement → Original → Original → Type 0
IsToComeOrDone step rest o n = HasReplacement rest o.id ⊎ (n ≡ redrawn_original_by step o)

-- the replacements are put in, up to those of the rest
pub record IsInstalling (step : Redrawings) (old new : List Original) (rest : List Replacement) : Type 0 where
  pub same_length : length new ≡ length old
  pub each : All (IsReplacement step old) rest
  pub old_or_done : (i : ℕ) (d : Original) → i < length old → IsOldOrDone step (get_or old i d) (get_or new i d)
  pub done : (i : ℕ) (d : Original) → i < length old → IsToComeOrDone step rest (get_or old i d) (get_or new i d)

-- ---- at first
pub none_installed : (step : Redrawings) (old : List Original) (list : List Replacement) → AreReplacements step old list
    → IsInstalling step old old list
none_installed step old list are = record {
  same_length = refl;
  each = are.each;
  old_or_done = λ i d within. inl refl;
  done = λ i d within. elim (are.all i d within) [
    | inl has ↦ inl has
    | inr stays ↦ inr (sym (ap (with_chain (get_or old i d)) stays))
  ];
}

-- ---- one more
-- the chain of the one with the id is another, and all others stay
with_id : (r : Replacement) (n : Original) → n.id ≡ r.id → rechained r.id r.chain n ≡ with_chain n r.chain
with_id r n same = ap (λ t. cond t (with_chain n r.chain) n) (equal n.id r.id same)
  where
    equal : (j k : ℕ) → j ≡ k → (j == k) ≡ true
    equal j k same = grind (arith, nat_tests)

without_id : (r : Replacement) (n : Original) → n.id ≢ r.id → rechained r.id r.chain n ≡ n
without_id r n differs = ap (λ t. cond t (with_chain n r.chain) n) (unequal n.id r.id differs)
  where
    unequal : (j k : ℕ) → j ≢ k → (j == k) ≡ false
    unequal j k differs = grind (arith, nat_tests)

-- what is an original, or comes of it, has its id, and with the chain that the step makes of it comes of it
same_id : (step : Redrawings) (o n : Original) → IsOldOrDone step o n → n.id ≡ o.id
same_id step o n (inl stays) = ap (λ (q : Original). q.id) stays
same_id step o n (inr made) = ap (λ (q : Original). q.id) made

made_with : (step : Redrawings) (o n : Original) (chain : List GridPoint) → IsOldOrDone step o n
    → with_chain o chain ≡ redrawn_original_by step o → with_chain n chain ≡ redrawn_original_by step o
made_with step o n chain (inl stays) is = ap (λ q. with_chain q chain) stays ∙ is
made_with step o n chain (inr made) is = ap (λ q. with_chain q chain) made ∙ is

-- what becomes of one original
old_or_done_next : (step : Redrawings) (r : Replacement) (o n : Original)
    → (o.id ≡ r.id → with_chain o r.chain ≡ redrawn_original_by step o) → IsOldOrDone step o n
    → IsOldOrDone step o (rechained r.id r.chain n)
old_or_done_next step r o n is before = elim (cases_eq n.id r.id) [
  | inl same ↦ inr (with_id r n same
      ∙ made_with step o n r.chain before (is (sym (same_id step o n before) ∙ same)))
  | inr differs ↦ subst (IsOldOrDone step o) (sym (without_id r n differs)) before
]

done_next : (step : Redrawings) (r : Replacement) (rest : List Replacement) (o n : Original)
    → (o.id ≡ r.id → with_chain o r.chain ≡ redrawn_original_by step o) → IsOldOrDone step o n
    → IsToComeOrDone step (r ∷ rest) o n → IsToComeOrDone step rest o (rechained r.id r.chain n)
done_next step r rest o n is before done = elim (cases_eq n.id r.id) [
  | inl same ↦ inr (with_id r n same
      ∙ made_with step o n r.chain before (is (sym (same_id step o n before) ∙ same)))
  | inr differs ↦ elim done [
    | inl has ↦ elim (Any-cons_cases (λ q. q.id ≡ o.id) r rest has) [
      | inl first ↦ absurd (differs (same_id step o n before ∙ sym first))
      | inr later ↦ inl later
    ]
    | inr made ↦ inr (without_id r n differs ∙ made)
  ]
]

pub one_installed : (step : Redrawings) (old new : List Original) (r : Replacement) (rest : List Replacement)
    → IsInstalling step old new (r ∷ rest) → IsInstalling step old (map (rechained r.id r.chain) new) rest
one_installed step old new r rest before =
    let f = rechained r.id r.chain in
    let first = All-head (IsReplacement step old) r rest before.each in
    let is = λ (i : ℕ) (d : Original) (within : i < length old) (same : (get_or old i d).id ≡ r.id).
    ap (with_chain (get_or old i d)) (first i d within same) in
    let at = λ (i : ℕ) (d : Original) (within : i < length old).
    get_or-map f new i d d (subst (λ n. i < n) (sym before.same_length) within) in
    record {
      same_length = length-map new f ∙ before.same_length;
      each = All-tail (IsReplacement step old) r rest before.each;
      old_or_done = λ i d within. subst (IsOldOrDone step (get_or old i d)) (sym (at i d within))
          (old_or_done_next step r (get_or old i d) (get_or new i d) (is i d within) (before.old_or_done i d within));
      done = λ i d within. subst (IsToComeOrDone step rest (get_or old i d)) (sym (at i d within))
          (done_next step r rest (get_or old i d) (get_or new i d) (is i d within) (before.old_or_done i d within)
          (before.done i d within));
    }

-- ---- all
pub all_installed : (step : Redrawings) (old new : List Original) → IsInstalling step old new []
    → new ≡ map (redrawn_original_by step) old
all_installed step old new after =
    same_lists new (map (redrawn_original_by step) old)
    (after.same_length ∙ sym (length-map old (redrawn_original_by step)))
    (λ i d at.
    let within : i < length old = subst (λ n. i < n) after.same_length at in
    elim (after.done i d within) [
      | inl has ↦ absurd (Any-nil (λ q. q.id ≡ (get_or old i d).id) has)
      | inr done ↦ done ∙ sym (get_or-map (redrawn_original_by step) old i d d within)
    ])
