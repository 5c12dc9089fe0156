-- This file shows what a loop has that keeps the segments of an ascending list of which something holds.
use Rattle.std.proofs.Common.{◌≡◌, ◌↔◌, ℕ, ◌+◌, ◌<◌, List, [], ◌∷◌, ◌++◌, length, take, get_or, Contains, AllPairs, sym, subst, arith}
use Rattle.std.proofs.Common.{inl, inr, ◌∙◌}
use Rattle.std.proofs.lemmas.List.{length-take-le, get_or-take}
use Rattle.std.proofs.lemmas.List.Quantifiers.{all_pairs_push}
use Rattle.std.proofs.lemmas.List.Elements.{Contains-append_left, Contains-push, Contains-push_cases}
use Rattle.grid_base.specs.Segment.{GridSegment, IsSegmentBefore}
use Rattle.grid_base.proofs.Elements.{same_place}
use Rattle.plane_cells.proofs.Parts.{taken_more}

-- the kept segments ascend, and are those of the list of which P holds
pub record AreKept (P : GridSegment → Type 0) (list kept : List GridSegment) : Type 0 where
  pub ascending : AllPairs IsSegmentBefore kept
  pub members : (s : GridSegment) → Contains kept s ↔ (Contains list s × P s)

module _ (P : GridSegment → Type 0) (list kept : List GridSegment) (i : ℕ) (x : GridSegment) (within : i < length list)
    (at : x ≡ get_or list i x) (h : AreKept P (take i list) kept) where
  more : take (i + 1) list ≡ take i list ++ x ∷ []
  more = taken_more list i x within at

  earlier : (y : GridSegment) → AllPairs IsSegmentBefore list → Contains (take i list) y → IsSegmentBefore y x
  earlier y up (j, short, there) =
      let less : j < i = omega (arith, short, length-take-le i list (omega (arith, within))) in
      subst (λ (s : GridSegment). IsSegmentBefore s x) (sym (get_or-take i list j y less) ∙ there)
      (subst (IsSegmentBefore (get_or list j y)) (same_place list i y x within ∙ sym at) (up j i y less within))

  in_more : (y : GridSegment) → Contains (take i list) y → Contains (take (i + 1) list) y
  in_more y there = subst (λ (l : List GridSegment). Contains l y) (sym more) (Contains-append_left (take i list) (x ∷ []) y there)

  here : Contains (take (i + 1) list) x
  here = subst (λ (l : List GridSegment). Contains l x) (sym more) (Contains-push (take i list) x)

  -- one more segment, of which P holds
  pub kept_with : AllPairs IsSegmentBefore list → P x → AreKept P (take (i + 1) list) (kept ++ x ∷ [])
  kept_with up p = record {
    ascending = all_pairs_push IsSegmentBefore kept x h.ascending
        (λ k d short. earlier (get_or kept k d) up ((h.members (get_or kept k d)).0 (k, short, same_place kept k _ d short)).0);
    members = λ y. (
      (λ c. elim (Contains-push_cases kept x y c) [
        | inl k ↦ let m = (h.members y).0 k in (in_more y m.0, m.1)
        | inr same ↦ subst (λ (s : GridSegment). Contains (take (i + 1) list) s × P s) same (here, p)
      ]),
      λ c. elim (Contains-push_cases (take i list) x y (subst (λ (l : List GridSegment). Contains l y) more c.0)) [
        | inl k ↦ Contains-append_left kept (x ∷ []) y ((h.members y).1 (k, c.1))
        | inr same ↦ subst (Contains (kept ++ x ∷ [])) same (Contains-push kept x)
      ],
    );
  }

  -- one more, of which P doesn't hold
  pub kept_without : (P x → ⊥) → AreKept P (take (i + 1) list) kept
  kept_without p = record {
    ascending = h.ascending;
    members = λ y. (
      (λ c. let m = (h.members y).0 c in (in_more y m.0, m.1)),
      λ c. elim (Contains-push_cases (take i list) x y (subst (λ (l : List GridSegment). Contains l y) more c.0)) [
        | inl k ↦ (h.members y).1 (k, c.1)
        | inr same ↦ absurd (p (subst P (sym same) c.1))
      ],
    );
  }
