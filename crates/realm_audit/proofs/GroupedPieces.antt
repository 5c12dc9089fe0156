-- This file shows that pieces within bounds take part in violations exactly where the pieces near tell it.
use Rattle.std.proofs.Common.{◌≡◌, ◌↔◌, ◌+◌, ◌<◌, ℕ, List, [], ◌∷◌, ◌++◌, Contains, Any, All, length, get_or, take, drop}
use Rattle.std.proofs.Common.{sym, subst, ap, ◌∙◌, inl, inr, arith}
use Rattle.std.proofs.lemmas.List.{take-append-drop, take_more}
use Rattle.std.proofs.lemmas.List.Elements.{All-append, All-weaker, All-cons, All-nil}
use Rattle.grid_base.specs.Point.{GridPoint, IsBefore}
use Rattle.grid_base.specs.Segment.{GridSegment}
use Rattle.grid_base.proofs.Ends.{columns_in_order}
use Rattle.chain_laws.proofs.Elements.{Any-append_cases, Any-append_left, Any-append_right}
use Rattle.realm_audit.specs.Shelves.{HasShare, MeetsBounds, ListsPieces}
use Rattle.realm_audit.specs.Clashes.{HasClash}
use Rattle.realm_audit.specs.Groups.{Surrounds, ClashesAmong}
use Rattle.realm_audit.specs.declared.bounds.Bounds.{Bounds}
use Rattle.realm_audit.specs.declared.shares.Share.{Share}
use Rattle.realm_audit.proofs.CommonBoxes.{clash_reaches}

-- ---- what is near
-- a piece reaches the bounds around it
own_reaches : (b : Bounds) (t : GridSegment) → Surrounds b t → IsBefore t.a t.b → MeetsBounds b t
own_reaches b t around ordered =
    let columns = columns_in_order t.a t.b ordered in
    record {
      from_left = omega (arith, around.right);
      to_right = omega (arith, around.left);
      from_below = omega (arith, around.high);
      to_above = omega (arith, around.low);
    }

-- one takes part in a violation exactly where those near tell it
pub told_near : (points : List GridPoint) (shares : List Share) (near : List GridSegment) (b : Bounds) (t : GridSegment)
    → ListsPieces shares near
    → ((s : GridSegment) (x : ℕ) → HasShare shares s x → MeetsBounds b s → Contains near s)
    → ((s : GridSegment) (x : ℕ) → HasShare shares s x → IsBefore s.a s.b)
    → Surrounds b t → ClashesAmong points near t ↔ HasClash points shares t
told_near points shares near b t lists all ordered around = (
  λ told. record {
    piece = lists t told.one;
    clash = elim told.clash [
      | inl explicit ↦ inl explicit
      | inr (k, u, within, is, clash) ↦ inr (u, lists u (k, within, is), clash)
    ];
  },
  λ has. let (x, own) = has.piece in record {
    one = all t x own (own_reaches b t around (ordered t x own));
    clash = elim has.clash [
      | inl explicit ↦ inl explicit
      | inr (u, (y, other), clash) ↦
          let (k, within, is) = all u y other (clash_reaches b t u around (ordered t x own) (ordered u y other) clash) in
          inr (k, u, within, is, clash)
    ];
  },
)

-- so does one of many
pub some_told : (P R : GridSegment → Type 0) (b : Bounds) → ((t : GridSegment) → Surrounds b t → P t ↔ R t)
    → (pieces : List GridSegment) → All (Surrounds b) pieces → Any P pieces ↔ Any R pieces
some_told P R b same pieces around = (
  λ (k, t, within, is, p). (k, t, within, is, (same t (at k t within is)).0 p),
  λ (k, t, within, is, r). (k, t, within, is, (same t (at k t within is)).1 r),
)
  where
    at : (k : ℕ) (t : GridSegment) → k < length pieces → get_or pieces k t ≡ t → Surrounds b t
    at k t within is = subst (Surrounds b) is (around k t within)

-- ---- groups
-- one more piece is within the new bounds
pub one_more_within : (b wider : Bounds) (pieces : List GridSegment) (count : ℕ) (t : GridSegment) → count < length pieces
    → t ≡ get_or pieces count t → ((s : GridSegment) → Surrounds b s → Surrounds wider s) → Surrounds wider t
    → All (Surrounds b) (take count pieces) → All (Surrounds wider) (take (count + 1) pieces)
one_more_within b wider pieces count t within is stay around old =
    subst (All (Surrounds wider)) (sym (take_more pieces count t within ∙ ap (λ (y : GridSegment). take count pieces ++ y ∷ []) (sym is)))
    (All-append (Surrounds wider) (take count pieces) (t ∷ [])
    (All-weaker (Surrounds b) (Surrounds wider) stay (take count pieces) old)
    (All-cons (Surrounds wider) t [] around (All-nil (Surrounds wider))))

-- ---- group by group
-- what some piece has is so of a group of the first ones, or of the rest
pub first_or_rest : (P : GridSegment → Type 0) (count : ℕ) (pieces first rest : List GridSegment) → first ≡ take count pieces
    → rest ≡ drop count pieces → (Any P first → ⊥) → Any P pieces ↔ Any P rest
first_or_rest P count pieces first rest is_first is_rest none = (
  λ some. elim (Any-append_cases P first rest (subst (Any P) (sym whole) some)) [
    | inl early ↦ absurd (none early)
    | inr late ↦ late
  ],
  λ late. subst (Any P) whole (Any-append_right P first rest late),
)
  where
    whole : first ++ rest ≡ pieces
    whole = ap (λ (l : List GridSegment). l ++ rest) is_first ∙ ap (λ (l : List GridSegment). take count pieces ++ l) is_rest
        ∙ take-append-drop count pieces

-- what one of the first has, some piece has
pub first_has : (P : GridSegment → Type 0) (count : ℕ) (pieces first : List GridSegment) → first ≡ take count pieces
    → Any P first → Any P pieces
first_has P count pieces first is some =
    subst (Any P) (take-append-drop count pieces)
    (Any-append_left P (take count pieces) (drop count pieces) (subst (Any P) is some))
