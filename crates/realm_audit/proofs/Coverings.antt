-- This file shows that what is fresh still covers the violations after a change, and when there is none.
use Rattle.std.proofs.Common.{◌≡◌, ◌⊎◌, ◌↔◌, List, [], Contains, Any, All, subst, inl, inr}
use Rattle.std.proofs.Common.{Bool, IsTrue, Result, Ok, Err, IfOk}
use Rattle.grid_base.specs.Point.{GridPoint}
use Rattle.grid_base.specs.Segment.{GridSegment, IsEnd}
use Rattle.grid_base.specs.Crossing.{Inside}
use Rattle.grid_base.specs.Drawing.{Drawing, IsPoint, IsPiece, HasViolation}
use Rattle.grid_base.specs.Realm.Violation.{PointInside, TwoCross}
use Rattle.grid_base.specs.declared.original.Original.{Original}
use Rattle.grid_base.proofs.RealmLaw.{piece_ends}
use Rattle.hook_chain.specs.StandingChains.{HasValidChain}
use Rattle.realm_audit.specs.Kept.{drawing_of, HasSharesOf, AreCovered, Clash}
use Rattle.realm_audit.specs.Clashes.{IsOwned, AreClashes, HasClash, IsExplicitInPiece}
use Rattle.grid_base.specs.declared.memory.NoMemory.{NoMemory}
use Rattle.realm_audit.specs.declared.shares.Share.{Share}
use Rattle.realm_audit.proofs.SharedPieces.{shared_piece, vertices_are_ends}

-- ---- changes
-- pieces come only into the list of those that are fresh
pub covered_with_pieces : (d e : Drawing) (old new : List GridSegment) (points : List GridPoint) → e.points ≡ d.points
    → ((s : GridSegment) → Contains old s → Contains new s)
    → ((s : GridSegment) → IsPiece e s → IsPiece d s ⊎ Contains new s)
    → AreCovered d old points → AreCovered e new points
covered_with_pieces d e old new points same stay from covered = record {
  by_point = λ p t explicit piece inside.
      let had = subst (λ (l : List GridPoint). Contains l p) same explicit in
      elim (from t piece) [
        | inl was ↦ elim (covered.by_point p t had was inside) [ inl fresh ↦ inl (stay t fresh) | inr at ↦ inr at ]
        | inr fresh ↦ inl fresh
      ];
  by_piece = λ t u piece_t piece_u clash. elim (from t piece_t) [
    | inr fresh ↦ inl fresh
    | inl was_t ↦ elim (from u piece_u) [
      | inr fresh ↦ inr fresh
      | inl was_u ↦ elim (covered.by_piece t u was_t was_u clash) [
        | inl fresh ↦ inl (stay t fresh)
        | inr fresh ↦ inr (stay u fresh)
      ]
    ]
  ];
}

-- explicit points come only into the list of those that are fresh
pub covered_with_points : (old new : List GridPoint) (originals : List Original) (pieces : List GridSegment)
    (fresh_old fresh_new : List GridPoint)
    → ((p : GridPoint) → Contains fresh_old p → Contains fresh_new p)
    → ((p : GridPoint) → Contains new p → Contains old p ⊎ Contains fresh_new p)
    → AreCovered (drawing_of old originals) pieces fresh_old → AreCovered (drawing_of new originals) pieces fresh_new
covered_with_points old new originals pieces fresh_old fresh_new stay from covered = record {
  by_point = λ p t explicit piece inside. elim (from p explicit) [
    | inl was ↦ elim (covered.by_point p t was piece inside) [ inl fresh ↦ inl fresh | inr at ↦ inr (stay p at) ]
    | inr fresh ↦ inr fresh
  ];
  by_piece = covered.by_piece;
}

-- where there is no violation nothing has to be fresh
pub covered_by_none : (d : Drawing) → (HasViolation d → ⊥) → AreCovered d [] []
covered_by_none d settled = record {
  by_point = λ p t explicit piece inside. absurd (settled (PointInside p t (inl explicit) piece inside));
  by_piece = λ t u piece_t piece_u clash. absurd (settled (by_clash t u piece_t piece_u clash));
}
  where
    by_clash : (t u : GridSegment) → IsPiece d t → IsPiece d u → Clash t u → HasViolation d
    by_clash t u piece_t piece_u (inl cross) = TwoCross t u piece_t piece_u cross
    by_clash t u piece_t piece_u (inr (inl inside)) = PointInside u.a t (piece_ends d u piece_u).0 piece_t inside
    by_clash t u piece_t piece_u (inr (inr inside)) = PointInside u.b t (piece_ends d u piece_u).1 piece_t inside

-- ---- what is found
-- two pieces that clash are a violation
clash_is_violation : (d : Drawing) (t u : GridSegment) → IsPiece d t → IsPiece d u → Clash t u → HasViolation d
clash_is_violation d t u piece_t piece_u (inl cross) = TwoCross t u piece_t piece_u cross
clash_is_violation d t u piece_t piece_u (inr (inl inside)) = PointInside u.a t (piece_ends d u piece_u).0 piece_t inside
clash_is_violation d t u piece_t piece_u (inr (inr inside)) = PointInside u.b t (piece_ends d u piece_u).1 piece_t inside

clashes_are_violation : (d : Drawing) (t u : GridSegment) → IsPiece d t → IsPiece d u → AreClashes t u → HasViolation d
clashes_are_violation d t u piece_t piece_u (inl clash) = clash_is_violation d t u piece_t piece_u clash
clashes_are_violation d t u piece_t piece_u (inr clash) = clash_is_violation d u t piece_u piece_t clash

-- some fresh piece or point takes part in a violation
abbrev pub HasSome : List GridPoint → List Share → List GridSegment → List GridPoint → Type 0
HasSome points shares pieces fresh = Any (HasClash points shares) pieces ⊎ Any (IsExplicitInPiece points shares) fresh

pub some_is_violation : (points : List GridPoint) (originals : List Original) (shares : List Share)
    (pieces : List GridSegment) (fresh : List GridPoint) → HasSharesOf originals shares
    → HasSome points shares pieces fresh → HasViolation (drawing_of points originals)
some_is_violation points originals shares pieces fresh are (inl (k, t, within, is, has)) =
    let d = drawing_of points originals in
    let piece_of = λ (s : GridSegment). (shared_piece points originals shares are s).0 in
    by_clash (piece_of t has.piece) has.clash
  where
    by_clash : IsPiece (drawing_of points originals) t
        → Any (λ p. Inside p t) points ⊎ ((u : GridSegment) × IsOwned shares u × AreClashes t u)
        → HasViolation (drawing_of points originals)
    by_clash piece (inl (i, p, in_points, p_is, inside)) =
        PointInside p t (inl (i, in_points, p_is)) piece inside
    by_clash piece (inr (u, shared, clash)) =
        clashes_are_violation (drawing_of points originals) t u piece
        ((shared_piece points originals shares are u).0 shared) clash
some_is_violation points originals shares pieces fresh are (inr (k, p, within, is, stuck)) =
    let (u, shared, inside) = stuck.inside in
    PointInside p u (inl stuck.explicit) ((shared_piece points originals shares are u).0 shared) inside

-- a list that has x has some element with what holds of x
some_element : {X : Type 0} (P : X → Type 0) (xs : List X) (x : X) → Contains xs x → P x → Any P xs
some_element P xs x (k, within, is) p = (k, x, within, is, p)

-- each violation is found at what is fresh
pub violation_is_found : (points : List GridPoint) (originals : List Original) (shares : List Share)
    (pieces : List GridSegment) (fresh : List GridPoint) → HasSharesOf originals shares → All HasValidChain originals
    → AreCovered (drawing_of points originals) pieces fresh → HasViolation (drawing_of points originals)
    → HasSome points shares pieces fresh
violation_is_found points originals shares pieces fresh are valid covered violation = by_case violation
  where
    shared : (s : GridSegment) → IsPiece (drawing_of points originals) s → IsOwned shares s
    shared s = (shared_piece points originals shares are s).1

    by_pieces : (t u : GridSegment) → IsPiece (drawing_of points originals) t → IsPiece (drawing_of points originals) u
        → Clash t u → HasSome points shares pieces fresh
    by_pieces t u piece_t piece_u clash = elim (covered.by_piece t u piece_t piece_u clash) [
      | inl there ↦
          let at_t : HasClash points shares t = record {
            piece = shared t piece_t;
            clash = inr (u, shared u piece_u, inl clash);
          } in
          inl (some_element (HasClash points shares) pieces t there at_t)
      | inr there ↦
          let at_u : HasClash points shares u = record {
            piece = shared u piece_u;
            clash = inr (t, shared t piece_t, inr clash);
          } in
          inl (some_element (HasClash points shares) pieces u there at_u)
    ]

    by_end : (p : GridPoint) (t u : GridSegment) → IsPiece (drawing_of points originals) t → IsOwned shares u → IsEnd p u
        → Inside p t → HasSome points shares pieces fresh
    by_end p t u piece of_u (inl first) inside =
        by_pieces t u piece ((shared_piece points originals shares are u).0 of_u)
        (inr (inl (subst (λ q. Inside q t) first inside)))
    by_end p t u piece of_u (inr last) inside =
        by_pieces t u piece ((shared_piece points originals shares are u).0 of_u)
        (inr (inr (subst (λ q. Inside q t) last inside)))

    by_point : (p : GridPoint) (t : GridSegment) → IsPoint (drawing_of points originals) p
        → IsPiece (drawing_of points originals) t → Inside p t → HasSome points shares pieces fresh
    by_point p t (inl explicit) piece inside = elim (covered.by_point p t explicit piece inside) [
      | inl there ↦
          let at_t : HasClash points shares t = record {
            piece = shared t piece;
            clash = inl (some_element (λ q. Inside q t) points p explicit inside);
          } in
          inl (some_element (HasClash points shares) pieces t there at_t)
      | inr there ↦
          let at_p : IsExplicitInPiece points shares p = record { explicit = explicit; inside = (t, shared t piece, inside) } in
          inr (some_element (IsExplicitInPiece points shares) fresh p there at_p)
    ]
    by_point p t (inr vertex) piece inside =
        let (u, of_u, end) = (vertices_are_ends points originals shares are valid p).1 vertex in
        by_end p t u piece of_u end inside

    by_case : HasViolation (drawing_of points originals) → HasSome points shares pieces fresh
    by_case (PointInside p t point piece inside) = by_point p t point piece inside
    by_case (TwoCross t u piece_t piece_u cross) = by_pieces t u piece_t piece_u (inl cross)

-- a test that tells whether some fresh piece or point takes part in a violation tells whether there is one
pub told_by : (points : List GridPoint) (originals : List Original) (shares : List Share)
    (pieces : List GridSegment) (fresh : List GridPoint) (listed : List GridSegment) (listed_points : List GridPoint)
    (found : Result Bool NoMemory) → HasSharesOf originals shares → All HasValidChain originals
    → AreCovered (drawing_of points originals) pieces fresh → listed ≡ pieces → listed_points ≡ fresh
    → IfOk found (λ yes. IsTrue yes ↔ HasSome points shares listed listed_points)
    → IfOk found (λ yes. IsTrue yes ↔ HasViolation (drawing_of points originals))
told_by points originals shares pieces fresh listed listed_points (Err e) are valid covered same same_points told = tt
told_by points originals shares pieces fresh listed listed_points (Ok test) are valid covered same same_points told =
    let says = rw (same, same_points) at told in (
      λ holds. some_is_violation points originals shares pieces fresh are (says.0 holds),
      λ violation. says.1 (violation_is_found points originals shares pieces fresh are valid covered violation),
    )
