-- This file shows that segments are those of a realm exactly where none crosses another or has its end inside another.
use Rattle.std.proofs.Common.{List, All, Contains, refl, subst, inl, inr}
use Rattle.std.specs.List.{Any}
use Rattle.std.proofs.lemmas.List.Elements.{All-contains, All-contains_itself, All-weaker}
use Rattle.grid_base.specs.Point.{GridPoint}
use Rattle.grid_base.specs.Segment.{GridSegment, IsEnd}
use Rattle.grid_base.specs.Crossing.{Inside}
use Rattle.grid_base.specs.Realm.{Violation, PointInside, TwoCross}
use Rattle.grid_base.specs.Border.{AreNoded}
use Rattle.grid_base.proofs.RealmLaw.{realm_by, realm_settled}
use Rattle.segment_lists.specs.OnGrid.{IsOnGrid}
use Rattle.segment_lists.specs.Disturbed.{Disturbs}

-- none of the list disturbs s
abbrev pub IsLeft : List GridSegment → GridSegment → Type 0
IsLeft list s = All (λ t. ¬ Disturbs s t) list

none_disturbs : (list : List GridSegment) (s t : GridSegment) → All (IsLeft list) list → Contains list s → Contains list t
    → Disturbs s t → ⊥
none_disturbs list s t left s_there t_there =
    All-contains (λ u. ¬ Disturbs s u) list t (All-contains (IsLeft list) list s left s_there) t_there

no_violation : (list : List GridSegment) → All (IsLeft list) list → Violation (λ p. Any (IsEnd p) list) (Contains list) → ⊥
no_violation list left (TwoCross s t cs ct cross) = none_disturbs list s t left cs ct (inl cross)
no_violation list left (PointInside p s (k, t, within, at, inl e) cs inside) = none_disturbs list s t left cs (k, within, at)
    (inr (inl (subst (λ q. Inside q s) e inside)))
no_violation list left (PointInside p s (k, t, within, at, inr e) cs inside) = none_disturbs list s t left cs (k, within, at)
    (inr (inr (subst (λ q. Inside q s) e inside)))

ends_there : (list : List GridSegment) (s : GridSegment) → Contains list s → Any (IsEnd s.a) list × Any (IsEnd s.b) list
ends_there list s (k, within, at) = ((k, s, within, at, inl refl), (k, s, within, at, inr refl))

-- where none disturbs another, nothing keeps the segments from being those of a realm
pub noded_by : (list : List GridSegment) → All IsOnGrid list → All (IsLeft list) list → AreNoded list
noded_by list grid left =
    realm_by (λ p. Any (IsEnd p) list) (Contains list) (λ s c. (All-contains IsOnGrid list s grid c).order) (λ s c. ends_there list s c)
    (no_violation list left)

-- what holds of each element holds of all
each_of : {X : Type 0} (P : X → Type 0) (list : List X) → ((x : X) → Contains list x → P x) → All P list
each_of P list each = All-weaker (Contains list) P each list (All-contains_itself list)

settled : (list : List GridSegment) (s t : GridSegment) → AreNoded list → Contains list s → Contains list t → Disturbs s t → ⊥
settled list s t noded s_there t_there (inl cross) =
    realm_settled (λ p. Any (IsEnd p) list) (Contains list) noded (TwoCross s t s_there t_there cross)
settled list s t noded s_there t_there (inr (inl inside)) =
    realm_settled (λ p. Any (IsEnd p) list) (Contains list) noded (PointInside t.a s (ends_there list t t_there).0 s_there inside)
settled list s t noded s_there t_there (inr (inr inside)) =
    realm_settled (λ p. Any (IsEnd p) list) (Contains list) noded (PointInside t.b s (ends_there list t t_there).1 s_there inside)

-- in a realm none disturbs another: a crossing would be a violation, and so would an end inside a segment
pub left_in_realm : (list : List GridSegment) → AreNoded list → All (IsLeft list) list
left_in_realm list noded =
    each_of (IsLeft list) list (λ s s_there. each_of (λ t. ¬ Disturbs s t) list (λ t t_there. settled list s t noded s_there t_there))

-- ---- fewer segments
in_more : (list more : List GridSegment) (p : GridPoint) → ((s : GridSegment) → Contains list s → Contains more s) → Any (IsEnd p) list
    → Any (IsEnd p) more
in_more list more p part (k, t, within, at, e) = let m = part t (k, within, at) in (m.0, t, m.1, m.2, e)

pub noded_part : (list more : List GridSegment) → ((s : GridSegment) → Contains list s → Contains more s) → AreNoded more → AreNoded list
noded_part list more part noded = record {
  ends_are_points = λ s c. ends_there list s c;
  no_point_inside = λ p s on c inside. noded.no_point_inside p s (in_more list more p part on) (part s c) inside;
  only_ends_in_common = λ s t q cs ct. noded.only_ends_in_common s t q (part s cs) (part t ct);
}
