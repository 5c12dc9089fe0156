-- This file shows where a list of points begins and ends, and that one segment at most has these ends.
use Rattle.std.proofs.Common.{◌≡◌, ℕ, suc, ◌-◌, ◌<◌, List, [], ◌∷◌, length, get_or, refl, sym, subst, ◌∙◌, arith}
use Rattle.std.proofs.Common.{Bool, true, if◌then◌else◌, Option, None, Some, IsNone, IfSome, MatchOption, ap, ap₂}
use Rattle.std.proofs.lemmas.Bool.Decides.{nat_tests}
use Rattle.grid_base.specs.Point.{GridPoint, IsBefore, is_before}
use Rattle.grid_base.specs.Segment.{GridSegment, segment_of}
use Rattle.grid_base.proofs.Ends.{not_before_itself}
use Rattle.grid_base.proofs.Orders.{segment_between}
use Rattle.hook_chain.specs.Chains.{RunsFrom}
use Rattle.chain_laws.specs.Courses.{IsFromEndToEnd}
use Rattle.chain_laws.proofs.LinkPlaces.{reads}

-- ---- order
is_before-true : (p q : GridPoint) → IsBefore p q → is_before p q ≡ true
is_before-true p q before = grind (arith, nat_tests)

segment_in_order : (p q : GridPoint) → IsBefore p q → segment_of p q ≡ record { a = p; b = q }
segment_in_order p q before =
    ap (λ (b : Bool). if b then record { a = p; b = q } else record { a = q; b = p }) (is_before-true p q before)

-- ---- ends
one_on : (v w : GridPoint) (points : List GridPoint) → length (v ∷ w ∷ points) - 1 ≡ suc (length (w ∷ points) - 1)
one_on v w points = omega arith

-- a list leads from its first point to its last
pub leads_by_ends : (points : List GridPoint) (d : GridPoint) → 0 < length points
    → RunsFrom (get_or points 0 d) (get_or points (length points - 1) d) points
leads_by_ends [] d some = absurd (omega arith)
leads_by_ends (v ∷ []) d some = (refl, refl)
leads_by_ends (v ∷ w ∷ points) d some =
    let rest = leads_by_ends (w ∷ points) d (omega arith) in
    (refl, subst (λ (n : ℕ). RunsFrom w (get_or (v ∷ w ∷ points) n d) (w ∷ points)) (sym (one_on v w points)) rest)

-- and from nowhere else
pub ends_by_leads : (a b : GridPoint) (points : List GridPoint) (d : GridPoint) → RunsFrom a b points
    → (a ≡ get_or points 0 d) × (b ≡ get_or points (length points - 1) d)
ends_by_leads a b [] d leads = absurd leads
ends_by_leads a b (v ∷ []) d leads = (sym leads.0, sym leads.1)
ends_by_leads a b (v ∷ w ∷ points) d leads =
    let last = (ends_by_leads w b (w ∷ points) d leads.1).1 in
    (sym leads.0, subst (λ (n : ℕ). b ≡ get_or (v ∷ w ∷ points) n d) (sym (one_on v w points)) last)

-- ---- the segment from end to end
-- a segment whose ends were read, where the first is before the last
pub from_end_to_end : (points : List GridPoint) (first last : GridPoint) (r : Option GridSegment) → 0 < length points
    → first ≡ get_or points 0 first → last ≡ get_or points (length points - 1) last → IsBefore first last
    → (IsNone r → first ≡ last) → IfSome r (λ s. s ≡ segment_of first last)
    → MatchOption r ((o : GridSegment) → IsFromEndToEnd points o → ⊥) (IsFromEndToEnd points)
from_end_to_end points first last None some at_first at_last before none ends =
    absurd (not_before_itself first last (none refl) before)
from_end_to_end points first last (Some s) some at_first at_last before none ends =
    subst (IsFromEndToEnd points) (sym (ends ∙ segment_in_order first last before))
    (record {
      ordered = before;
      leads = subst (λ (a : GridPoint). RunsFrom a last points) (sym at_first)
          (subst (λ (b : GridPoint). RunsFrom (get_or points 0 first) b points)
          (sym (reads points (length points - 1) last (omega arith) at_last first))
          (leads_by_ends points first some));
    })

-- and where it isn't, there is none
pub not_from_end_to_end : (points : List GridPoint) (first last : GridPoint) → 0 < length points
    → first ≡ get_or points 0 first → last ≡ get_or points (length points - 1) last → (IsBefore first last → ⊥)
    → (o : GridSegment) → IsFromEndToEnd points o → ⊥
not_from_end_to_end points first last some at_first at_last not_before o ends =
    let begin = (ends_by_leads o.a o.b points first ends.leads).0 ∙ sym at_first in
    let end = (ends_by_leads o.a o.b points last ends.leads).1 ∙ sym at_last in
    not_before
    (subst (λ (a : GridPoint). IsBefore a last) begin (subst (λ (b : GridPoint). IsBefore o.a b) end ends.ordered))

-- there is one at most
pub one_segment : (points : List GridPoint) (o s : GridSegment) → IsFromEndToEnd points o → IsFromEndToEnd points s → o ≡ s
one_segment points o s first second =
    let of_o = ends_by_leads o.a o.b points o.a first.leads in
    let of_s = ends_by_leads s.a s.b points o.a second.leads in
    ap₂ segment_between (of_o.0 ∙ sym of_s.0) (of_o.1 ∙ sym of_s.1)
