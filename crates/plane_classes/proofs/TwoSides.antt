-- This file shows that the places beside a segment have one answer on each side, and how the two answers differ.
use Rattle.std.proofs.Common.{◌≡◌, Bool, true, false, ◌&&◌, List}
use Rattle.std.proofs.Common.{[], ◌∷◌, refl, sym, ap, ◌∙◌, arith, inl, inr}
use Rattle.grid_base.specs.Point.{IsBefore}
use Rattle.grid_base.specs.Segment.{GridSegment}
use Rattle.grid_base.specs.Sides.{Side, Left, On, Right}
use Rattle.grid_base.specs.Plane.{Place, IsBeside}
use Rattle.grid_base.specs.Odd.{is_right}
use Rattle.grid_base.proofs.Orders.{is_segment}
use Rattle.grid_base.proofs.Signs.{left_off, right_off}
use Rattle.plane_classes.proofs.OverTests.{is_over}
use Rattle.plane_classes.proofs.Parities.{xor, par, HasPairedEnds, xor_right_none}
use Rattle.plane_classes.proofs.Ways.{AreInOrder}
use Rattle.plane_classes.proofs.OwnSegment.{is_left}
use Rattle.plane_classes.proofs.AtSegment.{Counts, Slanted, Upright}
use Rattle.plane_classes.proofs.BesideSegment.{parity_at}
use Rattle.plane_classes.proofs.AlongSegment.{IsAlone, parity_along}

-- what a side counts
pub counted : (s : GridSegment) (d : Side) → IsBefore s.a s.b → (e : Bool) × Counts s d e
counted s d (inl o) = (is_right d, Slanted o refl)
counted s d (inr o) = (is_left d, Upright o.0 o.1 refl)

same_by : (a b c d : Bool) → xor a b ≡ d → xor c b ≡ d → a ≡ c
same_by true true true d h k = refl
same_by true true false d h k = cc
same_by true false true d h k = refl
same_by true false false d h k = cc
same_by false true true d h k = cc
same_by false true false d h k = refl
same_by false false true d h k = cc
same_by false false false d h k = refl

-- the places beside s on one side are all odd, or all even
pub one_answer : (B : List GridSegment) (s : GridSegment) (d : Side) (p q : Place) → AreInOrder B → HasPairedEnds B → IsBefore s.a s.b
    → IsAlone B s → (d ≡ On → ⊥)
    → IsBeside B s d p → IsBeside B s d q → par (is_over p) B ≡ par (is_over q) B
one_answer B s d p q o v so alone off h g =
    let c = counted s d so in
    let e = parity_at B s d p c.0 h o v c.1 off h.inside.held.real (λ t k u. alone t h.goal k u h.inside) in
    let f = parity_at B s d q c.0 g o v c.1 off g.inside.held.real (λ t k u. alone t g.goal k u g.inside) in
    let a = parity_along B s h.goal g.goal o v so alone h.inside.held.real
    g.inside.held.real h.inside g.inside in
    same_by _ (par (is_over g.goal) B) _ (par (λ t. is_segment s t && c.0) B) (ap (λ (z : Bool). xor (par (is_over p) B) z) (sym a) ∙ e) f

-- ---- the two sides
xor_out : (a b c d e : Bool) → xor a b ≡ d → xor c b ≡ e → xor a c ≡ xor d e
xor_out true true true d e h k = cc
xor_out true true false d e h k = cc
xor_out true false true d e h k = cc
xor_out true false false d e h k = cc
xor_out false true true d e h k = cc
xor_out false true false d e h k = cc
xor_out false false true d e h k = cc
xor_out false false false d e h k = cc

and_false : (a : Bool) → (a && false) ≡ false
and_false true = refl
and_false false = refl

none_same : (s : GridSegment) (B : List GridSegment) → par (λ t. is_segment s t && false) B ≡ false
none_same s [] = refl
none_same s (t ∷ B) = rw (and_false (is_segment s t)) (none_same s B)

-- whether s comes an odd number of times in B
abbrev pub is_odd_in : List GridSegment → GridSegment → Bool
is_odd_in B s = par (λ t. is_segment s t && true) B

counts_once : (B : List GridSegment) (s : GridSegment) (e f : Bool) → Counts s Left e → Counts s Right f
    → xor (par (λ t. is_segment s t && e) B) (par (λ t. is_segment s t && f) B) ≡ is_odd_in B s
counts_once B s e f (Slanted a k) (Slanted b l) = rw (sym k, sym l, none_same s B) refl
counts_once B s e f (Slanted a k) (Upright b c l) = absurd (omega arith)
counts_once B s e f (Upright a c k) (Slanted b l) = absurd (omega arith)
counts_once B s e f (Upright a c k) (Upright b g l) = rw (sym k, sym l, none_same s B) (xor_right_none (is_odd_in B s))

-- a place beside s on the left and one on the right differ exactly where s is in the border
pub two_sides : (B : List GridSegment) (s : GridSegment) (p q : Place) → AreInOrder B → HasPairedEnds B → IsBefore s.a s.b → IsAlone B s
    → IsBeside B s Left p → IsBeside B s Right q → xor (par (is_over p) B) (par (is_over q) B) ≡ is_odd_in B s
two_sides B s p q o v so alone h g =
    let c = counted s Left so in
    let k = counted s Right so in
    let e = parity_at B s Left p c.0 h o v c.1 (λ x. left_off x) h.inside.held.real
    (λ t m u. alone t h.goal m u h.inside) in
    let f = parity_at B s Right q k.0 g o v k.1 (λ x. right_off x) g.inside.held.real
    (λ t m u. alone t g.goal m u g.inside) in
    let a = parity_along B s h.goal g.goal o v so alone h.inside.held.real
    g.inside.held.real h.inside g.inside in
    xor_out _ (par (is_over g.goal) B) _ _ _ (ap (λ (z : Bool). xor (par (is_over p) B) z) (sym a) ∙ e) f
    ∙ counts_once B s c.0 k.0 c.1 k.1
