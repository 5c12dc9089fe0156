-- This file shows that the places of a class are the odd ones of its rim, where it isn't the outer class.
use Rattle.std.proofs.Common.{◌≡◌, ◌↔◌, ℕ, ◌*◌, ◌<◌, ◌==◌, Bool, true, false, not, ◌&&◌, ◌||◌, if◌then◌else◌, List, []}
use Rattle.std.proofs.Common.{◌∷◌, map, length, Contains, refl, sym, ap, ◌∙◌, arith}
use Rattle.grid_base.specs.Grid.{grid_side}
use Rattle.grid_base.specs.Point.{IsBefore}
use Rattle.grid_base.specs.Segment.{GridSegment}
use Rattle.grid_base.specs.Sides.{Side, Left, On, Right}
use Rattle.grid_base.specs.Plane.{Place, IsFree}
use Rattle.grid_base.specs.Odd.{Odd}
use Rattle.grid_base.proofs.Booleans.{same_number, number_itself}
use Rattle.linked_parts.specs.Parts.{AreLinked}
use Rattle.linked_parts.proofs.LinkedNumbers.{linked_here, linked_both, linked_back}
use Rattle.plane_classes.specs.Shear.{sheared, sheared_place}
use Rattle.plane_classes.proofs.Parities.{xor, par, xor_right_none}
use Rattle.plane_classes.proofs.Counts.{odd_is, is_odd, even_is}
use Rattle.plane_classes.proofs.OverTests.{is_over}
use Rattle.plane_classes.proofs.FewerSegments.{free_of_part}
use Rattle.plane_classes.proofs.Shears.{free_sheared}
use Rattle.plane_classes.proofs.ShearedParity.{par_map, parity_sheared}
use Rattle.plane_cells.specs.Steps.{links}
use Rattle.plane_cells.specs.Walks.{None}
use Rattle.plane_cells.specs.Numbered.{numbered}
use Rattle.plane_cells.specs.Sheared.{sheared_number, AreOfRealm}
use Rattle.plane_cells.specs.ClassNumbers.{number_at, LiesBeside, AreClassNumbers}
use Rattle.plane_cells.specs.declared.classes.SideClasses.{SideClasses}
use Rattle.plane_cells.proofs.Sided.{slanted_of}
use Rattle.plane_cells.proofs.ShearedRealm.{IsRealmBelow, position}
use Rattle.plane_cells.proofs.ShearedSides.{sweep_of, below_of, free_beside, side_of_sweep}
use Rattle.plane_cells.proofs.Numbered.{IsSweep, IsSideLabel, all_among, side_place, linked_in_class}
use Rattle.plane_cells.proofs.ColumnChanges.{respected, divides}
use Rattle.plane_cells.proofs.StatusCounts.{par_below, below_alike}
use Rattle.plane_cells.proofs.ColumnParity.{HasParity, parity_of_place}
use Rattle.plane_cells.proofs.RimCounts.{below_first}
use Rattle.plane_cells.proofs.Beside.{side_label}
use Rattle.class_borders.specs.ClassLinks.{is_left_alone, is_right_alone, class_rim}
use Rattle.class_borders.proofs.EachSwept.{HasSweep, has_sweep}
use Rattle.class_borders.proofs.LinkCounts.{numbers_at}
use Rattle.class_borders.proofs.ClassTurns.{is_class, under_number, respects}
use Rattle.class_borders.proofs.EvenRims.{is_alone, rim_part, rim_is_even}

-- ---- the segments of a rim, counted
par_picked : (l r : Bool) (h : GridSegment → Bool) (s : GridSegment) (R : List GridSegment)
    → par h (if l then s ∷ R else if r then s ∷ R else R) ≡ xor ((l || r) && h s) (par h R)
par_picked true r h s R = refl
par_picked false true h s R = refl
par_picked false false h s R = refl

rim_counted : (n : ℕ) (h : GridSegment → Bool) (B : List GridSegment) (N : List SideClasses) → length N ≡ length B
    → par h (class_rim n B N) ≡ par_below (λ i. is_alone n (numbers_at N i) && h (numbered B i)) (length B)
rim_counted n h [] N e = refl
rim_counted n h (s ∷ B) [] e = absurd (omega (arith, e))
rim_counted n h (s ∷ B) (m ∷ N) e =
    par_picked (is_left_alone n m) (is_right_alone n m) h s (class_rim n B N)
    ∙ ap (λ (b : Bool). xor (is_alone n m && h s) b) (rim_counted n h B N (omega (arith, e)))
    ∙ sym (below_first (λ i. is_alone n (numbers_at (m ∷ N) i) && h (numbered (s ∷ B) i)) (length B))

alone_differs : (l r : Bool) → ((l && not r) || (r && not l)) ≡ xor l r
alone_differs true true = refl
alone_differs true false = refl
alone_differs false true = refl
alone_differs false false = refl

-- ---- the label of a place beside a segment
side_class : (B : List GridSegment) (N : List SideClasses) (n : ℕ) (h : HasSweep B) (c : AreClassNumbers B N) (i : ℕ) (d : Side)
    → i < length B → (d ≡ On → ⊥) → is_class N n (side_label h.right i d) ≡ (number_at N i d == n)
side_class B N n h c i Left hi off = refl
side_class B N n h c i On hi off = absurd (off refl)
side_class B N n h c i Right hi off = ap (λ (m : ℕ). m == n) (under_number B N h c i hi)

zero_isnt : (n : ℕ) → (n ≡ 0 → ⊥) → (0 == n) ≡ false
zero_isnt n h = grind arith

rim_parity : (B : List GridSegment) (N : List SideClasses) (n i : ℕ) (d : Side) (q : Place) → AreOfRealm B → AreClassNumbers B N
    → (n ≡ 0 → ⊥) → HasSweep B → LiesBeside B i d q → par (is_over q) (class_rim n B N) ≡ (number_at N i d == n)
rim_parity B N n i d q realm c not_outer h lies = counts ∙ same
  where
    C : List GridSegment
    C = class_rim n B N

    r : IsRealmBelow grid_side B
    r = h.sweep.realm

    f : ℕ → Bool
    f = is_class N n

    free : IsFree B q
    free = free_beside B (numbered B i) d q lies.beside

    Q : Place
    Q = sheared_place grid_side q

    free_Q : IsFree (map (sheared grid_side) B) Q
    free_Q = free_sheared grid_side B q r.order r.some free

    sweep : IsSweep (map (sheared grid_side) B) (length B) (sheared_number B) (grid_side * grid_side) h.steps h.right
    sweep = sweep_of grid_side B h.steps h.right h.sweep

    hp : HasParity (length B) (sheared_number B) f h.right [] h.steps Q
    hp = parity_of_place (map (sheared grid_side) B) (length B) (sheared_number B) (links h.steps) h.right f Q (position grid_side B r) free_Q
        (respects B N n h c) None [] h.steps h.sweep.walk (all_among h.steps (links h.steps) (λ y z m. m)) h.sweep.rights tt tt
        (linked_here (links h.steps) 0)

    own : IsSideLabel (map (sheared grid_side) B) (sheared_number B) h.steps h.right i d Q
    own = side_place (map (sheared grid_side) B) (length B) (sheared_number B) (grid_side * grid_side) h.steps h.right i d Q sweep lies.within
        (slanted_of d lies.sided) (side_of_sweep grid_side B i d q r lies.within lies.beside)

    linked : AreLinked (links h.steps) (side_label h.right i d) hp.label
    linked = linked_both (links h.steps) (side_label h.right i d) own.label hp.label own.fits
        (linked_back (links h.steps) hp.label own.label
        (linked_in_class (map (sheared grid_side) B) (length B) (sheared_number B) (grid_side * grid_side) h.steps h.right Q own.place hp.label
        own.label sweep own.class hp.has own.has))

    same : xor (f hp.label) (f 0) ≡ (number_at N i d == n)
    same =
        ap (λ (b : Bool). xor (f hp.label) b) (zero_isnt n not_outer) ∙ xor_right_none (f hp.label)
        ∙ sym (respected (links h.steps) f (respects B N n h c) (side_label h.right i d) hp.label linked.0 linked.1)
        ∙ side_class B N n h c i d lies.within lies.sided

    divided : (j : ℕ) → j < length B → is_alone n (numbers_at N j) ≡ divides f h.right j
    divided j hj =
        alone_differs (number_at N j Left == n) (number_at N j Right == n)
        ∙ ap (λ (m : ℕ). xor (number_at N j Left == n) (m == n)) (sym (under_number B N h c j hj))

    order : (s : GridSegment) → Contains C s → IsBefore s.a s.b
    order s m = r.order s (rim_part n B N s m)

    counts : par (is_over q) C ≡ xor (f hp.label) (f 0)
    counts =
        parity_sheared grid_side C q r.some order (λ s m. below_of grid_side B r s (rim_part n B N s m))
        (even_is C order (rim_is_even B N n realm c)) (free_of_part C B q (rim_part n B N) free)
        ∙ par_map grid_side (is_over Q) C ∙ rim_counted n (λ s. is_over Q (sheared grid_side s)) B N c.one_each
        ∙ below_alike (λ j. is_alone n (numbers_at N j) && is_over Q (sheared_number B j))
        (λ j. divides f h.right j && is_over Q (sheared_number B j)) (length B)
        (λ j hj. ap (λ (b : Bool). b && is_over Q (sheared_number B j)) (divided j hj))
        ∙ hp.parity

-- what lies beside a segment is odd for the rim of a class exactly where it is of that class
pub rim_odd : (B : List GridSegment) (N : List SideClasses) (n i : ℕ) (d : Side) (q : Place) → AreOfRealm B → AreClassNumbers B N
    → (n ≡ 0 → ⊥) → LiesBeside B i d q → (number_at N i d ≡ n) ↔ Odd (class_rim n B N) q
rim_odd B N n i d q realm c not_outer lies =
    let p = rim_parity B N n i d q realm c not_outer (has_sweep B realm) lies in (
      λ e. is_odd (class_rim n B N) q (p ∙ number_itself (number_at N i d) n e),
      λ odd. same_number (number_at N i d) n (sym p ∙ odd_is (class_rim n B N) q odd),
    )
