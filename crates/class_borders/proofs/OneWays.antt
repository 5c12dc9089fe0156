-- This file shows that no two links of a class lead along one segment both ways, and which way a cycle goes.
use Rattle.std.proofs.Common.{◌≡◌, ◌⊎◌, ℕ, ◌<◌, ◌==◌, Bool, true, false, not, ◌&&◌, List, [], ◌∷◌, ◌++◌, length, Contains}
use Rattle.std.proofs.Common.{sym, ap, subst, ◌∙◌, arith, inl, inr}
use Rattle.std.proofs.lemmas.List.Elements.{Contains-get_or}
use Rattle.grid_base.specs.Point.{GridPoint, IsBefore}
use Rattle.grid_base.specs.Segment.{GridSegment}
use Rattle.grid_base.proofs.Elements.{Contains-here}
use Rattle.grid_base.proofs.Orders.{IsBefore-asym}
use Rattle.grid_base.proofs.Collinear.{same_segment}
use Rattle.r_cycles.specs.Cycles.{Link, link, links, round, IsCycle}
use Rattle.plane_cells.specs.Numbered.{numbered}
use Rattle.plane_cells.specs.Sheared.{AreOfRealm}
use Rattle.plane_cells.specs.ClassNumbers.{AreClassNumbers}
use Rattle.plane_cells.specs.declared.classes.SideClasses.{SideClasses}
use Rattle.plane_cells.proofs.ShearedRealm.{numbered_in}
use Rattle.class_borders.specs.ClassLinks.{is_left_alone, is_right_alone, class_links}
use Rattle.class_borders.specs.ClassBorders.{back, GoesAlong, GoesOneWay}
use Rattle.class_borders.proofs.LinkCounts.{numbers_at}
use Rattle.class_borders.proofs.ClassTurns.{turns_whole}
use Rattle.class_borders.proofs.EvenRims.{IsAlong, link_along}
use Rattle.class_borders.proofs.Aligned.{AreAlong, GoesWith, With, Against, goes_along}

not_both_sides : (l r : Bool) → (l && not r) ≡ true → (r && not l) ≡ true → ⊥
not_both_sides true true h k = cc
not_both_sides true false h k = cc
not_both_sides false r h k = cc

-- two segments that lead from one end to another, both from the lesser or one from each
turned_round : (s t : GridSegment) (l : Link) → IsBefore s.a s.b → IsBefore t.a t.b → l ≡ link s.a s.b → back l ≡ link t.a t.b → ⊥
turned_round s t l o p e f = IsBefore-asym s.a s.b o
    (subst (λ (v : GridPoint). IsBefore v s.a) (sym (ap (λ (k : Link). k.from) f) ∙ ap (λ (k : Link). k.to) e)
    (subst (λ (v : GridPoint). IsBefore t.a v) (sym (ap (λ (k : Link). k.to) f) ∙ ap (λ (k : Link). k.from) e) p))

segment_of_link : (s t : GridSegment) (l : Link) → l ≡ link s.a s.b → back l ≡ link t.b t.a → s ≡ t
segment_of_link s t l e f = same_segment s t
    (sym (ap (λ (k : Link). k.from) e) ∙ ap (λ (k : Link). k.to) f) (sym (ap (λ (k : Link). k.to) e) ∙ ap (λ (k : Link). k.from) f)

pub one_way : (B : List GridSegment) (N : List SideClasses) (n : ℕ) (l : Link) → AreOfRealm B → Contains (class_links n B N) l
    → Contains (class_links n B N) (back l) → ⊥
one_way B N n l realm there again = by (link_along n B N l there) (link_along n B N (back l) again)
  where
    order : (i : ℕ) → i < length B → IsBefore (numbered B i).a (numbered B i).b
    order i h = (realm.on_grid (numbered B i) (numbered_in B i h)).order

    twice : (i j : ℕ) → i < length B → j < length B → numbered B i ≡ numbered B j → is_left_alone n (numbers_at N i) ≡ true
        → is_right_alone n (numbers_at N j) ≡ true → ⊥
    twice i j hi hj e left right =
        let same = realm.once i j hi hj e in
        not_both_sides ((numbers_at N i).left == n) ((numbers_at N i).right == n) left
        (subst (λ (k : ℕ). is_right_alone n (numbers_at N k) ≡ true) (sym same) right)

    by : IsAlong n B N l → IsAlong n B N (back l) → ⊥
    by a b = ways a.leads b.leads
      where
        s : GridSegment
        s = numbered B a.place

        t : GridSegment
        t = numbered B b.place

        ways : ((is_left_alone n (numbers_at N a.place) ≡ true) × (l ≡ link s.a s.b))
            ⊎ ((is_right_alone n (numbers_at N a.place) ≡ true) × (l ≡ link s.b s.a))
            → ((is_left_alone n (numbers_at N b.place) ≡ true) × (back l ≡ link t.a t.b))
            ⊎ ((is_right_alone n (numbers_at N b.place) ≡ true) × (back l ≡ link t.b t.a)) → ⊥
        ways (inl x) (inl y) = turned_round s t l (order a.place a.within) (order b.place b.within) x.1 y.1
        ways (inl x) (inr y) = twice a.place b.place a.within b.within (segment_of_link s t l x.1 y.1) x.0 y.0
        ways (inr x) (inl y) = twice b.place a.place b.within a.within (segment_of_link t s (back l) y.1 x.1) y.0 x.0
        ways (inr x) (inr y) = turned_round t s l (order b.place b.within) (order a.place a.within) (ap back y.1) (ap back x.1)

-- ---- a cycle along the links of a class
pub along_class : (B : List GridSegment) (N : List SideClasses) (n : ℕ) (c : List GridPoint) → AreOfRealm B → AreClassNumbers B N
    → IsCycle c → GoesAlong (class_links n B N) c → AreAlong (class_links n B N) c
along_class B N n c realm numbers is_cycle goes = record {
  apart = is_cycle.once;
  turn = λ v. turns_whole B N n v realm numbers;
  one_way = λ l there again. one_way B N n l realm there again;
  on_cycle = goes.each;
}

pub with_class : (B : List GridSegment) (N : List SideClasses) (n : ℕ) (c : List GridPoint) → AreOfRealm B → AreClassNumbers B N
    → IsCycle c → GoesAlong (class_links n B N) c → GoesWith (class_links n B N) c
with_class B N n [] realm numbers is_cycle goes = absurd (omega (arith, is_cycle.three))
with_class B N n (v ∷ []) realm numbers is_cycle goes = absurd (omega (arith, is_cycle.three))
with_class B N n (v ∷ w ∷ c) realm numbers is_cycle goes =
    goes_along (class_links n B N) v w c (along_class B N n (v ∷ w ∷ c) realm numbers is_cycle goes)
    (goes.only (link v w) (Contains-here (link v w) (links (w ∷ (c ++ v ∷ [])))))

pub goes_one_way : (B : List GridSegment) (N : List SideClasses) (n : ℕ) (c : List GridPoint) → AreOfRealm B → AreClassNumbers B N
    → IsCycle c → GoesAlong (class_links n B N) c → GoesOneWay (class_links n B N) c
goes_one_way B N n c realm numbers is_cycle goes = by (with_class B N n c realm numbers is_cycle goes)
  where
    by : GoesWith (class_links n B N) c → GoesOneWay (class_links n B N) c
    by (With all has) = inl (λ k d within. all _ (Contains-get_or (links (round c)) k d within))
    by (Against all has) = inr (λ k d within. all _ (Contains-get_or (links (round c)) k d within))
