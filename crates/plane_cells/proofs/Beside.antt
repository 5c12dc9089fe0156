-- This file shows which label the places beside a segment have.
use Rattle.std.proofs.Common.{◌≡◌, ℕ, zero, suc, ◌*◌, ◌<◌, List, [], ◌∷◌, ◌++◌, ℤ, pos, negsuc, ◌<ℤ◌, ◌≤ℤ◌, refl, sym, subst, ◌∙◌, arith}
use Rattle.std.proofs.Common.{inl, inr}
use Rattle.std.proofs.lemmas.Int.{ints}
use Rattle.grid_base.specs.Point.{GridPoint}
use Rattle.grid_base.specs.Segment.{GridSegment}
use Rattle.grid_base.specs.Sides.{Side, Left, On, Right, side_of}
use Rattle.grid_base.proofs.Turns.{times_le}
use Rattle.grid_base.proofs.Signs.{order, right_by_sign}
use Rattle.grid_base.specs.Plane.{Place, side_at, side_number_at, Spans, Holds, HoldsInside, IsAtPoint}
use Rattle.plane_classes.specs.Classes.{IsWall, IsWallBetween}
use Rattle.plane_classes.proofs.Ways.{held_by_line}
use Rattle.plane_classes.proofs.PastOthers.{IsClear}
use Rattle.plane_classes.proofs.Multiples.{held_scaled}
use Rattle.plane_classes.proofs.OwnSegment.{within_a, within_b}
use Rattle.plane_cells.proofs.OneSide.{Off, one_side_by_way}
use Rattle.plane_cells.specs.Steps.{Step, before, after, In, Each, Pairs, link, label_over, HasRights, HaveRights}
use Rattle.linked_parts.specs.Parts.{Links, AreLinked}
use Rattle.plane_cells.proofs.Lists.{each_map, each_at}
use Rattle.linked_parts.proofs.LinkedNumbers.{linked_both}
use Rattle.plane_cells.proofs.Links.{linked_same}
use Rattle.plane_cells.proofs.Labels.{label_at, IsOver, IsUnder, IsFurtherDown, label_of_under, over_joined}
use Rattle.plane_cells.proofs.InGaps.{on_at_most, at_most_on, each_apply, split_at}
use Rattle.plane_cells.proofs.Walks.{Position, Bound, None, Wall, IsFrom, IsTo, IsAcross, Lies, Across, Ahead, Past, IsStatus, Walk}
use Rattle.plane_cells.proofs.Walks.{HasLabel}
use Rattle.plane_cells.proofs.AtVertices.{slab_spans}
use Rattle.plane_cells.proofs.Complete.{wall_of_step}
use Rattle.plane_classes.proofs.OverTests.{le_from}

-- the label of the gap beside segment i
abbrev pub side_label : (ℕ → ℕ) → ℕ → Side → ℕ
side_label right i Left = suc i
side_label right i On = suc i
side_label right i Right = right i

-- ---- the labels under the segments of a status
-- each segment of the list has a label that is linked with that of the gap under it
abbrev pub AreRight : Links → (ℕ → ℕ) → ℕ → List ℕ → Type 0
AreRight L right d [] = Unit {0}
AreRight L right d (i ∷ A) = AreLinked L (right i) d × AreRight L right (suc i) A

right_joined : (L : Links) (right : ℕ → ℕ) (d : ℕ) (A B : List ℕ) → AreRight L right d A → AreRight L right (label_over d A) B
    → AreRight L right d (A ++ B)
right_joined L right d [] B h k = k
right_joined L right d (i ∷ A) B h k = (h.0, right_joined L right (suc i) A B h.1 k)

pub right_first : (L : Links) (right : ℕ → ℕ) (d : ℕ) (A B : List ℕ) → AreRight L right d (A ++ B) → AreRight L right d A
right_first L right d [] B h = tt
right_first L right d (i ∷ A) B h = (h.0, right_first L right (suc i) A B h.1)

pub right_last : (L : Links) (right : ℕ → ℕ) (d : ℕ) (A B : List ℕ) → AreRight L right d (A ++ B) → AreRight L right (label_over d A) B
right_last L right d [] B h = h
right_last L right d (i ∷ A) B h = right_last L right (suc i) A B h.1

right_new : (L : Links) (right : ℕ → ℕ) (d : ℕ) (A : List ℕ) → HasRights right d A → AreRight L right d A
right_new L right d [] h = tt
right_new L right d (i ∷ A) h = (linked_same L (right i) d h.0, right_new L right (suc i) A h.1)

right_seed : (L : Links) (right : ℕ → ℕ) (d e : ℕ) (A : List ℕ) → AreLinked L d e → AreRight L right d A → AreRight L right e A
right_seed L right d e [] l h = tt
right_seed L right d e (i ∷ A) l h = (linked_both L (right i) d e h.0 l, h.1)

pub right_behind : (L : Links) (right : ℕ → ℕ) (k : Step) → AreLinked L (link k).0 (link k).1
    → HasRights right (label_over 0 k.below) k.begins → AreRight L right 0 (before k) → AreRight L right 0 (after k)
right_behind L right k l new h =
    let tail = right_last L right (label_over 0 k.below) k.ends k.above (right_last L right 0 k.below (k.ends ++ k.above) h) in
    let e = over_joined 0 k.below k.ends in
    let f = over_joined 0 k.below k.begins in
    right_joined L right 0 k.below (k.begins ++ k.above) (right_first L right 0 k.below (k.ends ++ k.above) h)
    (right_joined L right (label_over 0 k.below) k.begins k.above (right_new L right (label_over 0 k.below) k.begins new)
    (subst (λ (d : ℕ). AreRight L right d k.above) f
    (right_seed L right (link k).0 (link k).1 k.above l (subst (λ (d : ℕ). AreRight L right d k.above) (sym e) tail))))

-- a place just under i has a label that is linked with the one under i
split_under : (seg : ℕ → GridSegment) (L : Links) (right : ℕ → ℕ) (r : Place) (i : ℕ) → IsUnder seg r i → (A : List ℕ) (d : ℕ)
    → Pairs (IsFurtherDown seg) A
    → Each (λ k. IsFurtherDown seg k i → IsOver seg r k) A → Each (λ j. IsFurtherDown seg i j → IsUnder seg r j) A → In i A
    → AreRight L right d A → AreLinked L (right i) (label_at seg r d A)
split_under seg L right r i own [] d s f g m h = absurd m
split_under seg L right r i own (k ∷ A) d s f g (inl e) h =
    let rest : Each (IsUnder seg r) A = each_apply (IsFurtherDown seg i) (IsUnder seg r) A
    (subst (λ (j : ℕ). Each (IsFurtherDown seg j) A) (sym e) s.0) g.1 in
    let own' : IsUnder seg r k = subst (IsUnder seg r) e own in
    let same : label_at seg r d (k ∷ A) ≡ d = rw own' (label_of_under seg r d A rest) in
    subst (λ (y : ℕ). AreLinked L (right i) y) (sym same) (subst (λ (j : ℕ). AreLinked L (right j) d) (sym e) h.0)
split_under seg L right r i own (k ∷ A) d s f g (inr m) h =
    let over : IsOver seg r k = f.0 (each_at (IsFurtherDown seg k) A i s.0 m) in
    let rest = split_under seg L right r i own A (suc k) s.1 f.1 g.1 m h.1 in
    rw over rest

-- ---- r is near a place inside segment i: the way between meets no segment, and no wall lies between
pub record IsNear (B : List GridSegment) (seg : ℕ → GridSegment) (i : ℕ) (d : Side) (r m : Place) : Type 0 where
  pub inside : HoldsInside (seg i) m
  pub real : 0 < m.w
  pub clear : IsClear B r m
  pub side : side_at (seg i) r ≡ d
  pub no_wall : (e : ℕ) → IsWall B e → IsWallBetween e r m → ⊥

-- no other segment holds m
pub alone : (B : List GridSegment) (n : ℕ) (seg : ℕ → GridSegment) (i k : ℕ) (m : Place) → Position B n seg → i < n → k < n → (k ≡ i → ⊥)
    → HoldsInside (seg i) m → Holds (seg k) m → ⊥
alone B n seg i k m P hi hk u h held =
    let e = P.apart k i m hk hi u held h.held in
    elim e.2 [
      | inl f ↦ h.not_a (subst (λ (p : GridPoint). IsAtPoint m p) f e.3)
      | inr f ↦ h.not_b
          (subst (λ (p : GridPoint). IsAtPoint m p) f e.3)
    ]

off_near : (B : List GridSegment) (n : ℕ) (seg : ℕ → GridSegment) (i k : ℕ) (d : Side) (r m : Place) → Position B n seg → i < n → k < n
    → (k ≡ i → ⊥) → IsNear B seg i d r m → Off (seg k) r m
off_near B n seg i k d r m P hi hk u near zero j h held = alone B n seg i k m P hi hk u near.inside
    (held_scaled (seg k) j r m (omega (arith, h)) held)
off_near B n seg i k d r m P hi hk u near (suc a) j h held = (near.clear (suc a) j (omega arith)).apart (seg k) (P.listed k hk) held

real_near : (B : List GridSegment) (r m : Place) → IsClear B r m → 0 < r.w
real_near B r m clear = let f = (clear 1 0 (omega arith)).real in omega (arith, f)

-- r sees another segment as m does
alike_near : (B : List GridSegment) (n : ℕ) (seg : ℕ → GridSegment) (i k : ℕ) (d : Side) (r m : Place) → Position B n seg → i < n → k < n
    → (k ≡ i → ⊥) → IsNear B seg i d r m → Spans (seg k) r → Spans (seg k) m → side_at (seg k) r ≡ side_at (seg k) m
alike_near B n seg i k d r m P hi hk u near sr sm = one_side_by_way (seg k) r m (real_near B r m near.clear) near.real (P.slanted k hk)
    (off_near B n seg i k d r m P hi hk u near) sr sm

positive : (x : ℤ) → pos 0 ≤ℤ x → (side_of x ≡ On → ⊥) → side_of x ≡ Left
positive (pos zero) h off = absurd (off refl)
positive (pos (suc n)) h off = refl
positive (negsuc n) h off = absurd (omega (arith, ints, h))

over_near : (B : List GridSegment) (n : ℕ) (seg : ℕ → GridSegment) (lo hi : Bound) (i : ℕ) (d : Side) (r m : Place) (k : ℕ)
    → Position B n seg → i < n → IsNear B seg i d r m → IsFrom lo r → IsTo hi r → IsFrom lo m → IsTo hi m → Spans (seg i) m
    → IsAcross n seg lo hi k → IsFurtherDown seg k i → IsOver seg r k
over_near B n seg lo hi i d r m k P hn near fr tr fm tm si a f =
    let sm = slab_spans n seg lo hi k m a fm tm in
    alike_near B n seg i k d r m P hn a.number f.0 near (slab_spans n seg lo hi k r a fr tr) sm
    ∙ positive (side_number_at (seg k) m)
    (on_at_most (side_number_at (seg k) m) (side_at (seg i) m) (f.1 m near.real sm si) near.inside.held.line)
    (λ e. alone B n seg i k m P hn a.number f.0 near.inside (held_by_line (seg k) m near.real (P.slanted k a.number) sm e))

under_near : (B : List GridSegment) (n : ℕ) (seg : ℕ → GridSegment) (lo hi : Bound) (i : ℕ) (d : Side) (r m : Place) (k : ℕ)
    → Position B n seg → i < n → IsNear B seg i d r m → IsFrom lo r → IsTo hi r → IsFrom lo m → IsTo hi m → Spans (seg i) m
    → IsAcross n seg lo hi k → IsFurtherDown seg i k → IsUnder seg r k
under_near B n seg lo hi i d r m k P hn near fr tr fm tm si a f =
    let sm = slab_spans n seg lo hi k m a fm tm in
    alike_near B n seg i k d r m P hn a.number (λ e. f.0 (sym e)) near (slab_spans n seg lo hi k r a fr tr) sm
    ∙ right_by_sign _ (at_most_on (side_number_at (seg k) m) (side_at (seg i) m) (f.1 m near.real si sm) near.inside.held.line
    (λ e. alone B n seg i k m P hn a.number (λ e. f.0 (sym e)) near.inside (held_by_line (seg k) m near.real (P.slanted k a.number) sm e)))

is_listed : (n : ℕ) (seg : ℕ → GridSegment) (lo hi : Bound) (status : List ℕ) (i : ℕ) (m : Place) → pos ((seg i).a.x * m.w) <ℤ m.x
    → m.x <ℤ pos ((seg i).b.x * m.w) → IsFrom lo m → IsTo hi m → Lies seg lo hi status i → In i status
is_listed n seg lo hi status i m a b f t (Across h) = h
is_listed n seg lo None status i m a b f t (Ahead h) = absurd h
is_listed n seg lo (Wall e) status i m a b f t (Ahead h) = let u = times_le e (seg i).a.x 0 m.w h (omega arith) in absurd
    (omega (arith, ints, a, t, u))
is_listed n seg None hi status i m a b f t (Past h) = absurd h
is_listed n seg (Wall c) hi status i m a b f t (Past h) = let u = times_le (seg i).b.x c 0 m.w h (omega arith) in absurd
    (omega (arith, ints, b, f, u))

-- what is asked of the label of r
abbrev pub Fits : Links → (ℕ → ℕ) → ℕ → Side → ℕ → Type 0
Fits L right i d y = AreLinked L (side_label right i d) y

pub near_label : (B : List GridSegment) (n : ℕ) (seg : ℕ → GridSegment) (lo hi : Bound) (status : List ℕ) (L : Links) (right : ℕ
    → ℕ) (i : ℕ) (d : Side) (r m : Place) → Position B n seg → IsStatus n seg lo hi status → AreRight L right 0 status → i < n
    → IsNear B seg i d r m → (d ≡ On → ⊥) → IsFrom lo r → IsTo hi r → IsFrom lo m → IsTo hi m → Fits L right i d (label_at seg r 0 status)
near_label B n seg lo hi status L right i d r m P s rights hn near off fr tr fm tm = go d near.side off
  where
    slanted : (seg i).a.x < (seg i).b.x
    slanted = P.slanted i hn

    after_a : pos ((seg i).a.x * m.w) <ℤ m.x
    after_a = within_a (seg i) m slanted near.inside

    before_b : m.x <ℤ pos ((seg i).b.x * m.w)
    before_b = within_b (seg i) m slanted near.inside

    member : In i status
    member = is_listed n seg lo hi status i m after_a before_b fm tm (s.others i hn)

    spans : Spans (seg i) m
    spans = near.inside.held.across

    overs : Each (λ k. IsFurtherDown seg k i → IsOver seg r k) status
    overs = each_map (IsAcross n seg lo hi) (λ k. IsFurtherDown seg k i → IsOver seg r k) status
        (λ k a f. over_near B n seg lo hi i d r m k P hn near fr tr fm tm spans a f) s.across

    unders : Each (λ k. IsFurtherDown seg i k → IsUnder seg r k) status
    unders = each_map (IsAcross n seg lo hi) (λ k. IsFurtherDown seg i k → IsUnder seg r k) status
        (λ k a f. under_near B n seg lo hi i d r m k P hn near fr tr fm tm spans a f) s.across

    go : (e : Side) → side_at (seg i) r ≡ e → (e ≡ On → ⊥) → Fits L right i e (label_at seg r 0 status)
    go Left h u = linked_same L (suc i) _ (sym (split_at seg r i h status 0 s.sorted overs unders member).0)
    go On h u = absurd (u refl)
    go Right h u = split_under seg L right r i h status 0 s.sorted overs unders member rights

-- ---- along the walk
abbrev pub AreAmong : List Step → Links → Type 0
AreAmong [] L = Unit {0}
AreAmong (k ∷ steps) L = AreLinked L (link k).0 (link k).1 × AreAmong steps L

pub record IsLabelled (seg : ℕ → GridSegment) (status : List ℕ) (steps : List Step) (L : Links) (right : ℕ → ℕ) (i : ℕ) (d : Side)
    (r : Place) : Type 0 where
  pub label : ℕ
  pub has : HasLabel seg status steps r label
  pub fits : Fits L right i d label

-- where two places lie to a wall that isn't strictly between them
data Both (e : ℕ) (r m : Place) : Type 0 where
  Before : r.x ≤ℤ pos (e * r.w) → m.x ≤ℤ pos (e * m.w) → Both e r m
  Behind : pos (e * r.w) ≤ℤ r.x → pos (e * m.w) ≤ℤ m.x → Both e r m

both : (e : ℕ) (r m : Place) → (IsWallBetween e r m → ⊥) → Both e r m
both e r m h = elim (order r.x (pos (e * r.w))) [
  | inl a ↦ elim (order m.x (pos (e * m.w))) [
    | inl b ↦ Before a b
    | inr b ↦ elim (order (pos (e * r.w)) r.x) [ inl c ↦ Behind c (le_from _ _ b) | inr c ↦ absurd (h (inl (c, b))) ]
  ]
  | inr a ↦ elim (order (pos (e * m.w)) m.x) [ inl b ↦ Behind (le_from _ _ a) b | inr b ↦ absurd (h (inr (b, a))) ]
]

pub labelled : (B : List GridSegment) (n : ℕ) (seg : ℕ → GridSegment) (L : Links) (right : ℕ → ℕ) (i : ℕ) (d : Side) (r m : Place)
    → Position B n seg → i < n → IsNear B seg i d r m → (d ≡ On → ⊥)
    → (lo : Bound) (status : List ℕ) (steps : List Step) → Walk n seg lo status steps → AreAmong steps L → HaveRights right steps
    → AreRight L right 0 status → IsFrom lo r → IsFrom lo m → IsLabelled seg status steps L right i d r
labelled B n seg L right i d r m P hn near off lo status [] walk among have rights fr fm =
    record {
      label = label_at seg r 0 status;
      has = refl;
      fits = near_label B n seg lo None status L right i d r m P walk rights hn near off
          fr tt fm tt;
    }
labelled B n seg L right i d r m P hn near off lo status (k ∷ steps) walk among have rights fr fm =
    go (both k.vertex.x r m (near.no_wall k.vertex.x (wall_of_step B n seg k P walk.1)))
    (λ a b. labelled B n seg L right i d r m P hn near off (Wall k.vertex.x) (after k) steps walk.4 among.1 have.1
    (right_behind L right k among.0 have.0 (subst (AreRight L right 0) walk.0 rights)) a b)
  where
    go : Both k.vertex.x r m
        → (pos (k.vertex.x * r.w) ≤ℤ r.x → pos (k.vertex.x * m.w) ≤ℤ m.x → IsLabelled seg (after k) steps L right i d r)
        → IsLabelled seg status (k ∷ steps) L right i d r
    go (Before a b) rest =
        record {
          label = label_at seg r 0 status;
          has = inl (a, refl);
          fits = near_label B n seg lo
              (Wall k.vertex.x) status L right i d r m P walk.3 rights hn near off fr a fm b;
        }
    go (Behind a b) rest = let h = rest a b in record { label = h.label; has = inr (a, h.has); fits = h.fits }
