-- This file shows that of the segments above a place an odd number divides exactly where its label isn't like 0.
use Rattle.std.proofs.Common.{◌≡◌, ℕ, suc, ◌*◌, ◌<◌, ◌≤◌, Bool, true, false, ◌&&◌, List, [], ◌∷◌, ℤ, pos, ◌<ℤ◌, ◌≤ℤ◌, refl}
use Rattle.std.proofs.Common.{sym, ap, subst, ◌∙◌, arith, inl, inr}
use Rattle.std.proofs.lemmas.Int.{ints}
use Rattle.grid_base.specs.Segment.{GridSegment}
use Rattle.grid_base.specs.Sides.{Side}
use Rattle.grid_base.proofs.Turns.{times_le}
use Rattle.grid_base.specs.Plane.{Place, side_at, Spans, IsFree}
use Rattle.plane_classes.proofs.OverTests.{is_over}
use Rattle.grid_base.specs.Odd.{is_right}
use Rattle.plane_classes.proofs.Parities.{xor, par, and_none}
use Rattle.plane_classes.proofs.OverTests.{over_within, over_no_left, over_no_right}
use Rattle.plane_cells.specs.Steps.{In, Each, Pairs, label_over}
use Rattle.linked_parts.specs.Parts.{Links, AreLinked}
use Rattle.plane_cells.specs.Labels.{label_at}
use Rattle.plane_cells.specs.Order.{IsFurtherDown}
use Rattle.plane_cells.specs.Walks.{Bound, None, Wall, IsAcross, Lies, Across, Ahead, Past}
use Rattle.plane_cells.proofs.Walks.{Position, IsFrom}
use Rattle.plane_cells.specs.Walks.{IsStatus}
use Rattle.plane_cells.proofs.Lists.{each_map}
use Rattle.plane_cells.proofs.Labels.{label_kept, IsUnder, IsSeen, Seen, Over, Under, seen, rest_under, label_of_under}
use Rattle.grid_base.proofs.Signs.{order}
use Rattle.plane_cells.specs.Steps.{Step, after, HaveRights}
use Rattle.plane_cells.specs.Labels.{HasLabel}
use Rattle.plane_cells.specs.Walks.{Walk}
use Rattle.plane_cells.proofs.Beside.{AreRight, AreAmong, right_behind}
use Rattle.plane_cells.proofs.AtVertices.{slab_spans}
use Rattle.plane_cells.proofs.SlabWays.{IsShort, short_to, seen_in_slab}
use Rattle.plane_cells.proofs.ColumnChanges.{Respects, divides, changes_up, respected, top_kept}
use Rattle.plane_cells.proofs.StatusCounts.{both, par_below, counted_in_status}

-- segment i is above q and has f on one side only
abbrev pub counts : (ℕ → GridSegment) → (ℕ → Bool) → (ℕ → ℕ) → Place → ℕ → Bool
counts seg f right q i = divides f right i && is_right (side_at (seg i) q)

and_true : (a : Bool) → (a && true) ≡ a
and_true true = refl
and_true false = refl

all_count : (seg : ℕ → GridSegment) (f : ℕ → Bool) (right : ℕ → ℕ) (q : Place) (S : List ℕ) → Each (IsUnder seg q) S
    → par (counts seg f right q) S ≡ par (divides f right) S
all_count seg f right q [] h = refl
all_count seg f right q (i ∷ S) h =
    both (counts seg f right q i) (par (counts seg f right q) S) (divides f right i) (par (divides f right) S)
    (ap (λ (d : Side). divides f right i && is_right d) h.0 ∙ and_true (divides f right i)) (all_count seg f right q S h.1)

-- in the status of its slab
pub above_in_status : (seg : ℕ → GridSegment) (L : Links) (right : ℕ → ℕ) (f : ℕ → Bool) (q : Place) (d : ℕ) (S : List ℕ) → 0 < q.w
    → Respects L f → AreRight L right d S → Pairs (IsFurtherDown seg) S → Each (IsSeen seg q) S
    → par (counts seg f right q) S ≡ xor (f (label_at seg q d S)) (f (label_over d S))
above_in_status seg L right f q d [] real h r s e = changes_up L right f d [] h tt
above_in_status seg L right f q d (i ∷ S) real h r s e = go (seen seg q i e.0.off)
    (above_in_status seg L right f q (suc i) S real h r.1 s.1 e.1)
  where
    go : Seen seg q i → par (counts seg f right q) S ≡ xor (f (label_at seg q (suc i) S)) (f (label_over (suc i) S))
        → par (counts seg f right q) (i ∷ S) ≡ xor (f (label_at seg q d (i ∷ S))) (f (label_over d (i ∷ S)))
    go (Over o) rest = rw o
        (both (divides f right i && false) (par (counts seg f right q) S) false
        (xor (f (label_at seg q (suc i) S)) (f (label_over (suc i) S))) (and_none (divides f right i)) rest)
    go (Under u) rest =
        let under = rest_under seg q i S real e.0.spans u s.0 (each_map (IsSeen seg q) (λ j. Spans (seg j) q) S (λ j p. p.spans) e.1) in
        all_count seg f right q (i ∷ S) (u, under) ∙ changes_up L right f d (i ∷ S) h r
        ∙ ap (λ (x : ℕ). xor (f x) (f (label_over d (i ∷ S)))) (sym (label_of_under seg q d (i ∷ S) (u, under)))

-- ---- among all segments
abbrev pub counts_over : (ℕ → GridSegment) → (ℕ → Bool) → (ℕ → ℕ) → Place → ℕ → Bool
counts_over seg f right q i = divides f right i && is_over q (seg i)

short_of : (b e w : ℕ) (x : ℤ) → e ≤ b → x <ℤ pos (e * w) → x <ℤ pos (b * w)
short_of b e w x h k = let t = times_le e b 0 w h (omega arith) in omega (arith, ints, k)

past_of : (b c w : ℕ) (x : ℤ) → b ≤ c → pos (c * w) ≤ℤ x → pos (b * w) ≤ℤ x
past_of b c w x h k = let t = times_le b c 0 w h (omega arith) in omega (arith, ints, k)

over_in_slab : (n : ℕ) (seg : ℕ → GridSegment) (lo hi : Bound) (i : ℕ) (q : Place) → IsAcross n seg lo hi i → IsFrom lo q → IsShort hi q
    → is_over q (seg i) ≡ is_right (side_at (seg i) q)
over_in_slab n seg lo None i q a f s = absurd a.to
over_in_slab n seg lo (Wall e) i q a f s = over_within q (seg i) (slab_spans n seg lo (Wall e) i q a f (short_to (Wall e) q s)).from
    (short_of (seg i).b.x e q.w q.x a.to s)

not_over : (seg : ℕ → GridSegment) (lo hi : Bound) (status : List ℕ) (i : ℕ) (q : Place) → Lies seg lo hi status i → (In i status → ⊥)
    → IsFrom lo q → IsShort hi q → is_over q (seg i) ≡ false
not_over seg lo hi status i q (Across m) d f s = absurd (d m)
not_over seg lo None status i q (Ahead m) d f s = absurd m
not_over seg lo (Wall e) status i q (Ahead m) d f s = over_no_left q (seg i) (short_of (seg i).a.x e q.w q.x m s)
not_over seg None hi status i q (Past m) d f s = absurd m
not_over seg (Wall c) hi status i q (Past m) d f s = over_no_right q (seg i) (past_of (seg i).b.x c q.w q.x m f)

each_over : (n : ℕ) (seg : ℕ → GridSegment) (lo hi : Bound) (f : ℕ → Bool) (right : ℕ → ℕ) (q : Place) (S : List ℕ)
    → Each (IsAcross n seg lo hi) S → IsFrom lo q → IsShort hi q → par (counts_over seg f right q) S ≡ par (counts seg f right q) S
each_over n seg lo hi f right q [] a from short = refl
each_over n seg lo hi f right q (i ∷ S) a from short = both (counts_over seg f right q i) (par (counts_over seg f right q) S)
    (counts seg f right q i) (par (counts seg f right q) S)
    (ap (λ (b : Bool). divides f right i && b) (over_in_slab n seg lo hi i q a.0 from short))
    (each_over n seg lo hi f right q S a.1 from short)

pub distinct : (seg : ℕ → GridSegment) (S : List ℕ) → Pairs (IsFurtherDown seg) S → Pairs (λ i j. i ≡ j → ⊥) S
distinct seg [] s = tt
distinct seg (i ∷ S) s = (each_map (IsFurtherDown seg i) (λ j. i ≡ j → ⊥) S (λ j f. f.0) s.0, distinct seg S s.1)

-- of all segments that are over q an odd number divides exactly where f of the label of q isn't f of 0
pub column_theorem : (B : List GridSegment) (n : ℕ) (seg : ℕ → GridSegment) (lo hi : Bound) (status : List ℕ) (L : Links) (right : ℕ
    → ℕ) (f : ℕ → Bool) (q : Place) → Position B n seg → IsStatus n seg lo hi status → IsFree B q → IsFrom lo q → IsShort hi q
    → Respects L f → AreRight L right 0 status → AreLinked L 0 (label_over 0 status)
    → par_below (counts_over seg f right q) n ≡ xor (f (label_at seg q 0 status)) (f 0)
column_theorem B n seg lo hi status L right f q P s free from short h r top =
    sym (counted_in_status n status (counts_over seg f right q) (distinct seg status s.sorted)
    (each_map (IsAcross n seg lo hi) (λ i. i < n) status (λ i a. a.number) s.across)
    (λ i l d. ap (λ (b : Bool). divides f right i && b) (not_over seg lo hi status i q (s.others i l) d from short) ∙ and_none
    (divides f right i)))
    ∙ each_over n seg lo hi f right q status s.across from short
    ∙ above_in_status seg L right f q 0 status free.real h r s.sorted
    (seen_in_slab B n seg lo hi status q P s.across free from (short_to hi q short))
    ∙ ap (λ (b : Bool). xor (f (label_at seg q 0 status)) b) (sym (respected L f h 0 (label_over 0 status) top.0 top.1))

-- a free place has a label that tells the parity of the dividing segments over it
pub record HasParity (n : ℕ) (seg : ℕ → GridSegment) (f : ℕ → Bool) (right : ℕ → ℕ) (status : List ℕ) (steps : List Step)
    (q : Place) : Type 0 where
  pub label : ℕ
  pub has : HasLabel seg status steps q label
  pub bounded : label ≤ n
  pub parity : par_below (counts_over seg f right q) n ≡ xor (f label) (f 0)

label_bounded : (n : ℕ) (seg : ℕ → GridSegment) (lo hi : Bound) (status : List ℕ) (q : Place) → IsStatus n seg lo hi status
    → label_at seg q 0 status ≤ n
label_bounded n seg lo hi status q s = label_kept seg q (λ x. x ≤ n) 0 status (omega arith)
    (each_map (IsAcross n seg lo hi) (λ i. suc i ≤ n) status (λ i a. omega (arith, a.number)) s.across)

less_le : (x y : ℤ) → x <ℤ y → x ≤ℤ y
less_le x y h = omega (arith, ints, h)

pub parity_of_place : (B : List GridSegment) (n : ℕ) (seg : ℕ → GridSegment) (L : Links) (right : ℕ → ℕ) (f : ℕ → Bool) (q : Place)
    → Position B n seg → IsFree B q → Respects L f → (lo : Bound) (status : List ℕ) (steps : List Step) → Walk n seg lo status steps
    → AreAmong steps L → HaveRights right steps → IsFrom lo q → AreRight L right 0 status → AreLinked L 0 (label_over 0 status)
    → HasParity n seg f right status steps q
parity_of_place B n seg L right f q P free h lo status [] w a r from u top =
    record {
      label = label_at seg q 0 status;
      has = refl;
      bounded = label_bounded n seg lo None status q w;
      parity = column_theorem B n seg lo None status L right f q P w free from tt h u
          top;
    }
parity_of_place B n seg L right f q P free h lo status (k ∷ steps) w a r from u top = elim (order (pos (k.vertex.x * q.w)) q.x) [
  | inl b ↦
      let p = parity_of_place B n seg L right f q P free h (Wall k.vertex.x) (after k) steps w.4 a.1 r.1 b
      (right_behind L right k a.0 r.0 (subst (AreRight L right 0) w.0 u))
      (top_kept L k a.0 (subst (λ (l : List ℕ). AreLinked L 0 (label_over 0 l)) w.0 top)) in
      record { label = p.label; has = inr (b, p.has); bounded = p.bounded; parity = p.parity }
  | inr b ↦ record {
    label = label_at seg q 0 status;
    has = inl (less_le _ _ b, refl);
    bounded = label_bounded n seg lo (Wall k.vertex.x) status q w.3;
    parity = column_theorem B n seg lo (Wall k.vertex.x) status L right f q P w.3 free from b h u top;
  }
]
