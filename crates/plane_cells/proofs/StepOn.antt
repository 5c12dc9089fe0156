-- This file shows that what the code finds at a vertex is a step of the sweep.
use Rattle.std.proofs.Common.{◌≡◌, ◌⊎◌, ℕ, suc, ◌+◌, ◌*◌, ◌<◌, ◌≤◌, List, [], ◌∷◌, ◌++◌, length, slice_index, ℤ, pos, ◌<ℤ◌, ◌≤ℤ◌}
use Rattle.std.proofs.Common.{sym, ap, subst, ◌∙◌, arith, inl, inr}
use Rattle.std.proofs.lemmas.Int.{ints}
use Rattle.std.proofs.lemmas.List.Elements.{All-push}
use Rattle.grid_base.specs.Grid.{grid_side}
use Rattle.grid_base.specs.Point.{GridPoint}
use Rattle.grid_base.specs.Segment.{GridSegment}
use Rattle.grid_base.specs.Plane.{side_number_at}
use Rattle.plane_cells.specs.Order.{at_point, IsFurtherDown}
use Rattle.plane_cells.specs.Steps.{Step, Each, Pairs, link, label_over, HasRights, HaveRights}
use Rattle.linked_parts.specs.Parts.{Links}
use Rattle.plane_classes.specs.Shear.{sheared_point}
use Rattle.plane_cells.specs.Numbered.{numbered}
use Rattle.plane_cells.specs.Sheared.{sheared_number, AreOfRealm}
use Rattle.plane_cells.specs.Scan.{column_of, IsLeftOf, IsLeftward, IsFan}
use Rattle.plane_cells.specs.Walks.{Bound, None, Wall, IfWall, HasWall, IsAcross, IsStatus, WalkTo}
use Rattle.plane_cells.proofs.Walks.{IsNextVertex, IsTurn}
use Rattle.plane_cells.specs.Walks.{BeginBefore}
use Rattle.grid_base.proofs.Turns.{times_le}
use Rattle.plane_cells.specs.Swept.{IsSwept, AreAsked}
use Rattle.plane_cells.proofs.Asked.{label_stays}
use Rattle.plane_cells.proofs.Lists.{each_map, each_at, each_joined, each_left, each_right}
use Rattle.plane_cells.proofs.Statuses.{slab_status, pairs_right}
use Rattle.plane_cells.proofs.Next.{here_behind}
use Rattle.plane_cells.proofs.Chains.{one_more, links_more, rights_more}
use Rattle.plane_cells.proofs.ShearedRealm.{position, realm_below, numbered_in, one_point}
use Rattle.plane_cells.proofs.Turning.{left_height, height_left}
use Rattle.plane_cells.proofs.VertexParts.{all_above}

-- ---- labels that are kept
rights_kept : (f g : ℕ → ℕ) (next d : ℕ) (A : List ℕ) → ((i : ℕ) → i < next → g i ≡ f i) → Each (λ i. i < next) A → HasRights f d A
    → HasRights g d A
rights_kept f g next d [] e b h = tt
rights_kept f g next d (i ∷ A) e b h = (e i b.0 ∙ h.0, rights_kept f g next (suc i) A e b.1 h.1)

all_rights_kept : (f g : ℕ → ℕ) (next : ℕ) (steps : List Step) → ((i : ℕ) → i < next → g i ≡ f i) → BeginBefore next steps
    → HaveRights f steps → HaveRights g steps
all_rights_kept f g next [] e b h = tt
all_rights_kept f g next (k ∷ steps) e b h =
    (rights_kept f g next (label_over 0 k.below) k.begins e b.0 h.0, all_rights_kept f g next steps e b.1 h.1)

before_more : (next next' : ℕ) (steps : List Step) (k : Step) → next ≤ next' → BeginBefore next steps → Each (λ i. i < next') k.begins
    → BeginBefore next' (steps ++ k ∷ [])
before_more next next' [] k l b h = (h, tt)
before_more next next' (j ∷ steps) k l b h =
    (each_map (λ i. i < next) (λ i. i < next') j.begins (λ i a. omega (arith, a, l)) b.0, before_more next next' steps k l b.1 h)

-- ---- the step
-- what the code has found at a vertex
pub record IsFound (B : List GridSegment) (v : GridPoint) (next : ℕ) (A E C F : List ℕ) : Type 0 where
  pub below : Each (IsLeftOf B v) A
  pub others : Each (λ i. IsLeftOf B v i → ⊥) (E ++ C)
  pub ends : Each (λ i. (numbered B i).b ≡ v) E
  pub stop : 0 < length C → (numbered B (slice_index C 0)).b ≡ v → ⊥
  pub fan : IsFan B v next F

abbrev pub step_at : GridPoint → List ℕ → List ℕ → List ℕ → List ℕ → Step
step_at v A E C F = record { vertex = sheared_point grid_side v; below = A; ends = E; begins = F; above = C }

sheared_same : (p v : GridPoint) → p ≡ v → sheared_point grid_side p ≡ sheared_point grid_side v
sheared_same p v e = ap (λ (u : GridPoint). sheared_point grid_side u) e

not_end : (B : List GridSegment) (v : GridPoint) (i : ℕ) → AreOfRealm B → v.y < grid_side → i < length B → ((numbered B i).b ≡ v → ⊥)
    → (sheared_number B i).b ≡ sheared_point grid_side v → ⊥
not_end B v i r low h d e = d
    (one_point grid_side (numbered B i).b v (r.on_grid (numbered B i) (numbered_in B i h)).end_row low (ap (λ (p : GridPoint). p.x) e))

begin_of : (B : List GridSegment) (v : GridPoint) (i : ℕ) → AreOfRealm B → v.y < grid_side → i < length B
    → (sheared_number B i).a ≡ sheared_point grid_side v → (numbered B i).a ≡ v
begin_of B v i r low h e = one_point grid_side (numbered B i).a v (r.on_grid (numbered B i) (numbered_in B i h)).row low
    (ap (λ (p : GridPoint). p.x) e)

pub pairs_map : (R Q : ℕ → ℕ → Type 0) (l : List ℕ) → ((i j : ℕ) → R i j → Q i j) → Pairs R l → Pairs Q l
pairs_map R Q [] f s = tt
pairs_map R Q (i ∷ l) f s = (each_map (R i) (Q i) l (λ j h. f i j h) s.0, pairs_map R Q l f s.1)

pub turn_at : (B : List GridSegment) (lo : Bound) (status : List ℕ) (v : GridPoint) (next : ℕ) (A E C F : List ℕ) → AreOfRealm B
    → v.y < grid_side → IsNextVertex (length B) (sheared_number B) lo (sheared_point grid_side v)
    → IsStatus (length B) (sheared_number B) lo (Wall (column_of v)) status → status ≡ A ++ (E ++ C) → IsFound B v next A E C F
    → IsTurn (length B) (sheared_number B) (step_at v A E C F)
turn_at B lo status v next A E C F r low nv st e found =
    let P = position grid_side B (realm_below B r) in
    let u = sheared_point grid_side v in
    let across = subst (Each (IsAcross (length B) (sheared_number B) lo (Wall u.x))) e st.across in
    let across_c = each_right (IsAcross (length B) (sheared_number B) lo (Wall u.x)) E C
    (each_right (IsAcross (length B) (sheared_number B) lo (Wall u.x)) A (E ++ C) across) in
    let sorted_c = pairs_right (IsFurtherDown (sheared_number B)) E C
    (pairs_right (IsFurtherDown (sheared_number B)) A (E ++ C) (subst (Pairs (IsFurtherDown (sheared_number B))) e st.sorted)) in
    let others_c = each_right (λ i. IsLeftOf B v i → ⊥) E C found.others in
    let numbers = each_map (λ i. (next ≤ i) × (i < next + length F)) (λ i. i < length B) F
    (λ i n. omega (arith, n.1, found.fan.fan.within)) found.fan.fan.numbers in
    record {
      step = record {
        vertex = nv.vertex;
        below = each_map (IsLeftOf B v) (λ i. pos 0 <ℤ side_number_at (sheared_number B i) (at_point u)) A
            (λ i h. left_height B v i h) found.below;
        ends = each_map (λ i. (numbered B i).b ≡ v) (λ i. (sheared_number B i).b ≡ u) E
            (λ i h. sheared_same (numbered B i).b v h) found.ends;
        begins = each_map (λ i. (numbered B i).a ≡ v) (λ i. (sheared_number B i).a ≡ u) F
            (λ i h. sheared_same (numbered B i).a v h) found.fan.fan.begins;
        above = all_above _ (length B) (sheared_number B) lo u C P nv.vertex nv.later across_c sorted_c
            (each_map (λ i. IsLeftOf B v i → ⊥) (λ i. pos 0 <ℤ side_number_at (sheared_number B i) (at_point u) → ⊥) C
            (λ i f h. f (height_left B v i h)) others_c)
            (λ l. not_end B v (slice_index C 0) r low (first_number C across_c l) (found.stop l));
      };
      numbers = numbers;
      all = λ i h f. found.fan.all i h (begin_of B v i r low h f);
      fan = pairs_map (IsLeftward B) (λ i j. pos 0 <ℤ side_number_at (sheared_number B i) (at_point (sheared_number B j).b)) F
          (λ i j h. left_height B (numbered B j).b i h) found.fan.fan.leftward;
    }
  where
    first_number : (C : List ℕ) → Each (IsAcross (length B) (sheared_number B) lo (Wall (column_of v))) C → 0 < length C
        → slice_index C 0 < length B
    first_number [] a l = absurd (omega (arith, l))
    first_number (i ∷ C) a l = a.0.number

pub label_up_to : (n d : ℕ) (A : List ℕ) → d ≤ n → Each (λ i. i < n) A → label_over d A ≤ n
label_up_to n d [] h a = h
label_up_to n d (i ∷ A) h a = label_up_to n (suc i) A (omega (arith, a.0)) a.1

below_next : (m n : ℕ) → m ≤ n → m < n + 1
below_next m n h = omega (arith, h)

-- what was asked stays known
before_place : (c v w : ℕ) (x : ℤ) → x ≤ℤ pos ((c + 1) * w) → c < v → x ≤ℤ pos (v * w)
before_place c v w x h l = let t = times_le (c + 1) v 0 w (omega (arith, l)) (omega arith) in omega (arith, ints, h)

asked_on : (B : List GridSegment) (steps : List Step) (lo : Bound) (status : List ℕ) (k : Step) (T : List GridSegment) (Y : List ℕ)
    → WalkTo (length B) (sheared_number B) None [] steps lo status → ((j : ℕ) → j < length Y → column_of (numbered T j).a < k.vertex.x)
    → ((j : ℕ) → length Y ≤ j → j < length T → k.vertex.x ≤ column_of (numbered T j).a) → AreAsked B steps lo T Y
    → AreAsked B (steps ++ k ∷ []) (Wall k.vertex.x) T Y
asked_on B steps lo status k T Y w h late a = record {
  count = a.count;
  asked = λ j l. let q = a.asked j l in record {
    other = q.other;
    place = q.place;
    inside = q.inside;
    column = q.column;
    has = label_stays (length B) (sheared_number B) None [] steps lo status k q.place (slice_index Y j) w
        (before_place (column_of (numbered T j).a) k.vertex.x q.place.w q.place.x q.column (h j l)) q.has;
  };
  later = late;
  bounded = a.bounded;
}

-- the sweep has come behind the vertex
pub step_on : (B : List GridSegment) (lo : Bound) (status : List ℕ) (v : GridPoint) (next : ℕ) (L : Links) (right right' : List ℕ) (A E C
    F : List ℕ) (T : List GridSegment) (Y : List ℕ) → AreOfRealm B → v.y < grid_side → IsNextVertex (length B) (sheared_number B) lo
    (sheared_point grid_side v)
    → IsSwept B lo status next L right T Y → ((k : ℕ) → k < length Y → column_of (numbered T k).a < column_of v)
    → ((k : ℕ) → length Y ≤ k → k < length T → column_of v ≤ column_of (numbered T k).a) → status ≡ A ++ (E ++ C) → IsFound B v next A E C F
    → HasRights (λ i. slice_index right' i) (label_over 0 A) F → ((i : ℕ) → i < next → slice_index right' i ≡ slice_index right i)
    → length right' ≡ length right → ((i : ℕ) → slice_index right' i ≤ length B)
    → IsSwept B (Wall (column_of v)) (A ++ (F ++ C)) (next + length F) (L ++ ((label_over 0 (A ++ E), label_over 0 (A ++ F)) ∷ [])) right' T
    Y
step_on B lo status v next L right right' A E C F T Y r low nv s early_asked late e found rights kept size bounded =
    let k = step_at v A E C F in
    let P = position grid_side B (realm_below B r) in
    let st = slab_status (length B) (sheared_number B) lo k.vertex status s.here nv in
    let t = turn_at B lo status v next A E C F r low nv st e found in
    let numbers = subst (Each (λ i. i < length B)) e s.here.number in
    let numbers_below = each_left (λ i. i < length B) A (E ++ C) numbers in
    let numbers_ends = each_joined (λ i. i < length B) A E numbers_below
    (each_left (λ i. i < length B) E C (each_right (λ i. i < length B) A (E ++ C) numbers)) in
    record {
      steps = s.steps ++ k ∷ [];
      chain = one_more (length B) (sheared_number B) None [] s.steps lo status k s.chain e t.step nv.later st;
      links = ap (λ (l : Links). l ++ (link k ∷ [])) s.links ∙ sym (links_more s.steps k);
      rights = rights_more (λ i. slice_index right' i) s.steps k
          (all_rights_kept (λ i. slice_index right i) (λ i. slice_index right' i) next s.steps kept s.earlier s.rights) rights;
      earlier = before_more next (next + length F) s.steps k (omega arith) s.earlier
          (each_map (λ i. (next ≤ i) × (i < next + length F)) (λ i. i < next + length F) F (λ i n. n.1) found.fan.fan.numbers);
      here = here_behind _ (length B) (sheared_number B) lo k status P s.here nv e t;
      within = found.fan.fan.within;
      begun = λ i h. elim (parts i h) [
        | inl a ↦ early i lo (s.begun i a) nv.later
        | inr a ↦ same_column i (each_at (λ j. (numbered B j).a ≡ v) F i found.fan.fan.begins (found.fan.fan.all i a h))
      ];
      unbegun = λ i h l. found.fan.behind i h l;
      places = size ∙ s.places;
      labels = All-push (λ l. (l.0 < length B + 1) × (l.1 < length B + 1)) L (link k) s.labels (
        below_next _ _ (label_up_to (length B) 0 (A ++ E) (omega arith) numbers_ends),
        below_next _ _
            (label_up_to (length B) 0 (A ++ F) (omega arith) (each_joined (λ i. i < length B) A F numbers_below t.numbers)),
      );
      bounded = bounded;
      asked = asked_on B s.steps lo status k T Y s.chain early_asked late s.asked;
    }
  where
    parts : (i : ℕ) → i < next + length F → (i < next) ⊎ (next ≤ i)
    parts i h = grind arith

    early : (i : ℕ) (lo : Bound) → HasWall (λ c. column_of (numbered B i).a ≤ c) lo → IfWall (λ c. c < column_of v) lo
        → column_of (numbered B i).a ≤ column_of v
    early i None a b = absurd a
    early i (Wall c) a b = let d : c < column_of v = b in omega (arith, a, d)

    same_column : (i : ℕ) → (numbered B i).a ≡ v → column_of (numbered B i).a ≤ column_of v
    same_column i e = let f = ap column_of e in omega (arith, f)
