-- This file shows that the segments whose odd side has one number are the rim of a face.
use Rattle.std.proofs.Common.{◌≡◌, ◌⊎◌, ◌↔◌, ℕ, zero, suc, ◌+◌, ◌<◌, ◌==◌, Bool, true, false, not, ◌&&◌, ◌||◌, if◌then◌else◌}
use Rattle.std.proofs.Common.{List, [], ◌∷◌, ◌++◌}
use Rattle.std.proofs.Common.{length, slice_index, get_or, Contains, All, AllPairs, IsTrue, refl, sym, ap, subst, ◌∙◌, arith, inl, inr}
use Rattle.std.specs.List.{AllZip}
use Rattle.grid_base.specs.Segment.{GridSegment, IsSegmentBefore}
use Rattle.grid_base.specs.Sides.{Side, Left, On, Right}
use Rattle.grid_base.specs.Plane.{Place, IsBeside, blend}
use Rattle.grid_base.specs.Odd.{Odd, AreSides}
use Rattle.grid_base.specs.Border.{AreNoded, IsEvenBorder}
use Rattle.grid_base.specs.declared.kinds.Sides.{Sides}
use Rattle.grid_base.proofs.Elements.{same_place}
use Rattle.grid_base.proofs.Signs.{left_off, right_off}
use Rattle.rose_values.specs.Areas.{IsInteriorPoint}
use Rattle.plane_classes.specs.Classes.{AreInOneClass}
use Rattle.plane_classes.proofs.ClassLemmas.{one_class_back, one_class_joined, itself_in_class}
use Rattle.plane_classes.proofs.Counts.{one_parity}
use Rattle.plane_classes.proofs.FewerSegments.{IsPart, free_of_part, class_of_part}
use Rattle.plane_classes.proofs.Outer.{outer_is_even}
use Rattle.plane_classes.proofs.RealmPlaces.{alone_in_realm}
use Rattle.plane_classes.proofs.SideLaws.{one_is_odd, once_in}
use Rattle.plane_classes.proofs.Ways.{AreInOrder}
use Rattle.plane_cells.specs.Numbered.{nowhere, numbered}
use Rattle.segment_lists.specs.OnGrid.{IsOnGrid}
use Rattle.plane_cells.specs.Sheared.{AreOfRealm}
use Rattle.plane_cells.specs.ClassNumbers.{number_at, LiesBeside, AreClassNumbers}
use Rattle.plane_cells.specs.declared.classes.SideClasses.{SideClasses}
use Rattle.plane_cells.proofs.OfRealm.{of_realm}
use Rattle.plane_cells.proofs.ShearedRealm.{numbered_in, number_of}
use Rattle.plane_cells.proofs.ShearedSides.{free_beside}
use Rattle.r_blocks.specs.Places.{those}
use Rattle.r_blocks.proofs.AtPlaces.{those_stand, those_have, those_ascend, those_noded}
use Rattle.class_borders.specs.ClassLinks.{class_rim, is_left_alone, is_right_alone}
use Rattle.class_borders.proofs.LinkCounts.{numbers_at}
use Rattle.class_borders.proofs.EvenRims.{is_alone, rim_is_even}
use Rattle.class_borders.proofs.RimPlaces.{rim_odd}
use Rattle.r_faces.specs.FaceCycles.{IsRim}
use Rattle.r_faces.specs.Rims.{IsInside, IsFaceRim, IsSomeRim, HasOddNumber, AreOddSides}

-- ---- what is known of the border
pub record IsKnown (B : List GridSegment) (N : List SideClasses) : Type 0 where
  pub realm : AreOfRealm B
  pub noded : AreNoded B
  pub ascending : AllPairs IsSegmentBefore B
  pub even : IsEvenBorder B
  pub numbers : AreClassNumbers B N

pub known : (B : List GridSegment) (N : List SideClasses) → AreNoded B → AllPairs IsSegmentBefore B → IsEvenBorder B → All IsOnGrid B
    → AreClassNumbers B N → IsKnown B N
known B N noded ascending even grid numbers = record {
  realm = of_realm B B noded (λ s there. there) ascending grid;
  noded = noded;
  ascending = ascending;
  even = even;
  numbers = numbers;
}

pub in_order : (B : List GridSegment) → AreOfRealm B → AreInOrder B
in_order B realm s there = (realm.on_grid s there).order

false_is_not : IsTrue false → ⊥
false_is_not e = cc

-- of the two sides one is odd
pub differ : (B : List GridSegment) (N : List SideClasses) (i : ℕ) (p q : Place) → IsKnown B N → i < length B
    → IsBeside B (numbered B i) Left p → IsBeside B (numbered B i) Right q → Odd B p ↔ (Odd B q → ⊥)
differ B N i p q k hi left right =
    let there = numbered_in B i hi in
    one_is_odd B (numbered B i) p q (in_order B k.realm) k.even (in_order B k.realm (numbered B i) there)
    (alone_in_realm B B (numbered B i) k.noded (λ t m. m) there) (once_in (numbered B i) B k.ascending there) left right

pub odd_number : (B : List GridSegment) (N : List SideClasses) (i : ℕ) (a : Sides) → IsKnown B N → i < length B
    → AreSides B (numbered B i) a → HasOddNumber B N i (if a.left then number_at N i Left else number_at N i Right)
odd_number B N i a k hi s = by a.left a.right refl refl
  where
    p : (u : Place) × IsBeside B (numbered B i) Left u
    p = s.left.one

    q : (u : Place) × IsBeside B (numbered B i) Right u
    q = s.right.one

    by : (l r : Bool) → a.left ≡ l → a.right ≡ r → HasOddNumber B N i (if a.left then number_at N i Left else number_at N i Right)
    by true r e f =
        let odd : Odd B p.0 = (s.left.all p.0 p.1).0 e in record {
          side = Left;
          place = p.0;
          lies = record { within = hi; sided = left_off; beside = p.1 };
          odd = odd;
          is = ap (λ (b : Bool). if b then number_at N i Left else number_at N i Right) e;
          only = λ d u lies is_odd. only_left d u lies is_odd odd;
        }
      where
        only_left : (d : Side) (u : Place) → LiesBeside B i d u → Odd B u → Odd B p.0 → d ≡ Left
        only_left Left u lies is_odd odd = refl
        only_left On u lies is_odd odd = absurd (lies.sided refl)
        only_left Right u lies is_odd odd = absurd ((differ B N i p.0 u k hi p.1 lies.beside).0 odd is_odd)
    by false r e f = by_right r f
      where
        even : (u : Place) → IsBeside B (numbered B i) Left u → Odd B u → ⊥
        even u beside odd = false_is_not (subst (λ (b : Bool). IsTrue b) e ((s.left.all u beside).1 odd))

        only_right : (d : Side) (u : Place) → LiesBeside B i d u → Odd B u → d ≡ Right
        only_right Left u lies is_odd = absurd (even u lies.beside is_odd)
        only_right On u lies is_odd = absurd (lies.sided refl)
        only_right Right u lies is_odd = refl

        by_right : (r : Bool) → a.right ≡ r → HasOddNumber B N i (if a.left then number_at N i Left else number_at N i Right)
        by_right true f = record {
          side = Right;
          place = q.0;
          lies = record { within = hi; sided = right_off; beside = q.1 };
          odd = (s.right.all q.0 q.1).0 f;
          is = ap (λ (b : Bool). if b then number_at N i Left else number_at N i Right) e;
          only = only_right;
        }
        by_right false f = absurd (even p.0 p.1 ((differ B N i p.0 q.0 k hi p.1 q.1).1
            (λ odd. false_is_not (subst (λ (b : Bool). IsTrue b) f ((s.right.all q.0 q.1).1 odd)))))

-- ---- a place of a face, and the number of its class
pub record IsOfNumber (B : List GridSegment) (N : List SideClasses) (n : ℕ) (z : Place) : Type 0 where
  pub inner : IsInteriorPoint B z
  pub at : ℕ
  pub side : Side
  pub place : Place
  pub lies : LiesBeside B at side place
  pub one : AreInOneClass B z place
  pub number : n ≡ number_at N at side

parity : (B : List GridSegment) (N : List SideClasses) (p q : Place) → IsKnown B N → AreInOneClass B p q → Odd B p ↔ Odd B q
parity B N p q k one = one_parity B (λ j d within. in_order B k.realm _ (j, within, same_place B j _ d within)) k.even p q one

-- places of one class have one number, and places with one number are in one class
class_to_number : (B : List GridSegment) (N : List SideClasses) (n : ℕ) (z q : Place) (i : ℕ) (d : Side) → IsKnown B N
    → IsOfNumber B N n z → LiesBeside B i d q → AreInOneClass B z q → number_at N i d ≡ n
class_to_number B N n z q i d k h lies one =
    (k.numbers.one_class i h.at d h.side q h.place lies h.lies).1
    (one_class_joined B q z h.place (one_class_back B z q one) h.one) ∙ sym h.number

number_to_class : (B : List GridSegment) (N : List SideClasses) (n : ℕ) (z q : Place) (i : ℕ) (d : Side) → IsKnown B N
    → IsOfNumber B N n z → LiesBeside B i d q → number_at N i d ≡ n → AreInOneClass B z q
number_to_class B N n z q i d k h lies e =
    one_class_joined B z h.place q h.one
    ((k.numbers.one_class h.at i h.side d h.place q h.lies lies).0 (sym h.number ∙ sym e))

odd_in_class : (B : List GridSegment) (N : List SideClasses) (z q : Place) → IsKnown B N → IsInteriorPoint B z → AreInOneClass B z q
    → Odd B q
odd_in_class B N z q k inner one = (parity B N z q k one).0 inner.1

-- the number of a face isn't that of the outer class
pub not_outer : (B : List GridSegment) (N : List SideClasses) (n : ℕ) (z : Place) → IsKnown B N → IsOfNumber B N n z → n ≡ 0 → ⊥
not_outer B N n z k h e =
    outer_is_even B (in_order B k.realm) k.even h.place ((k.numbers.outer h.at h.side h.place h.lies).0 (sym h.number ∙ e))
    (odd_in_class B N z h.place k h.inner h.one)

-- each interior place has a number
pub number_of_place : (B : List GridSegment) (N : List SideClasses) (z : Place) → IsKnown B N → IsInteriorPoint B z
    → (n : ℕ) × IsOfNumber B N n z
number_of_place B N z k inner = elim (k.numbers.each_class z inner.0) [
  | inl outer ↦ absurd (outer_is_even B (in_order B k.realm) k.even z outer inner.1)
  | inr by_some ↦
      let (i, d, p, lies, one) = by_some in
      (number_at N i d, record { inner = inner; at = i; side = d; place = p; lies = lies; one = one; number = refl })
]

-- ---- the segments with the number on the odd side
-- an odd number isn't on the even side
even_side : (B : List GridSegment) (N : List SideClasses) (n : ℕ) (z : Place) (i m : ℕ) (d : Side) → IsKnown B N → IsOfNumber B N n z
    → i < length B → HasOddNumber B N i m → (d ≡ On → ⊥) → (d ≡ On → ⊥) → number_at N i d ≡ n → (h : HasOddNumber B N i m) → d ≡ h.side
even_side B N n z i m d k of_z hi a off off' e h =
    let q = k.numbers.some i d hi off in
    h.only d q.0 q.1 (odd_in_class B N z q.0 k of_z.inner (number_to_class B N n z q.0 i d k of_z q.1 e))

pub test_no : (m n : ℕ) → (m ≡ n → ⊥) → (m == n) ≡ false
test_no m n other = grind arith

alone_left : (l r : Bool) → r ≡ false → ((l && not r) || (r && not l)) ≡ l
alone_left true true e = cc
alone_left true false e = refl
alone_left false true e = cc
alone_left false false e = refl

alone_right : (l r : Bool) → l ≡ false → ((l && not r) || (r && not l)) ≡ r
alone_right true r e = cc
alone_right false true e = refl
alone_right false false e = refl

turned_test : (m n : ℕ) → (n == m) ≡ (m == n)
turned_test m n = grind arith

-- a number that isn't on the right of segment i is m, the one on its left, exactly where it is on one side alone
pub alone_on_left : (N : List SideClasses) (i n m : ℕ) → m ≡ number_at N i Left → (number_at N i Right ≡ n → ⊥)
    → (n == m) ≡ is_alone n (numbers_at N i)
alone_on_left N i n m is other =
    ap (λ (x : ℕ). n == x) is ∙ turned_test (number_at N i Left) n
    ∙ sym (alone_left (number_at N i Left == n) (number_at N i Right == n) (test_no (number_at N i Right) n other))

pub alone_on_right : (N : List SideClasses) (i n m : ℕ) → m ≡ number_at N i Right → (number_at N i Left ≡ n → ⊥)
    → (n == m) ≡ is_alone n (numbers_at N i)
alone_on_right N i n m is other =
    ap (λ (x : ℕ). n == x) is ∙ turned_test (number_at N i Right) n
    ∙ sym (alone_right (number_at N i Left == n) (number_at N i Right == n) (test_no (number_at N i Left) n other))

right_is_not_left : Right ≡ Left → ⊥
right_is_not_left e = cc

left_is_not_right : Left ≡ Right → ⊥
left_is_not_right e = cc

test_alike : (B : List GridSegment) (N : List SideClasses) (n : ℕ) (z : Place) (i m : ℕ) → IsKnown B N → IsOfNumber B N n z → i < length B
    → HasOddNumber B N i m → (n == m) ≡ is_alone n (numbers_at N i)
test_alike B N n z i m k of_z hi a = by a.side refl
  where
    by : (d : Side) → a.side ≡ d → (n == m) ≡ is_alone n (numbers_at N i)
    by Left e = alone_on_left N i n m (a.is ∙ ap (number_at N i) e)
        (λ same. right_is_not_left (even_side B N n z i m Right k of_z hi a right_off right_off same a ∙ e))
    by On e = absurd (a.lies.sided e)
    by Right e = alone_on_right N i n m (a.is ∙ ap (number_at N i) e)
        (λ same. left_is_not_right (even_side B N n z i m Left k of_z hi a left_off left_off same a ∙ e))

pub those_alone : (n : ℕ) (K : List ℕ) (B : List GridSegment) (N : List SideClasses) → length K ≡ length B → length N ≡ length B
    → ((i : ℕ) → i < length B → (n == slice_index K i) ≡ is_alone n (numbers_at N i)) → those n K B ≡ class_rim n B N
those_alone n [] [] N e f h = refl
those_alone n (m ∷ K) [] N e f h = refl
those_alone n [] (s ∷ B) N e f h = absurd (omega (arith, e))
those_alone n (m ∷ K) (s ∷ B) [] e f h = absurd (omega (arith, f))
those_alone n (m ∷ K) (s ∷ B) (k ∷ N) e f h =
    let rest = those_alone n K B N (omega (arith, e)) (omega (arith, f)) (λ i l. h (suc i) (omega (arith, l))) in
    ap (λ (b : Bool). if b then s ∷ those n K B else those n K B) (h 0 (omega arith))
    ∙ ap (λ (l : List GridSegment). if is_alone n k then s ∷ l else l) rest
    ∙ spread (is_left_alone n k) (is_right_alone n k) (s ∷ class_rim n B N) (class_rim n B N)
  where
    spread : {X : Type 0} (l r : Bool) (x y : X) → (if l || r then x else y) ≡ (if l then x else if r then x else y)
    spread true r x y = refl
    spread false r x y = refl

rim_is : (B : List GridSegment) (N : List SideClasses) (K : List ℕ) (n : ℕ) (z : Place) → IsKnown B N → AreOddSides B N (length B) K
    → IsOfNumber B N n z → those n K B ≡ class_rim n B N
rim_is B N K n z k odd of_z = those_alone n K B N odd.one_each k.numbers.one_each
    (λ i hi. test_alike B N n z i (slice_index K i) k of_z hi (odd.each i hi))

-- ---- the rim of a face
numbered_is : (B : List GridSegment) (s : GridSegment) (i : ℕ) → i < length B → get_or B i s ≡ s → numbered B i ≡ s
numbered_is B s i hi e = same_place B i nowhere s hi ∙ e

is_rim : (B : List GridSegment) (N : List SideClasses) (K : List ℕ) (n : ℕ) (z : Place) → IsKnown B N → AreOddSides B N (length B) K
    → IsOfNumber B N n z → IsRim B z (those n K B)
is_rim B N K n z k odd of_z = record {
  of_these = λ s there.
      let at = those_stand n K B s there in
      let a = odd.each at.at at.within in
      let is = numbered_is B s at.at at.within at.is in (
        (at.at, at.within, at.is),
        (
          a.side,
          a.lies.sided,
          (
            a.place,
            subst (λ (t : GridSegment). IsBeside B t a.side a.place) is a.lies.beside,
            number_to_class B N n z a.place at.at a.side k of_z a.lies (sym a.is ∙ at.place),
          ),
        ),
      );
  all = λ s d in_B off has.
      let i = number_of B s in_B in
      let lies : LiesBeside B i.0 d has.0 = record {
        within = i.1;
        sided = off;
        beside = subst (λ (t : GridSegment). IsBeside B t d has.0) (sym i.2) has.1;
      } in
      let a = odd.each i.0 i.1 in
      let same = a.only d has.0 lies (odd_in_class B N z has.0 k of_z.inner has.2) in
      let number : slice_index K i.0 ≡ n = a.is ∙ ap (number_at N i.0) (sym same) ∙ class_to_number B N n z has.0 i.0 d k of_z lies has.2 in
      subst (Contains (those n K B)) i.2 (those_have n K B i.0 nowhere odd.one_each i.1 number);
}

beside_part : (C B : List GridSegment) (s : GridSegment) (d : Side) (q : Place) → IsPart C B → IsBeside B s d q → IsBeside C s d q
beside_part C B s d q h b = record {
  side = b.side;
  goal = b.goal;
  inside = b.inside;
  clear = λ i j k. free_of_part C B (blend i j q b.goal) h (b.clear i j k);
}

those_part : (n : ℕ) (K : List ℕ) (B : List GridSegment) → IsPart (those n K B) B
those_part n K B s there = let at = those_stand n K B s there in (at.at, at.within, at.is)

is_inside : (B : List GridSegment) (N : List SideClasses) (K : List ℕ) (n : ℕ) (z : Place) → IsKnown B N → AreOddSides B N (length B) K
    → IsOfNumber B N n z → IsEvenBorder (those n K B) → IsInside (those n K B) z
is_inside B N K n z k odd of_z even =
    let part = those_part n K B in
    let rim = is_rim B N K n z k odd of_z in
    let same = rim_is B N K n z k odd of_z in
    let place_odd = subst (λ (l : List GridSegment). Odd l of_z.place) (sym same)
    ((rim_odd B N n of_z.at of_z.side of_z.place k.realm k.numbers (not_outer B N n z k of_z) of_z.lies).0 (sym of_z.number)) in
    let one = class_of_part (those n K B) B z of_z.place part of_z.one in
    record {
      free = free_of_part (those n K B) B z part of_z.inner.0;
      odd = (one_parity (those n K B) (λ j d within. in_order B k.realm _ (part _ (j, within, same_place (those n K B) j _ d within))) even
          z of_z.place one).1 place_odd;
      beside = λ s there.
          let r = rim.of_these s there in
          let has = r.1.2 in
          (r.1.0, r.1.1, (has.0, beside_part (those n K B) B s r.1.0 has.0 part has.1, class_of_part (those n K B) B z has.0 part has.2));
    }

pub is_face_rim : (B : List GridSegment) (N : List SideClasses) (K : List ℕ) (n : ℕ) (z : Place) → IsKnown B N
    → AreOddSides B N (length B) K
    → IsOfNumber B N n z → IsFaceRim B (those n K B) z
is_face_rim B N K n z k odd of_z =
    let even = subst IsEvenBorder (sym (rim_is B N K n z k odd of_z)) (rim_is_even B N n k.realm k.numbers) in
    record { interior = of_z.inner; is_rim = is_rim B N K n z k odd of_z; inside = is_inside B N K n z k odd of_z even }

-- ---- each number that comes
place_of_number : (B : List GridSegment) (N : List SideClasses) (K : List ℕ) (n i : ℕ) → IsKnown B N
    → AreOddSides B N (length B) K → i < length B
    → slice_index K i ≡ n → (z : Place) × IsOfNumber B N n z
place_of_number B N K n i k odd hi e =
    let a = odd.each i hi in (
      a.place,
      record {
        inner = (free_beside B (numbered B i) a.side a.place a.lies.beside, a.odd);
        at = i;
        side = a.side;
        place = a.place;
        lies = a.lies;
        one = itself_in_class B a.place (free_beside B (numbered B i) a.side a.place a.lies.beside);
        number = sym e ∙ a.is;
      },
    )

pub some_rim : (B : List GridSegment) (N : List SideClasses) (K : List ℕ) (n : ℕ) → IsKnown B N
    → AreOddSides B N (length B) K → Contains K n
    → IsSomeRim B (those n K B)
some_rim B N K n k odd there =
    let hi : there.0 < length B = omega (arith, there.1, odd.one_each) in
    let e = same_place K there.0 0 n there.1 ∙ there.2 in
    let z = place_of_number B N K n there.0 k odd hi e in
    let has = those_have n K B there.0 nowhere odd.one_each hi e in record {
      some = omega (arith, has.1);
      noded = those_noded n K B k.noded;
      ascending = those_ascend n K B k.ascending;
      even = subst IsEvenBorder (sym (rim_is B N K n z.0 k odd z.1)) (rim_is_even B N n k.realm k.numbers);
      place = z.0;
      of_face = is_face_rim B N K n z.0 k odd z.1;
    }

-- the rim of an interior place
pub rim_of_place : (B : List GridSegment) (N : List SideClasses) (K : List ℕ) (z : Place) → IsKnown B N → AreOddSides B N (length B) K
    → IsInteriorPoint B z → (n : ℕ) × Contains K n × IsFaceRim B (those n K B) z
rim_of_place B N K z k odd inner =
    let n = number_of_place B N z k inner in
    let h = n.1 in
    let a = odd.each h.at h.lies.within in
    let same = a.only h.side h.place h.lies (odd_in_class B N z h.place k inner h.one) in
    let is : slice_index K h.at ≡ n.0 = a.is ∙ ap (number_at N h.at) (sym same) ∙ sym h.number in
    let in_K : h.at < length K = omega (arith, h.lies.within, odd.one_each) in
    (n.0, (h.at, in_K, same_place K h.at n.0 0 in_K ∙ is), is_face_rim B N K n.0 z k odd h)

-- the segments of two numbers are apart
pub rims_apart : (B : List GridSegment) (K : List ℕ) (m n : ℕ) (s : GridSegment) → AreOfRealm B → Contains (those m K B) s
    → Contains (those n K B) s → m ≡ n
rims_apart B K m n s realm there again =
    let a = those_stand m K B s there in
    let b = those_stand n K B s again in
    let same = realm.once a.at b.at a.within b.within (numbered_is B s a.at a.within a.is ∙ sym (numbered_is B s b.at b.within b.is)) in
    sym a.place ∙ ap (slice_index K) same ∙ b.place

-- ---- one number more
pub at_zip : {X Y : Type 0} (R : X → Y → Type 0) (xs : List X) (ys : List Y) (i : ℕ) (d : X) (e : Y) → AllZip R xs ys → i < length xs
    → R (get_or xs i d) (get_or ys i e)
at_zip R [] [] i d e h l = absurd (omega (arith, l))
at_zip R [] (y ∷ ys) i d e h l = absurd h
at_zip R (x ∷ xs) [] i d e h l = absurd h
at_zip R (x ∷ xs) (y ∷ ys) zero d e h l = h.0
at_zip R (x ∷ xs) (y ∷ ys) (suc i) d e h l = at_zip R xs ys i d e h.1 (omega (arith, l))

pub long_zip : {X Y : Type 0} (R : X → Y → Type 0) (xs : List X) (ys : List Y) → AllZip R xs ys → length ys ≡ length xs
long_zip R [] [] h = refl
long_zip R [] (y ∷ ys) h = absurd h
long_zip R (x ∷ xs) [] h = absurd h
long_zip R (x ∷ xs) (y ∷ ys) h = let e = long_zip R xs ys h.1 in omega (arith, e)

pub number_here : (B : List GridSegment) (N : List SideClasses) (O : List Sides) (i n : ℕ) (a : Sides) (m : SideClasses) → IsKnown B N
    → AllZip (AreSides B) B O → i < length B → a ≡ get_or O i a → m ≡ get_or N i m → n ≡ (if a.left then m.left else m.right)
    → HasOddNumber B N i n
number_here B N O i n a m k zip hi at_a at_m is =
    let sides = subst (AreSides B (numbered B i)) (sym at_a) (at_zip (AreSides B) B O i nowhere a zip hi) in
    let h = odd_number B N i a k hi sides in
    let numbers = at_m ∙ same_place N i m (record { left = 0; right = 0 }) (omega (arith, hi, k.numbers.one_each)) in
    subst (HasOddNumber B N i) (sym (is ∙ ap (λ (x : SideClasses). if a.left then x.left else x.right) numbers)) h

last_or : (j i : ℕ) → j < i + 1 → (j ≡ i) ⊎ (j < i)
last_or j i h = grind arith

get_last : (l : List ℕ) (n : ℕ) → slice_index (l ++ n ∷ []) (length l) ≡ n
get_last [] n = refl
get_last (m ∷ l) n = get_last l n

get_first : (l : List ℕ) (n j : ℕ) → j < length l → slice_index (l ++ n ∷ []) j ≡ slice_index l j
get_first [] n j h = absurd (omega (arith, h))
get_first (m ∷ l) n zero h = refl
get_first (m ∷ l) n (suc j) h = get_first l n j (omega (arith, h))

pub one_more : (B : List GridSegment) (N : List SideClasses) (i n : ℕ) (l more : List ℕ) → more ≡ l ++ n ∷ [] → HasOddNumber B N i n
    → AreOddSides B N i l → AreOddSides B N (i + 1) more
one_more B N i n l more e h so_far = record {
  one_each = ap (λ (m : List ℕ). length m) e ∙ longer l n ∙ ap (λ (m : ℕ). m + 1) so_far.one_each;
  each = λ j below. elim (last_or j i below) [
    | inl same ↦ subst (λ (x : ℕ). HasOddNumber B N j x) (sym (ap (λ (m : List ℕ). slice_index m j) e
        ∙ ap (slice_index (l ++ n ∷ [])) (same ∙ sym so_far.one_each) ∙ get_last l n))
        (subst (λ (x : ℕ). HasOddNumber B N x n) (sym same) h)
    | inr less ↦ subst (λ (x : ℕ). HasOddNumber B N j x) (sym (ap (λ (m : List ℕ). slice_index m j) e
        ∙ get_first l n j (omega (arith, less, so_far.one_each)))) (so_far.each j less)
  ];
}
  where
    longer : (l : List ℕ) (n : ℕ) → length (l ++ n ∷ []) ≡ length l + 1
    longer [] n = refl
    longer (m ∷ l) n = let r = longer l n in omega (arith, r)
