-- This file shows how a segment itself counts on a way that begins strictly inside it.
use Rattle.std.proofs.Common.{◌≡◌, ℕ, ◌*◌, ◌<◌, ◌≤◌, Bool, true, false, not, ◌&&◌, ltb, leb, refl, sym, ap, ◌∙◌, arith, inl, inr}
use Rattle.std.proofs.lemmas.Bool.{cases_lt, lt-ltb, le-ltb, le-leb, lt-leb}
use Rattle.grid_base.specs.Point.{GridPoint}
use Rattle.grid_base.specs.Segment.{GridSegment}
use Rattle.grid_base.specs.Places.{RationalPoint}
use Rattle.grid_base.proofs.Turns.{times, times_le}
use Rattle.grid_base.specs.Odd.{is_strictly_above}
use Rattle.grid_base.specs.Plane.{as_place}
use Rattle.side_parity.specs.Middle.{differ}
use Rattle.side_parity.proofs.Inner.{IsStrict}
use Rattle.side_parity.proofs.Numbers.{leftward, leftward_of_way, rightward, rightward_of_way, wider}
use Rattle.side_parity.proofs.Parities.{differ-false, differ-self}
use Rattle.side_parity.proofs.Steps.{is_above, over_is}
use Rattle.side_parity.proofs.Ways.{ltb_same}

-- ---- s itself, and a way that begins strictly inside it
-- q is on the right of s, or on its left where s is vertical
abbrev pub flips : GridSegment → RationalPoint → Bool
flips s q = elim (ltb s.a.x s.b.x) [ true ↦ ltb (leftward s q) (rightward s q) | false ↦ not (leb (s.a.x * q.w) q.x) ]

-- the greater end is above the way from r to q where q is under s
forward_sign : (s : GridSegment) (r q : RationalPoint) → s.a.x < s.b.x → leftward s r ≡ rightward s r
    → r.x < s.b.x * r.w
    → ltb (rightward_of_way r q s.b) (leftward_of_way r q s.b) ≡ ltb (leftward s q) (rightward s q)
forward_sign s r q h e k =
    let e1 = ap (λ (j : ℕ). j * q.x) e in
    let e2 = ap (λ (j : ℕ). j * (s.b.x * q.w)) e in
    ltb_same _ _ _ _
    (λ b g. (let p1 = times (rightward_of_way r q s.b) (leftward_of_way r q s.b) s.a.x s.b.x b h in
    let p2 = times_le (rightward s q) (leftward s q) r.x (s.b.x * r.w) g (omega arith) in omega arith))
    (λ g b. (let p1 = times_le (leftward_of_way r q s.b) (rightward_of_way r q s.b) s.a.x s.b.x b (omega arith) in
    let p2 = times (leftward s q) (rightward s q) r.x (s.b.x * r.w) g k in omega arith))

-- the lesser end is above the way from q to r where q is under s
backward_sign : (s : GridSegment) (r q : RationalPoint) → s.a.x < s.b.x → leftward s r ≡ rightward s r
    → s.a.x * r.w < r.x
    → ltb (rightward_of_way q r s.a) (leftward_of_way q r s.a) ≡ ltb (leftward s q) (rightward s q)
backward_sign s r q h e k =
    let e1 = ap (λ (j : ℕ). j * q.x) e in
    let e2 = ap (λ (j : ℕ). j * (s.a.x * q.w)) e in
    ltb_same _ _ _ _
    (λ b g. (let p1 = times (rightward_of_way q r s.a) (leftward_of_way q r s.a) s.a.x s.b.x b h in
    let p2 = times_le (rightward s q) (leftward s q) (s.a.x * r.w) r.x g (omega arith) in omega arith))
    (λ g b. (let p1 = times_le (leftward_of_way q r s.a) (rightward_of_way q r s.a) s.a.x s.b.x b (omega arith) in
    let p2 = times (leftward s q) (rightward s q) (s.a.x * r.w) r.x g k in omega arith))

and_no : (a b : Bool) → (a && (b && false)) ≡ false
and_no false b = refl
and_no true false = refl
and_no true true = refl

ltb_not : (m n : ℕ) → m ≡ n → ltb m n ≡ false
ltb_not m n e = le-ltb m n (omega arith)

-- no place on the line of s is under s
over_no : (s : GridSegment) (r : RationalPoint) → leftward s r ≡ rightward s r → is_strictly_above s (as_place r) ≡ false
over_no s r e = over_is s r ∙ ap (λ b. leb (s.a.x * r.w) r.x && (not (leb (s.b.x * r.w) r.x) && b)) (ltb_not _ _ e) ∙ and_no _ _

pub flips_flat : (s : GridSegment) (q : RationalPoint) → s.a.x < s.b.x
    → flips s q ≡ ltb (leftward s q) (rightward s q)
flips_flat s q h =
    ap (λ (b : Bool). elim b [ true ↦ ltb (leftward s q) (rightward s q) | false ↦ not (leb (s.a.x * q.w) q.x) ]) (lt-ltb s.a.x s.b.x h)

pub flips_upright : (s : GridSegment) (q : RationalPoint) → s.a.x ≡ s.b.x
    → flips s q ≡ not (leb (s.a.x * q.w) q.x)
flips_upright s q h =
    ap (λ (b : Bool). elim b [ true ↦ ltb (leftward s q) (rightward s q) | false ↦ not (leb (s.a.x * q.w) q.x) ]) (ltb_not s.a.x s.b.x h)

-- what stands on the two sides of s itself, the way leading to the right, or to the left
abbrev pub TellsItself : GridSegment → RationalPoint → RationalPoint → RationalPoint → Type 0
TellsItself s q lo hi =
    differ (is_strictly_above s (as_place lo)) (is_strictly_above s (as_place hi))
    ≡ differ (differ (is_above lo hi s.a) (is_above lo hi s.b)) (flips s q)

forward_bits : (x g : Bool) → differ false (not x && g) ≡ differ (differ false (x && g)) g
forward_bits false g = refl
forward_bits true g = sym (differ-self g)

backward_bits : (y g : Bool) → differ (y && g) false ≡ differ (differ (not y && g) false) g
backward_bits false g = sym (ap (λ b. differ b g) (differ-false g) ∙ differ-self g)
backward_bits true g = differ-false g

-- ---- s not vertical
forward_flat : (s : GridSegment) (r q : RationalPoint) → s.a.x < s.b.x → 0 < r.w → leftward s r ≡ rightward s r
    → s.a.x * r.w < r.x → r.x < s.b.x * r.w
    → r.x * q.w ≤ q.x * r.w → TellsItself s q r q
forward_flat s r q h w e k l o =
    (λ i. differ (over_no s r e i) (over_q i))
    ∙ forward_bits (leb (s.b.x * q.w) q.x) (ltb (leftward s q) (rightward s q))
    ∙ sym (λ i. differ (differ (above_a i) (above_b i)) (flips_flat s q h i))
  where
    past : s.a.x * q.w ≤ q.x
    past =
        let no : q.x < s.a.x * q.w → ⊥ =
        λ j. (let p1 = times q.x (s.a.x * q.w) 0 r.w j w in
        let p2 = times_le (s.a.x * r.w) r.x 0 q.w (omega arith) (omega arith) in
        omega arith) in
        omega (arith, no)

    over_q : is_strictly_above s (as_place q) ≡ (not (leb (s.b.x * q.w) q.x) && ltb (leftward s q) (rightward s q))
    over_q = over_is s q ∙ ap (λ b. b && (not (leb (s.b.x * q.w) q.x) && ltb (leftward s q) (rightward s q))) (le-leb _ _ past)

    above_a : is_above r q s.a ≡ false
    above_a =
        ap (λ b. not b && (leb (s.a.x * q.w) q.x && ltb (rightward_of_way r q s.a) (leftward_of_way r q s.a)))
        (le-leb (s.a.x * r.w) r.x (omega arith))

    above_b : is_above r q s.b ≡ (leb (s.b.x * q.w) q.x && ltb (leftward s q) (rightward s q))
    above_b =
        ap (λ b. not b && (leb (s.b.x * q.w) q.x && ltb (rightward_of_way r q s.b) (leftward_of_way r q s.b))) (lt-leb (s.b.x * r.w) r.x l)
        ∙ ap (λ b. leb (s.b.x * q.w) q.x && b) (forward_sign s r q h e l)

backward_flat : (s : GridSegment) (r q : RationalPoint) → s.a.x < s.b.x → 0 < r.w → leftward s r ≡ rightward s r
    → s.a.x * r.w < r.x → r.x < s.b.x * r.w
    → 0 < q.w → q.x * r.w ≤ r.x * q.w → TellsItself s q q r
backward_flat s r q h w e k l wq o =
    (λ i. differ (over_q i) (over_no s r e i))
    ∙ backward_bits (leb (s.a.x * q.w) q.x) (ltb (leftward s q) (rightward s q))
    ∙ sym (λ i. differ (differ (above_a i) (above_b i)) (flips_flat s q h i))
  where
    before : q.x < s.b.x * q.w
    before =
        let no : s.b.x * q.w ≤ q.x → ⊥ =
        λ j. (let p1 = times r.x (s.b.x * r.w) 0 q.w l wq in
        let p2 = times_le (s.b.x * q.w) q.x 0 r.w j (omega arith) in
        omega arith) in
        omega (arith, no)

    over_q : is_strictly_above s (as_place q) ≡ (leb (s.a.x * q.w) q.x && ltb (leftward s q) (rightward s q))
    over_q =
        over_is s q ∙ ap (λ b. leb (s.a.x * q.w) q.x && (not b && ltb (leftward s q) (rightward s q))) (lt-leb (s.b.x * q.w) q.x before)

    above_a : is_above q r s.a ≡ (not (leb (s.a.x * q.w) q.x) && ltb (leftward s q) (rightward s q))
    above_a =
        ap (λ b. not (leb (s.a.x * q.w) q.x) && (b && ltb (rightward_of_way q r s.a) (leftward_of_way q r s.a)))
        (le-leb (s.a.x * r.w) r.x (omega arith))
        ∙ ap (λ b. not (leb (s.a.x * q.w) q.x) && b) (backward_sign s r q h e k)

    above_b : is_above q r s.b ≡ false
    above_b =
        ap (λ b. not (leb (s.b.x * q.w) q.x) && (b && ltb (rightward_of_way q r s.b) (leftward_of_way q r s.b)))
        (lt-leb (s.b.x * r.w) r.x l) ∙ no (not (leb (s.b.x * q.w) q.x))
      where
        no : (a : Bool) → (a && false) ≡ false
        no false = refl
        no true = refl

-- ---- s vertical
over_upright : (s : GridSegment) (q : RationalPoint) → s.a.x ≡ s.b.x → is_strictly_above s (as_place q) ≡ false
over_upright s q e =
    over_is s q ∙ ap (λ (x : ℕ). leb (s.a.x * q.w) q.x && (not (leb (x * q.w) q.x) && ltb (leftward s q) (rightward s q))) (sym e) ∙ no _ _
  where
    no : (x g : Bool) → (x && (not x && g)) ≡ false
    no false g = refl
    no true g = refl

forward_upright : (s : GridSegment) (r q : RationalPoint) → s.a.x ≡ s.b.x → 0 < r.w → r.x ≡ s.a.x * r.w
    → r.x * q.w ≤ q.x * r.w → TellsItself s q r q
forward_upright s r q h w c o =
    (λ i. differ (over_upright s r h i) (over_upright s q h i))
    ∙ sym (λ i. differ (differ (above s.a refl i) (above s.b (sym h) i)) (flip i))
  where
    above : (v : GridPoint) → v.x ≡ s.a.x → is_above r q v ≡ false
    above v e =
        let e1 = ap (λ (k : ℕ). k * r.w) e in
        ap (λ b. not b && (leb (v.x * q.w) q.x && ltb (rightward_of_way r q v) (leftward_of_way r q v)))
        (le-leb (v.x * r.w) r.x (omega arith))

    past : s.a.x * q.w ≤ q.x
    past =
        let c1 = ap (λ (k : ℕ). k * q.w) c in
        let no : q.x < s.a.x * q.w → ⊥ = λ j. (let p1 = times q.x (s.a.x * q.w) 0 r.w j w in omega arith) in
        omega (arith, no)

    flip : flips s q ≡ false
    flip = flips_upright s q h ∙ ap not (le-leb _ _ past)

backward_upright : (s : GridSegment) (r q : RationalPoint) → s.a.x ≡ s.b.x → r.x ≡ s.a.x * r.w
    → s.a.y * r.w < r.y → r.y < s.b.y * r.w
    → TellsItself s q q r
backward_upright s r q h c k l =
    (λ i. differ (over_upright s q h i) (over_upright s r h i))
    ∙ elim (cases_lt q.x (s.a.x * q.w)) [
      | inl o ↦ sym (λ i. differ (differ (above_a o i) (above_b o i)) (flip o i))
      | inr o ↦ sym (λ i. differ (differ (not_above s.a refl o i) (not_above s.b (sym h) o i)) (no_flip o i))
    ]
  where
    flip : q.x < s.a.x * q.w → flips s q ≡ true
    flip o = flips_upright s q h ∙ ap not (lt-leb _ _ o)

    no_flip : s.a.x * q.w ≤ q.x → flips s q ≡ false
    no_flip o = flips_upright s q h ∙ ap not (le-leb _ _ o)

    not_above : (v : GridPoint) → v.x ≡ s.a.x → s.a.x * q.w ≤ q.x → is_above q r v ≡ false
    not_above v e o =
        let e1 = ap (λ (k : ℕ). k * q.w) e in
        ap (λ b. not b && (leb (v.x * r.w) r.x && ltb (rightward_of_way q r v) (leftward_of_way q r v)))
        (le-leb (v.x * q.w) q.x (omega arith))

    column : (v : GridPoint) → v.x ≡ s.a.x → q.x < s.a.x * q.w
        → is_above q r v ≡ ltb (rightward_of_way q r v) (leftward_of_way q r v)
    column v e o =
        let e1 = ap (λ (k : ℕ). k * q.w) e in
        let e2 = ap (λ (k : ℕ). k * r.w) e in
        (λ i. not (lt-leb (v.x * q.w) q.x (omega arith) i)
        && (le-leb (v.x * r.w) r.x (omega arith) i && ltb (rightward_of_way q r v) (leftward_of_way q r v)))

    above_a : q.x < s.a.x * q.w → is_above q r s.a ≡ false
    above_a o =
        let c1 = ap (λ (j : ℕ). j * (q.w * s.a.y)) c in
        let c2 = ap (λ (j : ℕ). j * q.y) c in
        let p1 = times q.x (s.a.x * q.w) (s.a.y * r.w) r.y o k in
        column s.a refl o ∙ le-ltb _ _ (omega arith)

    above_b : q.x < s.a.x * q.w → is_above q r s.b ≡ true
    above_b o =
        let c1 = ap (λ (j : ℕ). j * (q.w * s.b.y)) c in
        let c2 = ap (λ (j : ℕ). j * q.y) c in
        let h1 = ap (λ (j : ℕ). j * (q.y * r.w)) h in
        let h2 = ap (λ (j : ℕ). j * (q.w * r.y)) h in
        let p1 = times q.x (s.a.x * q.w) r.y (s.b.y * r.w) o l in
        column s.b (sym h) o ∙ lt-ltb _ _ (omega arith)

-- ---- either
pub itself_forward : (s : GridSegment) (r q : RationalPoint) → IsStrict s r → r.x * q.w ≤ q.x * r.w
    → TellsItself s q r q
itself_forward s r q h o = elim h.between [
  | inl b ↦ forward_flat s r q (wider s.a.x s.b.x r.w r.x (omega arith) b.1) h.real h.line b.0 b.1 o
  | inr b ↦ forward_upright s r q b.0 h.real b.1 o
]

pub itself_backward : (s : GridSegment) (r q : RationalPoint) → IsStrict s r → 0 < q.w → q.x * r.w ≤ r.x * q.w
    → TellsItself s q q r
itself_backward s r q h wq o = elim h.between [
  | inl b ↦ backward_flat s r q (wider s.a.x s.b.x r.w r.x (omega arith) b.1) h.real h.line b.0 b.1 wq o
  | inr b ↦ backward_upright s r q b.0 b.1 b.2 b.3
]
