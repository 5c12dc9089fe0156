-- This file shows that a moved border is even and noded where the border is.
use Rattle.std.proofs.Common.{◌≡◌, ◌⊎◌, ℕ, ◌+◌, ◌-◌, ◌*◌, ◌<◌, ◌≤◌, false, ◌&&◌, ◌||◌, List, [], ◌∷◌, map, length, get_or}
use Rattle.std.proofs.Common.{refl, sym, ap, subst, ◌∙◌, arith, inl, inr}
use Rattle.std.specs.Prelude.{Contains, ◌==◌}
use Rattle.std.specs.List.{AllByRecursion}
use Rattle.std.proofs.lemmas.List.{get_or-map, get_or_default, length-map}
use Rattle.std.proofs.lemmas.Bool.{cases_lt, eq-eqb, ne_eqb, cases_eq, and_left, and_right}
use Rattle.grid_base.specs.Point.{GridPoint, IsBefore, IsFromTo, is_point}
use Rattle.grid_base.specs.Segment.{GridSegment, IsEnd}
use Rattle.grid_base.specs.Places.{RationalPoint, IsPlace, IsAt}
use Rattle.grid_base.specs.Border.{AreNoded, is_end, IsEvenBorder}
use Rattle.grid_base.proofs.Orders.{is_segment}
use Rattle.side_parity.specs.Middle.{differ}
use Rattle.side_parity.proofs.Images.{moved, moved_point}
use Rattle.side_parity.proofs.Numbers.{leftward, line_by, place_balanced, rightward}
use Rattle.side_parity.proofs.Parities.{count_by_even, even_by_count}
use Rattle.side_parity.proofs.Regions.{MeetInEnds, odd_count}

-- ---- even borders
eqb_moved : (n m k : ℕ) → ((m + n) == (k + n)) ≡ (m == k)
eqb_moved n m k = elim (cases_eq m k) [
  | inl e ↦ eq-eqb _ _ (omega arith) ∙ sym (eq-eqb m k e)
  | inr e ↦ ne_eqb _ _ (λ j. e (omega arith)) ∙ sym (ne_eqb m k e)
]

same_points : (n : ℕ) (p q : GridPoint) → is_point (moved_point n p) (moved_point n q) ≡ is_point p q
same_points n p q = λ i. eqb_moved n p.x q.x i && eqb_moved n p.y q.y i

pub segment_moved : (n : ℕ) (s : GridSegment) (B : List GridSegment)
    → odd_count (is_segment (moved n s)) (map (moved n) B) ≡ odd_count (is_segment s) B
segment_moved n s [] = refl
segment_moved n s (t ∷ B) = λ i. differ (same_points n s.a t.a i && same_points n s.b t.b i) (segment_moved n s B i)

pub ends_moved : (n : ℕ) (p : GridPoint) (B : List GridSegment)
    → odd_count (is_end (moved_point n p)) (map (moved n) B) ≡ odd_count (is_end p) B
ends_moved n p [] = refl
ends_moved n p (t ∷ B) = λ i. differ (same_points n t.a p i || same_points n t.b p i) (ends_moved n p B i)

no_point : (n : ℕ) (p q : GridPoint) → (p.x < n) ⊎ (p.y < n) → is_point (moved_point n q) p ≡ false
no_point n p q (inl e) = and_left _ _ (ne_eqb (q.x + n) p.x (λ k. omega arith))
no_point n p q (inr e) = and_right _ _ (ne_eqb (q.y + n) p.y (λ k. omega arith))

none_on_rim : (n : ℕ) (p : GridPoint) (B : List GridSegment) → (p.x < n) ⊎ (p.y < n)
    → odd_count (is_end p) (map (moved n) B) ≡ false
none_on_rim n p [] h = refl
none_on_rim n p (t ∷ B) h = λ i. differ (no_point n p t.a h i || no_point n p t.b h i) (none_on_rim n p B h i)

less : (n k : ℕ) → n ≤ k → (m : ℕ) × (m + n ≡ k)
less n k h = (k - n, omega arith)

where_is : (n : ℕ) (p : GridPoint) → ((p.x < n) ⊎ (p.y < n)) ⊎ ((q : GridPoint) × (moved_point n q ≡ p))
where_is n p = elim (cases_lt p.x n) [
  | inl h ↦ inl (inl h)
  | inr h ↦ elim (cases_lt p.y n) [
    | inl k ↦ inl (inr k)
    | inr k ↦ inr (let m = less n p.x h in let l = less n p.y k in (record { x = m.0; y = l.0 }, λ i. record { x = m.1 i; y = l.1 i }))
  ]
]

even_at_moved : (n : ℕ) (B : List GridSegment) → IsEvenBorder B → (p : GridPoint)
    → odd_count (is_end p) (map (moved n) B) ≡ false
even_at_moved n B h p = elim (where_is n p) [
  | inl o ↦ none_on_rim n p B o
  | inr o ↦ subst (λ (q : GridPoint). odd_count (is_end q) (map (moved n) B) ≡ false) o.1
      (ends_moved n o.0 B ∙ even_by_count (is_end o.0) B (h o.0))
]

pub even_moved : (n : ℕ) (B : List GridSegment) → IsEvenBorder B → IsEvenBorder (map (moved n) B)
even_moved n B h p = count_by_even (is_end p) (map (moved n) B) (even_at_moved n B h p)

-- ---- segments of a realm
lowest : (n a b w x : ℕ) → IsFromTo ((a + n) * w) ((b + n) * w) x → n * w ≤ x
lowest n a b w x h = let l = h.0 in omega arith

within_back : (n a b w x y : ℕ) → y + n * w ≡ x → IsFromTo ((a + n) * w) ((b + n) * w) x
    → IsFromTo (a * w) (b * w) y
within_back n a b w x y e h = let l = h.0 in let r = h.1 in (omega arith, omega arith)

-- a place of a moved segment, moved back
pub record IsMovedBack (n : ℕ) (s : GridSegment) (q r : RationalPoint) : Type 0 where
  pub weight : r.w ≡ q.w
  pub across : r.x + n * r.w ≡ q.x
  pub up : r.y + n * r.w ≡ q.y
  pub place : IsPlace s r

level : (n : ℕ) (s : GridSegment) (q : RationalPoint) (k l : ℕ) → k + n * q.w ≡ q.x → l + n * q.w ≡ q.y
    → leftward (moved n s) q ≡ rightward (moved n s) q
    → leftward s (record { x = k; y = l; w = q.w }) ≡ rightward s (record { x = k; y = l; w = q.w })
level n s q k l e f h =
    let e1 = ap (λ (j : ℕ). j * s.a.y) e in
    let e2 = ap (λ (j : ℕ). j * s.b.y) e in
    let e3 = ap (λ (j : ℕ). j * n) e in
    let f1 = ap (λ (j : ℕ). j * s.a.x) f in
    let f2 = ap (λ (j : ℕ). j * s.b.x) f in
    let f3 = ap (λ (j : ℕ). j * n) f in
    omega arith

place_back : (n : ℕ) (s : GridSegment) (q : RationalPoint) → IsPlace (moved n s) q
    → (r : RationalPoint) × IsMovedBack n s q r
place_back n s q h =
    let k = less (n * q.w) q.x (lowest n s.a.x s.b.x q.w q.x h.across) in
    let l = less (n * q.w) q.y (lowest n s.a.y s.b.y q.w q.y h.up) in (
      record { x = k.0; y = l.0; w = q.w },
      record {
        weight = refl;
        across = k.1;
        up = l.1;
        place = record {
          real = h.real;
          line = line_by s (record { x = k.0; y = l.0; w = q.w }) (level n s q k.0 l.0 k.1 l.1 (place_balanced (moved n s) q h));
          across = within_back n s.a.x s.b.x q.w q.x k.0 k.1 h.across;
          up = within_back n s.a.y s.b.y q.w q.y l.0 l.1 h.up;
        };
      },
    )

pub contains_moved : (n : ℕ) (L : List GridSegment) (s : GridSegment) → Contains (map (moved n) L) s
    → (t : GridSegment) × Contains L t × (moved n t ≡ s)
contains_moved n L s (k, h, e) =
    let o : k < length L = subst (λ (m : ℕ). k < m) (length-map L (moved n)) h in
    (get_or L k s, (k, o, get_or_default L k (get_or L k s) s o), sym (get_or-map (moved n) L k s s o) ∙ e)

pub moved_first : (n : ℕ) (t : GridSegment) → IsBefore t.a t.b → IsBefore (moved n t).a (moved n t).b
moved_first n t (inl h) = inl (omega arith)
moved_first n t (inr h) = inr (ap (λ (x : ℕ). x + n) h.0, omega arith)

pub moved_all_first : (n : ℕ) (B : List GridSegment) → AllByRecursion (λ t. IsBefore t.a t.b) B
    → AllByRecursion (λ t. IsBefore t.a t.b) (map (moved n) B)
moved_all_first n [] h = tt
moved_all_first n (t ∷ B) h = (moved_first n t h.0, moved_all_first n B h.1)

end_moved : (n : ℕ) (p : GridPoint) (s : GridSegment) → IsEnd p s → IsEnd (moved_point n p) (moved n s)
end_moved n p s (inl e) = inl (ap (moved_point n) e)
end_moved n p s (inr e) = inr (ap (moved_point n) e)

at_moved : (n : ℕ) (s : GridSegment) (q r : RationalPoint) (p : GridPoint) → IsMovedBack n s q r → IsAt r p
    → IsAt q (moved_point n p)
at_moved n s q r p b h =
    let w = b.weight in
    let x = b.across in
    let y = b.up in
    let w1 = ap (λ (k : ℕ). p.x * k) w in
    let w2 = ap (λ (k : ℕ). p.y * k) w in
    let w3 = ap (λ (k : ℕ). n * k) w in
    let c = h.0 in
    let d = h.1 in
    (omega arith, omega arith)

same_back : (n : ℕ) (s t : GridSegment) (q r u : RationalPoint) → IsMovedBack n s q r → IsMovedBack n t q u
    → u ≡ r
same_back n s t q r u b c =
    let w : u.w ≡ r.w = c.weight ∙ sym b.weight in
    let w1 = ap (λ (k : ℕ). n * k) w in
    let x : u.x ≡ r.x = omega (arith, b.across, c.across) in
    let y : u.y ≡ r.y = omega (arith, b.up, c.up) in
    λ i. record { x = x i; y = y i; w = w i }

pub meet_moved : (n : ℕ) (L : List GridSegment) → MeetInEnds L → MeetInEnds (map (moved n) L)
meet_moved n L h = record {
  only_ends_in_common = λ s t q hs ht other ps pt.
      (let c = contains_moved n L s hs in
      let d = contains_moved n L t ht in
      let m = place_back n c.0 q (subst (λ (u : GridSegment). IsPlace u q) (sym c.2) ps) in
      let l = place_back n d.0 q (subst (λ (u : GridSegment). IsPlace u q) (sym d.2) pt) in
      let k =
      h.only_ends_in_common c.0 d.0 m.0 c.1 d.1 (λ e. other (sym c.2 ∙ ap (moved n) e ∙ d.2)) m.1.place
      (subst (IsPlace d.0) (same_back n c.0 d.0 q m.0 l.0 m.1 l.1) l.1.place) in (
        moved_point n k.0,
        subst (IsEnd (moved_point n k.0)) c.2 (end_moved n k.0 c.0 k.1),
        subst (IsEnd (moved_point n k.0)) d.2 (end_moved n k.0 d.0 k.2),
        at_moved n c.0 q m.0 k.0 m.1 k.3,
      ));
}

pub meet_noded : (L : List GridSegment) → AreNoded L → MeetInEnds L
meet_noded L h = record { only_ends_in_common = h.only_ends_in_common }
