-- This file shows that an even number of the segments of an even border has at one end alone whatever is asked of points.
use Rattle.std.proofs.Common.{◌≡◌, ℕ, zero, suc, ◌≤◌, Bool, true, false, not, ◌&&◌, ◌||◌, List, [], ◌∷◌, length}
use Rattle.std.proofs.Common.{refl, sym, ap, ◌∙◌, arith}
use Rattle.grid_base.specs.Point.{GridPoint, is_point}
use Rattle.grid_base.specs.Segment.{GridSegment}
use Rattle.grid_base.specs.Border.{is_end, IsEvenBorder}
use Rattle.grid_base.proofs.Orders.{is_point-same, is_point-itself}
use Rattle.side_parity.specs.Middle.{differ}
use Rattle.side_parity.proofs.Parities.{differ-assoc, differ-comm, differ-twice, even_by_count}
use Rattle.side_parity.proofs.Regions.{odd_count}

-- ---- the ends of segments, as a list
abbrev pub ends : List GridSegment → List GridPoint
ends [] = []
ends (s ∷ B) = s.a ∷ s.b ∷ ends B

odd_count-ends : (f : GridPoint → Bool) (B : List GridSegment)
    → odd_count (λ s. differ (f s.a) (f s.b)) B ≡ odd_count f (ends B)
odd_count-ends f [] = refl
odd_count-ends f (s ∷ B) = ap (differ (differ (f s.a) (f s.b))) (odd_count-ends f B) ∙ differ-assoc (f s.a) (f s.b) (odd_count f (ends B))

-- ---- what is even at each item is even in all
split_bool : (b c m n x : Bool) → (b ≡ true → m ≡ n)
    → differ m (differ (c && n) x) ≡ differ (differ b c && n) (differ (not b && m) x)
split_bool false c m n x h = sym (differ-assoc m (c && n) x) ∙ ap (λ y. differ y x) (differ-comm m (c && n)) ∙ differ-assoc (c && n) m x
split_bool true false m n x h = ap (λ y. differ y x) (h refl)
split_bool true true false n x h = ap (λ y. differ y x) (sym (h refl))
split_bool true true true n false h = ap (λ y. not (differ y false)) (sym (h refl))
split_bool true true true n true h = ap (λ y. not (differ y true)) (sym (h refl))

odd_rest : (b : Bool) → differ true b ≡ false → b ≡ true
odd_rest false e = sym e
odd_rest true e = refl

module _ {A : Type 0} (same : A → A → Bool) (exact : (p q : A) → same p q ≡ true → p ≡ q) (itself : (p : A) → same p p ≡ true) where
  -- the list with q, unless b
  keep : Bool → A → List A → List A
  keep true q l = l
  keep false q l = q ∷ l

  -- the list without p
  without : A → List A → List A
  without p [] = []
  without p (q ∷ l) = keep (same p q) q (without p l)

  count-keep : (f : A → Bool) (b : Bool) (q : A) (l : List A)
      → odd_count f (keep b q l) ≡ differ (not b && f q) (odd_count f l)
  unfolding keep
  count-keep f true q l = refl
  count-keep f false q l = refl

  length-keep : (b : Bool) (q : A) (l : List A) → length (keep b q l) ≤ suc (length l)
  unfolding keep
  length-keep true q l = omega arith
  length-keep false q l = omega arith

  length-without : (p : A) (l : List A) → length (without p l) ≤ length l
  unfolding without
  length-without p [] = omega arith
  length-without p (q ∷ l) = let h = length-without p l in let k = length-keep (same p q) q (without p l) in omega arith

  split : (p : A) (f : A → Bool) (l : List A)
      → odd_count f l ≡ differ (odd_count (same p) l && f p) (odd_count f (without p l))
  unfolding without
  split p f [] = refl
  split p f (q ∷ l) =
      ap (differ (f q)) (split p f l)
      ∙ split_bool (same p q) (odd_count (same p) l) (f q) (f p) (odd_count f (without p l)) (λ e. ap f (sym (exact p q e)))
      ∙ ap (differ (differ (same p q) (odd_count (same p) l) && f p)) (sym (count-keep f (same p q) q (without p l)))

  -- where the list has p at its head, and p an even number of times, p adds nothing
  pair_off : (p : A) (l : List A) → odd_count (same p) (p ∷ l) ≡ false → (f : A → Bool)
      → odd_count f (p ∷ l) ≡ odd_count f (without p l)
  pair_off p l h f =
      let c : odd_count (same p) l ≡ true = odd_rest _ (ap (λ b. differ b (odd_count (same p) l)) (sym (itself p)) ∙ h) in
      ap (differ (f p)) (split p f l ∙ ap (λ b. differ (b && f p) (odd_count f (without p l))) c)
      ∙ differ-twice (f p) (odd_count f (without p l))

  even_upto : (n : ℕ) (l : List A) → length l ≤ n → ((p : A) → odd_count (same p) l ≡ false) → (f : A → Bool)
      → odd_count f l ≡ false
  even_upto n [] h e f = refl
  even_upto zero (p ∷ l) h e f = absurd (omega arith)
  even_upto (suc n) (p ∷ l) h e f =
      let shorter : length (without p l) ≤ n = let k = length-without p l in omega arith in
      pair_off p l (e p) f ∙ even_upto n (without p l) shorter (λ r. sym (pair_off p l (e p) (same r)) ∙ e r) f

  -- where each item comes an even number of times, those with f are even in number
  pub even_by_each : (l : List A) → ((p : A) → odd_count (same p) l ≡ false) → (f : A → Bool)
      → odd_count f l ≡ false
  even_by_each l e f = even_upto (length l) l (omega arith) e f

-- ---- the ends of an even border
pub end_is : (p a b : GridPoint) → (a ≡ b → ⊥)
    → (is_point a p || is_point b p) ≡ differ (is_point a p) (is_point b p)
end_is p a b h = go (is_point a p) (is_point b p) (λ e k. h (is_point-same a p e ∙ sym (is_point-same b p k)))
  where
    go : (m n : Bool) → (m ≡ true → n ≡ true → ⊥) → (m || n) ≡ differ m n
    go false n k = refl
    go true false k = refl
    go true true k = absurd (k refl refl)

-- each segment of the list has two ends
abbrev pub AllHaveEnds : List GridSegment → Type 0
AllHaveEnds [] = Unit {0}
AllHaveEnds (s ∷ B) = (s.a ≡ s.b → ⊥) × AllHaveEnds B

odd_ends : (p : GridPoint) (B : List GridSegment) → AllHaveEnds B
    → odd_count (is_end p) B ≡ odd_count (λ v. is_point v p) (ends B)
odd_ends p [] h = refl
odd_ends p (s ∷ B) h =
    ap (λ b. differ b (odd_count (is_end p) B)) (end_is p s.a s.b h.0)
    ∙ ap (differ (differ (is_point s.a p) (is_point s.b p))) (odd_ends p B h.1)
    ∙ differ-assoc (is_point s.a p) (is_point s.b p) (odd_count (λ v. is_point v p) (ends B))

even_at : (B : List GridSegment) → AllHaveEnds B → IsEvenBorder B → (p : GridPoint)
    → odd_count (λ v. is_point v p) (ends B) ≡ false
even_at B h e p = sym (odd_ends p B h) ∙ even_by_count (is_end p) B (e p)

-- whatever is asked of points: an even number of the segments of an even border have it at one end alone
pub even_in_all : (f : GridPoint → Bool) (B : List GridSegment) → AllHaveEnds B → IsEvenBorder B
    → odd_count (λ s. differ (f s.a) (f s.b)) B ≡ false
even_in_all f B h e =
    odd_count-ends f B
    ∙ even_by_each (λ p v. is_point v p) (λ p v k. sym (is_point-same v p k)) is_point-itself (ends B) (even_at B h e) f
