-- This file shows that in an even border the ends with any property are even in number.
use Rattle.std.proofs.Common.{◌≡◌, ℕ, zero, suc, ◌≤◌, Bool, true, false, ◌&&◌, List, [], ◌∷◌, length, refl, sym, ap, ◌∙◌, arith}
use Rattle.grid_base.specs.Point.{GridPoint}
use Rattle.grid_base.specs.Segment.{GridSegment}
use Rattle.grid_base.proofs.Orders.{is_point-same, is_point-itself}
use Rattle.grid_base.specs.Point.{is_point}

abbrev pub xor : Bool → Bool → Bool
xor true true = false
xor true false = true
xor false b = b

-- whether an odd number of the elements passes
abbrev pub par : {X : Type 0} → (X → Bool) → List X → Bool
par f [] = false
par f (x ∷ xs) = xor (f x) (par f xs)

pub xor_assoc : (a b c : Bool) → xor (xor a b) c ≡ xor a (xor b c)
xor_assoc true true true = refl
xor_assoc true true false = refl
xor_assoc true false c = refl
xor_assoc false b c = refl

pub xor_comm : (a b : Bool) → xor a b ≡ xor b a
xor_comm true true = refl
xor_comm true false = refl
xor_comm false true = refl
xor_comm false false = refl

pub xor_same : (a : Bool) → xor a a ≡ false
xor_same true = refl
xor_same false = refl

pub xor_none : (a b : Bool) → xor a b ≡ false → a ≡ b
xor_none true true h = refl
xor_none true false h = cc
xor_none false true h = cc
xor_none false false h = refl

pub and_none : (a : Bool) → (a && false) ≡ false
and_none true = refl
and_none false = refl

pub xor_right_none : (a : Bool) → xor a false ≡ a
xor_right_none true = refl
xor_right_none false = refl

-- (a + b) + (c + d) = (a + c) + (b + d)
pub xor_middle : (a b c d : Bool) → xor (xor a b) (xor c d) ≡ xor (xor a c) (xor b d)
xor_middle true true true true = refl
xor_middle true true true false = refl
xor_middle true true false true = refl
xor_middle true true false false = refl
xor_middle true false true true = refl
xor_middle true false true false = refl
xor_middle true false false true = refl
xor_middle true false false false = refl
xor_middle false true true true = refl
xor_middle false true true false = refl
xor_middle false true false true = refl
xor_middle false true false false = refl
xor_middle false false c d = refl

-- ---- the points of a list without one of them
abbrev pub pick : Bool → GridPoint → List GridPoint → List GridPoint
pick true w L = L
pick false w L = w ∷ L

abbrev pub without : GridPoint → List GridPoint → List GridPoint
without v [] = []
without v (w ∷ L) = pick (is_point v w) w (without v L)

pick_length : (b : Bool) (w : GridPoint) (L : List GridPoint) → length (pick b w L) ≤ suc (length L)
pick_length true w L = omega arith
pick_length false w L = omega arith

pub without_length : (v : GridPoint) (L : List GridPoint) → length (without v L) ≤ length L
without_length v [] = omega arith
without_length v (w ∷ L) = let h = without_length v L in let p = pick_length (is_point v w) w (without v L) in omega arith

pub xor_swap : (a b c : Bool) → xor a (xor b c) ≡ xor b (xor a c)
xor_swap a b c = sym (xor_assoc a b c) ∙ ap (λ (z : Bool). xor z c) (xor_comm a b) ∙ xor_assoc b a c

xor_twice : (c : Bool) → xor true (xor true c) ≡ c
xor_twice true = refl
xor_twice false = refl

taken : (a b c : Bool) → xor a (xor (a && b) c) ≡ xor (a && xor true b) c
taken true true c = xor_twice c
taken true false c = refl
taken false b c = refl

-- an element that is v, or one that is kept
one_split : (P : GridPoint → Bool) (v w : GridPoint) (b : Bool) (L : List GridPoint) → is_point v w ≡ b
    → xor (P w) (xor (P v && par (is_point v) L) (par P (without v L)))
    ≡ xor (P v && xor b (par (is_point v) L)) (par P (pick b w (without v L)))
one_split P v w true L h = rw (sym (is_point-same v w h)) (taken (P v) (par (is_point v) L) (par P (without v L)))
one_split P v w false L h = xor_swap (P w) (P v && par (is_point v) L) (par P (without v L))

-- those with P are v, as often as it comes, and those of the rest
pub split : (P : GridPoint → Bool) (v : GridPoint) (L : List GridPoint)
    → par P L ≡ xor (P v && par (is_point v) L) (par P (without v L))
split P v [] = rw (and_none (P v)) refl
split P v (w ∷ L) = ap (λ (z : Bool). xor (P w) z) (split P v L) ∙ one_split P v w (is_point v w) L refl

-- each point comes an even number of times
abbrev pub IsPaired : List GridPoint → Type 0
IsPaired L = (u : GridPoint) → par (is_point u) L ≡ false

pub paired_without : (v : GridPoint) (L : List GridPoint) → IsPaired L → IsPaired (without v L)
paired_without v L h u =
    let e = split (is_point u) v L in
    let n = rw (h v, and_none (is_point u v)) at e in
    sym n ∙ h u

-- where each point comes an even number of times, those with P are even in number
paired_by : (n : ℕ) (P : GridPoint → Bool) (L : List GridPoint) → length L ≤ n → IsPaired L → par P L ≡ false
paired_by n P [] l h = refl
paired_by zero P (v ∷ L) l h = absurd (omega arith)
paired_by (suc n) P (v ∷ L) l h =
    let e = split P v (v ∷ L) in
    let f = rw (h v, and_none (P v), is_point-itself v) at e in
    let k : length (without v L) ≤ n = omega (arith, without_length v L) in
    let g = rw (is_point-itself v) at (paired_without v (v ∷ L) h) in
    f ∙ paired_by n P (without v L) k g

pub paired : (P : GridPoint → Bool) (L : List GridPoint) → IsPaired L → par P L ≡ false
paired P L h = paired_by (length L) P L (omega arith) h

-- ---- segments
abbrev pub ends_of : List GridSegment → List GridPoint
ends_of [] = []
ends_of (s ∷ B) = s.a ∷ s.b ∷ ends_of B

-- of the ends of s an odd number has P
abbrev pub ends_with : (GridPoint → Bool) → GridSegment → Bool
ends_with P s = xor (P s.a) (P s.b)

par_ends : (P : GridPoint → Bool) (B : List GridSegment) → par P (ends_of B) ≡ par (ends_with P) B
par_ends P [] = refl
par_ends P (s ∷ B) = rw (par_ends P B) (sym (xor_assoc (P s.a) (P s.b) (par (ends_with P) B)))

-- an even number of the ends of B is at each point
abbrev pub HasPairedEnds : List GridSegment → Type 0
HasPairedEnds B = (v : GridPoint) → par (ends_with (is_point v)) B ≡ false

-- in an even border the ends with P are even in number, whatever P is
pub even_ends : (P : GridPoint → Bool) (B : List GridSegment) → HasPairedEnds B → par (ends_with P) B ≡ false
even_ends P B h = sym (par_ends P B) ∙ paired P (ends_of B) (λ u. par_ends (is_point u) B ∙ h u)

-- P holds of each element
abbrev pub Each : {X : Type 0} → (X → Type 0) → List X → Type 0
Each P [] = Unit {0}
Each P (x ∷ xs) = P x × Each P xs

pub par_xor : (f g : GridSegment → Bool) (B : List GridSegment) → par (λ s. xor (f s) (g s)) B ≡ xor (par f B) (par g B)
par_xor f g [] = refl
par_xor f g (s ∷ B) = rw (par_xor f g B) (xor_middle (f s) (g s) (par f B) (par g B))

-- f and g differ at a segment exactly where one of its ends has P and the other not
abbrev pub Differ : (GridPoint → Bool) → (GridSegment → Bool) → (GridSegment → Bool) → GridSegment → Type 0
Differ P f g s = xor (f s) (g s) ≡ ends_with P s

pub par_same : (f g : GridSegment → Bool) (B : List GridSegment) → Each (λ s. f s ≡ g s) B → par f B ≡ par g B
par_same f g [] h = refl
par_same f g (s ∷ B) h = rw (h.0, par_same f g B h.1) refl

-- two numbers of segments of an even border are both odd or both even where they differ by ends with P
pub same_parity : (P : GridPoint → Bool) (f g : GridSegment → Bool) (B : List GridSegment) → HasPairedEnds B
    → Each (Differ P f g) B → par f B ≡ par g B
same_parity P f g B h d =
    xor_none (par f B) (par g B) (sym (par_xor f g B) ∙ par_same (λ s. xor (f s) (g s)) (ends_with P) B d ∙ even_ends P B h)
