-- This file shows that the links along the border of a class are counted segment by segment.
use Rattle.std.proofs.Common.{◌≡◌, ℕ, zero, suc, ◌+◌, ◌==◌, Bool, true, false, not, ◌&&◌, if◌then◌else◌, List, [], ◌∷◌, length, count_by}
use Rattle.std.proofs.Common.{slice_index_or, refl, arith}
use Rattle.grid_base.specs.Segment.{GridSegment}
use Rattle.r_cycles.specs.Cycles.{Link, link}
use Rattle.r_cycles.proofs.Counts.{count_by-cons}
use Rattle.plane_cells.specs.Numbered.{numbered}
use Rattle.plane_cells.specs.declared.classes.SideClasses.{SideClasses}
use Rattle.class_borders.specs.ClassLinks.{is_left_alone, is_right_alone, class_links}
use Rattle.class_borders.proofs.Tallies.{one, tally_below}

-- the numbers of the sides of segment i
abbrev pub numbers_at : List SideClasses → ℕ → SideClasses
numbers_at numbers i = slice_index_or numbers i (record { left = 0; right = 0 })

tally_first : (g : ℕ → Bool) (n : ℕ) → tally_below g (suc n) ≡ one (g 0) + tally_below (λ i. g (suc i)) n
tally_first g zero = refl
tally_first g (suc n) = let rest = tally_first g n in omega (arith, rest)

parts : (l r : Bool) (t : Link → Bool) (p q : Link) (R : List Link)
    → count_by t (if l && not r then p ∷ R else if r && not l then q ∷ R else R)
    ≡ one ((l && not r) && t p) + (one ((r && not l) && t q) + count_by t R)
parts true true t p q R = omega arith
parts true false t p q R = let c = count_by-cons t p R in omega (arith, c)
parts false true t p q R = let c = count_by-cons t q R in omega (arith, c)
parts false false t p q R = omega arith

-- those along segments from the lesser end, and those from the greater
pub links_counted : (n : ℕ) (t : Link → Bool) (B : List GridSegment) (numbers : List SideClasses) → length numbers ≡ length B
    → count_by t (class_links n B numbers)
    ≡ tally_below (λ i. is_left_alone n (numbers_at numbers i) && t (link (numbered B i).a (numbered B i).b)) (length B)
    + tally_below (λ i. is_right_alone n (numbers_at numbers i) && t (link (numbered B i).b (numbered B i).a)) (length B)
links_counted n t [] numbers e = refl
links_counted n t (s ∷ B) [] e = absurd (omega (arith, e))
links_counted n t (s ∷ B) (m ∷ numbers) e =
    let rest = links_counted n t B numbers (omega (arith, e)) in
    let here = parts (m.left == n) (m.right == n) t (link s.a s.b) (link s.b s.a) (class_links n B numbers) in
    let left = tally_first (λ i. is_left_alone n (numbers_at (m ∷ numbers) i)
    && t (link (numbered (s ∷ B) i).a (numbered (s ∷ B) i).b)) (length B) in
    let right = tally_first (λ i. is_right_alone n (numbers_at (m ∷ numbers) i)
    && t (link (numbered (s ∷ B) i).b (numbered (s ∷ B) i).a)) (length B) in
    omega (arith, rest, here, left, right)
