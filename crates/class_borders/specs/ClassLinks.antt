-- The border of a class as links, each with the class on its left.
use Rattle.std.specs.Prelude.{◌==◌, ◌&&◌, not, ℕ, Bool, List, [], ◌∷◌, if◌then◌else◌, count_by}
use Rattle.grid_base.specs.Point.{GridPoint, is_point}
use Rattle.grid_base.specs.Segment.{GridSegment}
use Rattle.r_cycles.specs.Cycles.{Link, link}
use Rattle.plane_cells.specs.declared.classes.SideClasses.{SideClasses}

-- whether the class n is on the left alone, seen from the lesser end
abbrev pub is_left_alone : ℕ → SideClasses → Bool
is_left_alone n numbers = (numbers.left == n) && not (numbers.right == n)

-- whether the class n is on the right alone
abbrev pub is_right_alone : ℕ → SideClasses → Bool
is_right_alone n numbers = (numbers.right == n) && not (numbers.left == n)

-- for each segment that has the class n on one side alone, the link along it with the class on the left
abbrev pub class_links : ℕ → List GridSegment → List SideClasses → List Link
class_links n [] numbers = []
class_links n (s ∷ border) [] = []
class_links n (s ∷ border) (m ∷ numbers) =
    if is_left_alone n m then link s.a s.b ∷ class_links n border numbers
    else if is_right_alone n m then link s.b s.a ∷ class_links n border numbers
    else class_links n border numbers

-- the segments that have the class n on one side alone, in order
abbrev pub class_rim : ℕ → List GridSegment → List SideClasses → List GridSegment
class_rim n [] numbers = []
class_rim n (s ∷ border) [] = []
class_rim n (s ∷ border) (m ∷ numbers) =
    if is_left_alone n m then s ∷ class_rim n border numbers
    else if is_right_alone n m then s ∷ class_rim n border numbers
    else class_rim n border numbers

-- how many of the links begin at v
abbrev pub departures : GridPoint → List Link → ℕ
departures v list = count_by (λ l. is_point v l.from) list

-- how many of the links end at v
abbrev pub arrivals : GridPoint → List Link → ℕ
arrivals v list = count_by (λ l. is_point v l.to) list
