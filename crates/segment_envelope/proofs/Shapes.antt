-- What the tests for flat and for diagonal segments say of the runs.
use Rattle.std.proofs.Common.{◌≡◌, ◌≢◌, ◌<◌, ◌≤◌, true, false, sym}
use Rattle.std.proofs.lemmas.Bool.{leb-true, leb-false, eqb-true, eqb-false}
use Rattle.grid_base.specs.Segment.{GridSegment, width, height, is_flat, is_diagonal}

-- a flat segment is at least as wide as it is high
pub flat_is : (s : GridSegment) → true ≡ is_flat s → height s ≤ width s
flat_is s flat = leb-true (height s) (width s) (sym flat)

-- a steep one is higher
pub steep_is : (s : GridSegment) → false ≡ is_flat s → width s < height s
steep_is s steep = leb-false (height s) (width s) (sym steep)

-- a diagonal is as high as it is wide
pub diagonal_is : (s : GridSegment) → is_diagonal s ≡ true → width s ≡ height s
diagonal_is s diagonal = eqb-true (width s) (height s) diagonal

-- and any other segment isn't
pub no_diagonal_is : (s : GridSegment) → is_diagonal s ≡ false → width s ≢ height s
no_diagonal_is s other = eqb-false (width s) (height s) other
