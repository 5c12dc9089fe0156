use Rattle.std.proofs.Common.{ℕ, ℤ, ◌≡◌, ◌<◌, ◌*◌, ◌*ℤ◌, w64, unsigned_abs, to_z, of_z, arith}
use Rattle.std.proofs.lemmas.Int.{to_z-of_z, fits_signed_from_abs, fits_signed_mul, unsigned_abs-mul}
use Rattle.grid_base.specs.Grid.{grid_side, product_bound}
use Rattle.grid_base.proofs.sides.product.Goals as goal

-- a product of two numbers below the side of the grid fits
fits : (m n : ℤ) → unsigned_abs m < grid_side → unsigned_abs n < grid_side
    → to_z w64 (of_z w64 (to_z w64 (of_z w64 m) *ℤ to_z w64 (of_z w64 n))) ≡ m *ℤ n
fits m n m_below n_below =
    let first = to_z-of_z w64 m (fits_signed_from_abs w64 m (omega (arith, m_below))) in
    let second = to_z-of_z w64 n (fits_signed_from_abs w64 n (omega (arith, n_below))) in
    rw (first, second) (to_z-of_z w64 (m *ℤ n)
    (fits_signed_mul w64 m n (grid_side) (grid_side) (omega (arith, m_below)) (omega (arith, n_below)) (omega arith)))

less : (a b : ℕ) → a < grid_side → b < grid_side → a * b < product_bound
less a b a_below b_below = grind (arith, a_below, b_below)

pub returns-clause-product : goal.returns-clause-product
returns-clause-product c = fits c.args.m c.args.n c.requires.m_below c.requires.n_below

pub returns-clause-below : goal.returns-clause-below
returns-clause-below c =
    let abs = unsigned_abs-mul c.args.m c.args.n in
    let bound = less (unsigned_abs c.args.m) (unsigned_abs c.args.n) c.requires.m_below c.requires.n_below in
    rw (fits c.args.m c.args.n c.requires.m_below c.requires.n_below, abs) bound
