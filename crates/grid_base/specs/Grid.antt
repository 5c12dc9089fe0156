-- How wide the grid is, in one place, and the bounds that follow from it. In code it is the constant `GRID_BITS`.
use Rattle.std.specs.Prelude.{ℕ, ◌+◌, ◌*◌, ◌^◌}

-- how many bits a coordinate has
abbrev pub grid_bits : ℕ
grid_bits = 30

-- how many columns the grid has, and how many rows: each coordinate is below
abbrev pub grid_side : ℕ
grid_side = 2 ^ grid_bits

-- the product of two differences of coordinates is below
abbrev pub product_bound : ℕ
product_bound = 2 ^ (2 * grid_bits)

-- a side number is below, being the difference of two such products
abbrev pub side_bound : ℕ
side_bound = 2 ^ (2 * grid_bits + 1)

-- a numerator of a crossing is below
abbrev pub numerator_bound : ℕ
numerator_bound = 2 ^ (3 * grid_bits + 3)
