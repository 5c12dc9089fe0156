-- Originals that lead by one chain: two parcels with one border.
use Rattle.std.specs.Prelude.{ℕ, List}
use Rattle.grid_base.specs.Point.{GridPoint}
use Rattle.grid_base.specs.Drawing.{Drawing}
use Rattle.hook_chain.specs.Ids.{IsChainOf}

-- the originals with the ids m and n have one chain in d
abbrev pub HaveOneChain : Drawing → ℕ → ℕ → Type 0
HaveOneChain d m n = (chain : List GridPoint) × IsChainOf d m chain × IsChainOf d n chain
