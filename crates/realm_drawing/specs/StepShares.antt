-- Which shares a step adds and takes away. No public clause cites this file.
use Rattle.std.specs.Prelude.{◌↔◌, List, Contains}
use Rattle.component_registry.specs.Registry.{Holdings, owners_of}
use Rattle.chain_laws.specs.Redraws.{AnyOf}
use Rattle.chain_laws.specs.declared.redrawing.Redrawings.{Redrawings}
use Rattle.realm_drawing.specs.declared.shares.Share.{Share}
use Rattle.realm_drawing.specs.Shares.{IsGained, IsLost}

-- y is a share that an original gains by the step
abbrev pub IsGainedBy : Holdings → Redrawings → Share → Type 0
IsGainedBy r step y = AnyOf step (λ q. IsGained r (owners_of r q.piece) q.path y)

-- y is a share that an original loses by the step
abbrev pub IsLostBy : Holdings → Redrawings → Share → Type 0
IsLostBy r step y = AnyOf step (λ q. IsLost (owners_of r q.piece) q.piece q.path y)

-- the list has the shares with P, and no others
abbrev pub Lists : List Share → (Share → Type 0) → Type 0
Lists list P = (y : Share) → Contains list y ↔ P y
