-- A registry that loses shares. No public clause cites this file.
use Rattle.std.specs.Prelude.{◌↔◌}
use Rattle.component_registry.specs.Registry.{Holdings}
use Rattle.realm_drawing.specs.declared.shares.Share.{Share}
use Rattle.realm_drawing.specs.Shares.{Held}

-- the new registry has the shares of the old one but those with P
abbrev pub LosesShares : Holdings → Holdings → (Share → Type 0) → Type 0
LosesShares old new P = (y : Share) → Held new y ↔ (Held old y × ¬ P y)
