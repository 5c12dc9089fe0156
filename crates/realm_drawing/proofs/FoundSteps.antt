-- This file shows that a step that a search finds at a link is for a violation, and permitted.
use Rattle.std.proofs.Common.{◌≡◌, ℕ, ◌<◌, List, length, get_or, sym, subst}
use Rattle.grid_base.specs.Point.{GridPoint}
use Rattle.grid_base.specs.Drawing.{Drawing, HasViolation}
use Rattle.grid_base.specs.declared.original.Original.{Original}
use Rattle.grid_base.specs.declared.kinds.Step.{Step}
use Rattle.hook_chain.specs.Mending.{IsPermitted}
use Rattle.realm_drawing.specs.Found.{SomeLink, MendsPiece}
use Rattle.chain_laws.proofs.Mendings.{mending_is_violation, mending_is_permitted}

-- the link at which a step was found is a piece, so the step has its parts
pub found_step : (d : Drawing) (k : ℕ) (o : Original) (chain : List GridPoint) (step : Step)
    → k < length d.originals → o ≡ get_or d.originals k o → chain ≡ o.chain
    → SomeLink (λ t. MendsPiece d t step) chain → HasViolation d × IsPermitted d step
found_step d k o chain step within at is found =
    let link = subst (SomeLink (λ t. MendsPiece d t step)) is found in
    let mending = link.3.0 in
    let parts = link.3.1 (link.2, (k, o, within, sym at, link.1)) in
    (mending_is_violation d step mending parts, mending_is_permitted d step mending parts)
