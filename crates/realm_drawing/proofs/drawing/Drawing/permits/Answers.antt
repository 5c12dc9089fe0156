use Rattle.chain_laws.proofs.Mendings.{mending_is_permitted, permitted_mends}
use Rattle.realm_drawing.proofs.drawing.Drawing.permits.Goals as goal

-- a step that mends, and whose parts are there, is permitted, and no other
pub returns-then-has_parts-clause-permitted : goal.returns-then-has_parts-clause-permitted
returns-then-has_parts-clause-permitted c =
    let d = c.args.self.now.drawing in
    let step = c.args.step.now in
    let parts = c.has_parts.ensures.0 c.if-has_parts.true in (
      λ mends. mending_is_permitted d step (c.is_mending.ensures.0 mends) parts,
      λ permitted. c.is_mending.ensures.1 (permitted_mends d _ step permitted.1).0,
    )
