use Rattle.std.proofs.Common.{Bool, subst, true}
use Rattle.grid_rational.specs.Meeting.{IsCornerOf}
use Rattle.grid_rational.proofs.Meetings.{corner-swap}
use Rattle.grid_base.specs.declared.kinds.Step.TheVariants.{Corner}
use Rattle.chain_laws.proofs.Mendings.{mends_corner, mends_swapped}
use Rattle.chain_laws.proofs.mending.corner_step.Goals as goal

-- the rising one is the second
pub returns-then-falling_first : goal.returns-then-falling_first
returns-then-falling_first c =
    let s = c.args.first in
    let t = c.args.second in
    let z = c.requires.0 in
    let corner = subst (λ (b : Bool). IsCornerOf s t z b) c.if-falling_first.true c.requires.1 in
    mends_swapped s t (Corner t s) (mends_corner t s z (corner-swap s t z true corner))
