use Rattle.std.proofs.Common.{ℕ, ◌-◌, ◌/◌, ◌<◌, ◌≤◌, sym, subst}
use Rattle.std.specs.Int.{leading_zeros, w32}
use Rattle.realm_audit.specs.Shelves.{extent, reach_of, top_level}
use Rattle.realm_audit.proofs.Levels.{level_fits, level_within}
use Rattle.realm_audit.proofs.shelves.level_of.Goals as goal

-- the level is half of how many binary digits the extent has beyond three
pub returns-clause-fits : goal.returns-clause-fits
returns-clause-fits c =
    let reach = c.extent_of.result in
    subst (λ (k : ℕ). extent c.args.piece.now < reach_of (k / 2)) (sym c.saturating_sub.ensures)
    (subst (λ (n : ℕ). n < reach_of ((29 - leading_zeros w32 reach) / 2)) c.extent_of.ensures.extent
    (level_fits reach c.extent_of.ensures.below))

pub returns-clause-below : goal.returns-clause-below
returns-clause-below c =
    subst (λ (k : ℕ). k / 2 ≤ top_level) (sym c.saturating_sub.ensures)
    (level_within c.extent_of.result c.extent_of.ensures.below)
