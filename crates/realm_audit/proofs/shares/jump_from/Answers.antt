use Rattle.std.proofs.Common.{◌≡◌, refl, ap, ◌∙◌, Some, rules, tests}
use Rattle.grid_base.specs.Segment.{GridSegment}
use Rattle.realm_audit.specs.declared.shares.Share.{Share}
use Rattle.realm_audit.proofs.Jumps.{passes_to_shelf, passes_own_piece}
use Rattle.realm_audit.proofs.shares.jump_from.Goals as goal

-- up to the shelf no share stands in a window
pub returns-in-Some-clause-passed : goal.returns-in-Some-clause-passed
returns-in-Some-clause-passed c =
    passes_to_shelf c.args.before c.args.bounds.now c.args.share.now c.fence.result c.in-Some.shelf c.fence.ensures
    c.in-Some.ensures.none_between

-- up to the greatest id all shares are of the piece before
pub returns-in-Some-before-clause-passed : goal.returns-in-Some-before-clause-passed
returns-in-Some-before-clause-passed c =
    let share = c.args.share.now in
    let last : Share = record { shelf = share.shelf; piece = share.piece; id = 4294967295 } in
    let same : c.in-Some-before.piece ≡ c.args.share.now.piece = search (rules, tests) in
    let is = c.in-Some-before.is ∙ ap (λ (t : GridSegment). Some t) same in
    passes_own_piece c.args.before c.args.bounds.now share last is refl refl
