use Rattle.std.proofs.Common.{Contains, subst}
use Rattle.realm_drawing.specs.Redraws.{AddsReplacements}
use Rattle.realm_drawing.specs.Shares.{ListsAlso, IsGained, IsLost}
use Rattle.realm_drawing.proofs.redrawing.plan_one.Goals as goal

-- the owners are those of the piece
pub returns : goal.returns
returns c =
    let is = c.owners_of-owners.ensures.owners in
    let one = c.args.one.now in
    let originals = c.args.originals.now in
    let more = rw c.points.ensures at c.in_ok-gained.ensures.ok in
    let less = rw c.points-2.ensures at c.in_ok-lost.ensures.ok in
    record {
      chains = subst (λ ids. AddsReplacements c.args.step.now originals (Contains ids) c.args.plan.now.chains.items
          c.replace_owners.new.list.items) is c.in_ok-replace_owners.ensures;
      more = subst (λ ids. ListsAlso c.args.plan.now.more.items c.gained.new.list.items
          (IsGained c.args.registry.now ids one.path)) is more;
      less = subst (λ ids. ListsAlso c.args.plan.now.less.items c.lost.new.list.items (IsLost ids one.piece one.path))
          is less;
    }
