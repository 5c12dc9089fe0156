use Rattle.std.proofs.Common.{List, All, sym, subst}
use Rattle.grid_base.specs.declared.original.Original.{Original}
use Rattle.component_registry.specs.Registry.{IsPiece}
use Rattle.realm_drawing.specs.Kept.{AreKept}
use Rattle.realm_drawing.specs.Shares.{Held, HasMore, HasFewer}
use Rattle.realm_drawing.proofs.FreshPieces.{fresh_left}
use Rattle.realm_drawing.proofs.KeptKeys.{kept_with_fewer}
use Rattle.chain_laws.proofs.RedrawnOriginals.{redrawn_ascending, redrawn_all_valid}
use Rattle.realm_drawing.proofs.SharesOfSteps.{gained_are_new}
use Rattle.realm_drawing.proofs.StepShares.{lost_were_pieces}
use Rattle.realm_drawing.proofs.StepOwners.{ChangesShares, owners_redrawn}
use Rattle.realm_drawing.proofs.redrawing.put_paths.Goals as goal

-- what an original gains it doesn't own yet
pub add_shares-requires : goal.add_shares-requires
add_shares-requires c =
    let new =
    gained_are_new c.args.step.now c.args.registry.now c.in_ok-plan.plan.more.items c.requires.step c.in_ok-plan.ensures.more in
    record {
      sound = c.requires.kept.sound;
      new_shares = subst (All (λ y. Held c.args.registry.now y → ⊥)) (sym c.as_slice.ensures.value) new;
    }

-- without memory for the shares nothing has changed
pub returns-in_err-fresh-clause-kept : goal.returns-in_err-fresh-clause-kept
returns-in_err-fresh-clause-kept c =
    subst (AreKept c.args.originals.now) (sym c.in_err-fresh.ensures.unchanged) c.requires.kept

-- the originals are those of the step, their chains may stand for them, and their pieces are theirs
pub returns-clause-kept : goal.returns-clause-kept
returns-clause-kept c =
    let step = c.args.step.now in
    let old = c.args.registry.now in
    let mid = c.add_shares.new.registry in
    let new = c.drop_shares.new.registry in
    let changes : ChangesShares step old mid new = record {
      gained = c.in_ok-plan.plan.more.items;
      lost = c.in_ok-plan.plan.less.items;
      lists_gained = c.in_ok-plan.ensures.more;
      lists_lost = c.in_ok-plan.ensures.less;
      more = subst (HasMore old mid) c.as_slice.ensures.value c.in_ok-fresh.ensures.owners;
      less = subst (HasFewer mid new) c.as_slice-2.ensures.value c.drop_shares.ensures.owners;
    } in
    let originals = c.args.originals.now in
    subst (λ (changed : List Original). AreKept changed new) (sym c.install.ensures) (record {
      ids_rise = redrawn_ascending step originals c.requires.kept.ids_rise;
      all_valid = redrawn_all_valid step originals c.requires.step c.requires.kept.all_valid;
      sound = c.drop_shares.ensures.sound;
      owners = owners_redrawn step originals old mid new c.requires.step c.requires.kept.owners changes;
    })

-- a piece that stays was there all the time
pub returns-clause-keys : goal.returns-clause-keys
returns-clause-keys c =
    kept_with_fewer c.args.registry.now c.add_shares.new.registry c.drop_shares.new.registry c.as_slice-2.result.now
    c.drop_shares.ensures.sound c.drop_shares.ensures.owners c.in_ok-fresh.ensures.keys c.drop_shares.ensures.keys

-- what was listed as new stays, since only pieces that were there lose owners
pub returns-clause-fresh : goal.returns-clause-fresh
returns-clause-fresh c =
    let gone = lost_were_pieces c.args.step.now c.args.registry.now c.in_ok-plan.plan.less.items c.requires.step
    c.in_ok-plan.ensures.less in
    fresh_left c.args.registry.now c.add_shares.new.registry c.drop_shares.new.registry c.as_slice-2.result.now _
    c.in_ok-fresh.ensures.sound c.drop_shares.ensures.sound
    (subst (All (λ y. IsPiece c.args.registry.now y.piece)) (sym c.as_slice-2.ensures.value) gone)
    c.drop_shares.ensures.owners c.drop_shares.ensures.keys c.in_ok-fresh.ensures.fresh
