use Rattle.std.proofs.Common.{List, sym, subst}
use Rattle.std.proofs.lemmas.Result.{on_ok_weaker}
use Rattle.grid_base.specs.Drawing.{Drawing}
use Rattle.grid_base.specs.declared.original.Original.{Original}
use Rattle.hook_chain.specs.Steps.{Permitted}
use Rattle.realm_drawing.proofs.DrawnAnew.{kept_with_points, draws_anew_if}
use Rattle.realm_drawing.proofs.KeptPieces.{KeepsKeys-itself, keys_are_kept, kept_keyed}
use Rattle.chain_laws.proofs.Mendings.{permitted_mends}
use Rattle.chain_laws.proofs.StandingChains.{all_stand}
use Rattle.realm_drawing.proofs.drawing.Drawing.take.Goals as goal

-- a step that is permitted mends
pub redrawings_of-requires : goal.redrawings_of-requires
redrawings_of-requires c = (permitted_mends _ _ _ c.requires.permitted.1).0

-- without memory for the paths all is as it was
pub returns-in_err-redrawings-clause-stand : goal.returns-in_err-redrawings-clause-stand
returns-in_err-redrawings-clause-stand c = rw (← c.self.view_is) (all_stand _ c.self.invariant.all_valid)

pub returns-in_err-redrawings-clause-keyed : goal.returns-in_err-redrawings-clause-keyed
returns-in_err-redrawings-clause-keyed c = rw (← c.self.view_is) (kept_keyed _ _ _ c.self.invariant)

pub returns-in_err-redrawings-clause-keys : goal.returns-in_err-redrawings-clause-keys
returns-in_err-redrawings-clause-keys c =
    let inside = c.self.inside in
    rw (← c.self.view_is) (KeepsKeys-itself inside.explicit inside.originals inside.registry)

-- the paths are in the place of the pieces
pub returns-clause-ok : goal.returns-clause-ok
returns-clause-ok c =
    let inside = c.self.inside in
    let step = c.args.step.now in
    let d : Drawing = record { points = inside.explicit; originals = inside.originals } in
    let permitted = rw (← c.self.view_is) at c.requires.permitted in
    let parts = (permitted_mends d _ _ permitted.1).1 in
    rw (← c.self.view_is)
    (on_ok_weaker _
    (λ is. subst (λ (os : List Original). Permitted d step (record { points = inside.explicit; originals = os })) (sym is)
    (c.in_ok-redrawings.ensures.leads d parts))
    c.put_paths.ensures.ok)

-- what the registry comes to have is drawn anew
pub returns-clause-anew : goal.returns-clause-anew
returns-clause-anew c =
    let inside = c.self.inside in
    let new = c.put_paths.new.originals in
    let kept = kept_with_points inside.explicit new _ c.self.invariant.points_ascend c.put_paths.ensures.kept in
    rw (← c.self.view_is)
    (draws_anew_if c.args.step.now _ inside.explicit inside.originals new _ _ _ c.in_ok-redrawings.ensures
    c.self.invariant kept c.put_paths.ensures.ok c.put_paths.ensures.fresh)

-- what is true at any time holds again
pub returns-clause-stand : goal.returns-clause-stand
returns-clause-stand c = all_stand _ c.put_paths.ensures.kept.all_valid

pub returns-clause-keyed : goal.returns-clause-keyed
returns-clause-keyed c =
    kept_keyed c.self.inside.explicit _ _
    (kept_with_points _ _ _ c.self.invariant.points_ascend c.put_paths.ensures.kept)

-- the pieces that stay keep their keys in the registry, and so in the drawing
pub returns-clause-keys : goal.returns-clause-keys
returns-clause-keys c =
    let inside = c.self.inside in
    let new = c.put_paths.new.originals in
    rw (← c.self.view_is)
    (keys_are_kept inside.explicit inside.explicit inside.originals new _ _ c.put_paths.ensures.keys)
