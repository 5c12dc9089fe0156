use Rattle.std.proofs.Common.{List, refl, sym, ap}
use Rattle.grid_base.specs.declared.original.Original.{Original}
use Rattle.realm_drawing.specs.Kept.{drawn}
use Rattle.chain_laws.proofs.Filters.{none_to_remove}
use Rattle.realm_drawing.proofs.KeptChanges.{kept_without}
use Rattle.realm_drawing.proofs.KeptPieces.{KeepsKeys-itself, keys_are_kept}
use Rattle.realm_drawing.proofs.drawing.Drawing.remove.Goals as goal

-- ---- none has the id
-- all stay
pub returns-in_default-clause-removed : goal.returns-in_default-clause-removed
returns-in_default-clause-removed c =
    let inside = c.self.inside in
    let lacks = c.in_default.ensures.none.0 refl in
    let with = λ (list : List Original). (drawn inside.explicit list inside.registry).drawing in
    rw (← c.self.view_is) (ap with (sym (none_to_remove inside.originals c.args.id lacks)))

pub returns-in_default-clause-keys : goal.returns-in_default-clause-keys
returns-in_default-clause-keys c =
    let inside = c.self.inside in
    rw (← c.self.view_is) (KeepsKeys-itself inside.explicit inside.originals inside.registry)

-- ---- the original that was found goes
-- its shares were those of the links of its chain
pub invariant_of-self : goal.invariant_of-self
invariant_of-self c =
    let inside = c.self.inside in
    rw c.take.ensures
    (kept_without inside.explicit inside.originals _ _ c.self.invariant c.args.id _ c.in-Some.ensures.chain
    c.drop_chain.ensures.owners c.drop_chain.ensures.sound)

-- the other pieces keep their keys
pub returns-clause-keys : goal.returns-clause-keys
returns-clause-keys c =
    let inside = c.self.inside in
    let fewer = c.take.new.self in
    rw (← c.self.view_is)
    (keys_are_kept inside.explicit inside.explicit inside.originals fewer _ _ c.drop_chain.ensures.keys)
