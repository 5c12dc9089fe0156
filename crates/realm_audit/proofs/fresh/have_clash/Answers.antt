use Rattle.std.proofs.Common.{refl, sym, ◌∙◌, inl, inr, true≢false}
use Rattle.realm_audit.specs.Clashes.{HasClash, IsExplicitInPiece}
use Rattle.realm_audit.proofs.Sought.{none_more, none_at_end, some_here}
use Rattle.realm_audit.proofs.GroupedPieces.{first_or_rest, first_has}
use Rattle.realm_audit.proofs.fresh.have_clash.Goals as goal

-- a piece of the group takes part in a violation
pub returns-then-branch : goal.returns-then-branch
returns-then-branch c =
    let some = first_has (HasClash c.args.explicit.now c.args.shares.now) _ _ _ c.split_at.ensures.front
    (c.in_ok-some_clashes.ensures.0 c.if-branch.true) in
    (λ holds. inl (c.loop-rest.invariant.1 some), λ either. refl)

-- or none does
pub loop-rest-preserved : goal.loop-rest-preserved
loop-rest-preserved c =
    let later = first_or_rest (HasClash c.args.explicit.now c.args.shares.now) _ _ _ _ c.split_at.ensures.front
    c.split_at.ensures.back
    (λ clash. true≢false (sym (c.in_ok-some_clashes.ensures.1 clash) ∙ c.if-branch.false)) in
    (λ some. later.0 (c.loop-rest.invariant.0 some), λ some. c.loop-rest.invariant.1 (later.1 some))

-- the point is inside a piece
pub returns-then-branch-2 : goal.returns-then-branch-2
returns-then-branch-2 c =
    let at = some_here (IsExplicitInPiece c.args.explicit.now c.args.shares.now) c.args.points.now c.loop-p.p-index c.p-item.result
    c.loop-p-test.true c.p-item.is (c.in_ok-is_explicit_in_piece.ensures.0 c.if-branch-2.true) in
    (λ holds. inr at, λ some. refl)

-- or it isn't
pub loop-p-preserved : goal.loop-p-preserved
loop-p-preserved c = record {
  no_piece = c.loop-p.invariant.no_piece;
  no_point = none_more (IsExplicitInPiece c.args.explicit.now c.args.shares.now) c.args.points.now c.loop-p.p-index c.p-item.result
      c.loop-p-test.true c.p-item.is c.loop-p.invariant.no_point
      (λ stuck. true≢false (sym (c.in_ok-is_explicit_in_piece.ensures.1 stuck) ∙ c.if-branch-2.false));
}

-- nothing that is fresh takes part in one
pub returns : goal.returns
returns c =
    let no_point = none_at_end (IsExplicitInPiece c.args.explicit.now c.args.shares.now) c.args.points.now c.loop-p.p-index
    c.loop-p-test.false c.loop-p.invariant.no_point in (
      λ no. absurd (true≢false (sym no)),
      λ either. elim either [
        | inl piece ↦ absurd (c.loop-p.invariant.no_piece piece)
        | inr point ↦ absurd (no_point point)
      ],
    )
