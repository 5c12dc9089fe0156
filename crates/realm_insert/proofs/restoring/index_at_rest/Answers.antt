use Rattle.std.proofs.Common.{◌↔◌, List, Contains, sym, subst}
use Rattle.grid_base.specs.Segment.{GridSegment}
use Rattle.grid_base.specs.Drawing.{IsPiece}
use Rattle.realm_insert.proofs.RestoredIndex.{all_covered}
use Rattle.realm_insert.proofs.restoring.index_at_rest.Goals as goal

-- all pieces are listed
pub index_of-requires-clause-all : goal.index_of-requires-clause-all
index_of-requires-clause-all c = λ t.
    subst (λ (l : List GridSegment). Contains l t ↔ IsPiece c.args.drawing.now.drawing t) (sym c.as_slice.ensures.value)
    (c.in_ok-pieces.ensures.exact t)

pub is_settled-requires : goal.is_settled-requires
is_settled-requires c = record {
  indexed = c.in_ok-index.ensures;
  keyed = c.piece-keyed.ensures.keyed;
  valid = c.requires.valid;
  covered = all_covered c.args.drawing.now.drawing c.in_ok-pieces.pieces.items c.in_ok-pieces.ensures.exact;
}

-- a violation is left
pub returns-then-not-settled : goal.returns-then-not-settled
returns-then-not-settled c = λ realm.
    let violated = rw c.if-not-settled.true at c.in_ok-settled.ensures in
    c.settled_is_realm.ensures.settled c.args.drawing.now.drawing realm violated

-- none is left
pub returns : goal.returns
returns c =
    let none = rw c.if-not-settled.false at c.in_ok-settled.ensures in (
      record {
        settled = none;
        valid = c.requires.valid;
        keyed = c.piece-keyed.ensures.keyed;
        indexed = c.in_ok-index.ensures;
      },
      c.settled_is_realm.ensures.realm c.args.drawing.now.drawing none,
    )
