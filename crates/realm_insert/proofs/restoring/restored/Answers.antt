use Rattle.std.proofs.Common.{sym, subst}
use Rattle.grid_base.specs.Drawing.{Drawing, IsDrawnRealm}
use Rattle.state_check.specs.Drawable.{IsDrawable}
use Rattle.state_check.specs.Tabled.{entries_of, AreTabled}
use Rattle.realm_insert.proofs.restoring.restored.Goals as goal

pub index_at_rest-requires : goal.index_at_rest-requires
index_at_rest-requires c = record { valid = (rw c.in-Some.is at c.in_ok-made.ensures).1.chains }

-- the drawing can't be made
pub returns-in_default : goal.returns-in_default
returns-in_default c = λ parts. (rw c.in_default.is at c.in_ok-made.ensures) parts.drawable

-- it is no realm
pub returns-in_default-settled : goal.returns-in_default-settled
returns-in_default-settled c = λ parts.
    let drawn = (rw c.in-Some.is at c.in_ok-made.ensures).0 in
    (rw c.in_default-settled.is at c.in_ok-settled.ensures) (subst IsDrawnRealm (sym drawn) parts.realm)

-- a value can't be defined
pub returns-in_default-tabled : goal.returns-in_default-tabled
returns-in_default-tabled c = λ parts.
    let drawn = (rw c.in-Some.is at c.in_ok-made.ensures).0 in
    (rw c.in_default-tabled.is at c.in_ok-tabled.ensures)
    (subst (λ (d : Drawing). AreTabled d (entries_of c.args.s.now.values)) (sym drawn) parts.tabled)

-- all are made
pub returns : goal.returns
returns c =
    let s = c.args.s.now in
    let (drawn, drawable) = rw c.in-Some.is at c.in_ok-made.ensures in
    let (rest, realm) = rw c.in-Some-settled.is at c.in_ok-settled.ensures in
    let (named, tabled) = rw c.in-Some-tabled.is at c.in_ok-tabled.ensures in
    record {
      drawing = drawn;
      named = named;
      rest = rest;
      parts = record {
        drawable = subst IsDrawable drawn drawable;
        realm = subst IsDrawnRealm drawn realm;
        tabled = subst (λ (d : Drawing). AreTabled d (entries_of s.values)) drawn
            (subst (AreTabled c.in-Some.drawing.drawing) named tabled);
      };
    }
