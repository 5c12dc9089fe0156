use Rattle.std.proofs.Common.{◌≡◌, true, false, Result, Ok, Err, OnOk, OnErr, [], take, take_all, sym, subst, inl, inr}
use Rattle.std.specs.Result.{is_err}
use Rattle.grid_base.proofs.Elements.{Contains-nil}
use Rattle.component_registry.specs.Registry.{Holdings}
use Rattle.realm_drawing.specs.Fresh.{ListsFresh}
use Rattle.realm_drawing.specs.Shares.{share_of, KeepsKeys, HasMore, HasFewer}
use Rattle.realm_drawing.proofs.FreshPieces.{fresh_none, fresh_next}
use Rattle.realm_drawing.proofs.KeptKeys.{kept_with_more}
use Rattle.realm_drawing.proofs.LostShares.{KeepsKeys-itself}
use Rattle.realm_drawing.proofs.ShareChanges.{HasMore-next, taken_back}
use Rattle.realm_drawing.proofs.shares.add_shares.Goals as goal

-- what a call says of its answer where there is one, and where there is none
on_ok : {T E P : Type 0} (r : Result T E) → is_err r ≡ false → OnOk r P → P
on_ok (Ok x) ok p = p
on_ok (Err e) ok p = cc

on_err : {T E P : Type 0} (r : Result T E) → is_err r ≡ true → OnErr r P → P
on_err (Ok x) err p = cc
on_err (Err e) err p = p

-- no share yet, and nothing is new
none_yet : (r : Holdings) → HasMore r r []
none_yet r s x = (
  λ had. inl had,
  λ either. elim either [
    | inl had ↦ had
    | inr there ↦ absurd (Contains-nil (share_of s x) there)
  ],
)

pub loop-share-init : goal.loop-share-init
loop-share-init c = record {
  owners = none_yet c.args.registry.now;
  fresh = subst (ListsFresh c.args.registry.now c.args.registry.now) (sym c.new-fresh.ensures.items)
      (fresh_none c.args.registry.now);
  keys = KeepsKeys-itself c.args.registry.now;
  sound = c.requires.sound;
}

-- the share that failed left the registry with those before it, and all are taken out
pub returns-then-is_err-clause-unchanged : goal.returns-then-is_err-clause-unchanged
returns-then-is_err-clause-unchanged c =
    let shares = c.args.shares.now in
    let had = c.loop-share.invariant in
    let same = on_err _ (sym c.if-is_err.ensures.value) c.add_share.ensures.unchanged in
    let less = subst (λ r. HasFewer r c.drop_shares.new.registry shares) same c.drop_shares.ensures.owners in
    let keys = subst (λ r. KeepsKeys r c.drop_shares.new.registry) same c.drop_shares.ensures.keys in
    taken_back _ _ _ shares c.loop-share.share-index c.requires.sound c.drop_shares.ensures.sound
    c.requires.new_shares had.owners had.keys less keys

-- one share more, and what was there kept its keys
pub loop-share-preserved : goal.loop-share-preserved
loop-share-preserved c =
    let had = c.loop-share.invariant in
    let ok = sym c.if-is_err.ensures.value in
    let more = on_ok _ ok c.add_share.ensures.owners in
    let keys = on_ok _ ok c.add_share.ensures.keys in
    let listed = on_ok _ ok c.add_share.ensures.fresh in
    let before = take c.loop-share.share-index c.args.shares.now in
    record {
      owners = HasMore-next _ _ _ _ _ c.share-item.result c.loop-share-test.true c.share-item.is had.owners more;
      fresh = fresh_next _ _ _ before c.share-item.result _ _ c.requires.sound had.sound
          c.add_share.ensures.sound had.owners more keys had.fresh listed;
      keys = kept_with_more _ _ _ before c.requires.sound had.owners had.keys keys;
      sound = c.add_share.ensures.sound;
    }

-- at the end all were added
pub returns-clause-owners : goal.returns-clause-owners
returns-clause-owners c =
    let past = c.loop-share-test.false in
    rw take_all at c.loop-share.invariant.owners
