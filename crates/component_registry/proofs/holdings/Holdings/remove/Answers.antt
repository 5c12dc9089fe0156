use Rattle.std.proofs.Common.{◌≡◌, ◌<◌, ◌∙◌, ℕ, refl, sym, ap, subst, length, List, [], ◌∷◌, Contains, true≢false, arith}
use Rattle.component_registry.specs.Kept.{IsHeld}
use Rattle.component_registry.proofs.Seen.{sound_seen, owners_there, owners_nowhere}
use Rattle.component_registry.proofs.Changes.{puts_through, puts_none, kept_write, kept_remove, seen_again}
use Rattle.component_registry.proofs.Changes.{OneFewer, drops_write, drops_remove}
use Rattle.component_registry.proofs.holdings.Holdings.remove.Goals as goal

-- a piece that the map hasn't has no owner
pub returns-in_default-clause-found : goal.returns-in_default-clause-found
returns-in_default-clause-found c =
    let none = sym c.in_default.ensures.value in
    let nowhere = owners_nowhere c.self.inside.pieces _ c.self.view_is c.args.piece.now none in (
      λ h. cc,
      λ owner.
          let there : Contains [] c.args.id = rw nowhere at owner in
          absurd (omega (arith, there.1)),
    )

pub returns-in_default-clause-sound : goal.returns-in_default-clause-sound
returns-in_default-clause-sound c = rw c.get_mut.follows.holds-at-none (sound_seen _ _ c.self.invariant)

-- an id that isn't in the list is no owner, and the map has again what it had
pub invariant_of-self-then-not-drop_owner : goal.invariant_of-self-then-not-drop_owner
invariant_of-self-then-not-drop_owner c =
    let s = c.args.piece.now in
    let h = c.in-Some.holding.now in
    let g = c.drop_owner.new.self in
    let there = sym c.in-Some.ensures.value in
    let same = c.if-not-drop_owner.ensures.unchanged in
    let held : IsHeld g = rw same (c.self.invariant.owners s h there) in
    let put = puts_through _ _ s h g there (c.get_mut.follows.holds g) in
    kept_write _ _ _ s h g c.self.invariant there put (ap (λ x. x.key) same) held

pub returns-then-not-drop_owner-clause-found : goal.returns-then-not-drop_owner-clause-found
returns-then-not-drop_owner-clause-found c =
    let there = sym c.in-Some.ensures.value in
    rw (owners_there c.self.inside.pieces _ c.self.view_is c.args.piece.now _ there) c.if-not-drop_owner.ensures.found

pub returns-then-not-drop_owner-clause-unchanged : goal.returns-then-not-drop_owner-clause-unchanged
returns-then-not-drop_owner-clause-unchanged c =
    let s = c.args.piece.now in
    let g = c.drop_owner.new.self in
    let there = sym c.in-Some.ensures.value in
    let put = puts_through _ _ s _ g there (c.get_mut.follows.holds g) in
    seen_again _ _ s _ g there put c.if-not-drop_owner.ensures.unchanged ∙ c.self.view_is

pub returns-then-not-drop_owner-clause-sound : goal.returns-then-not-drop_owner-clause-sound
returns-then-not-drop_owner-clause-sound c = sound_seen _ _ (invariant_of-self-then-not-drop_owner c)

-- an id in the list is an owner; with its last owner the piece goes
pub invariant_of-self-then-is_unowned : goal.invariant_of-self-then-is_unowned
invariant_of-self-then-is_unowned c =
    let s = c.args.piece.now in
    let h = c.in-Some.holding.now in
    let g = c.drop_owner.new.self in
    let there = sym c.in-Some.ensures.value in
    let put = puts_none _ _ _ s h g there (c.get_mut.follows.holds g) c.remove.ensures.updates in
    let freed = rw (c.key-key.ensures ∙ c.drop_owner.ensures.key) at c.try_remove.ensures.updates in
    kept_remove _ _ _ _ s h c.self.invariant there put freed

pub returns-then-is_unowned-clause-found : goal.returns-then-is_unowned-clause-found
returns-then-is_unowned-clause-found c =
    let there = sym c.in-Some.ensures.value in
    rw (owners_there c.self.inside.pieces _ c.self.view_is c.args.piece.now _ there) c.if-not-drop_owner.ensures.found

pub returns-then-is_unowned-clause-removed : goal.returns-then-is_unowned-clause-removed
returns-then-is_unowned-clause-removed c =
    let s = c.args.piece.now in
    let h = c.in-Some.holding.now in
    let g = c.drop_owner.new.self in
    let there = sym c.in-Some.ensures.value in
    let left = c.if-not-drop_owner.ensures in
    let fewer : OneFewer c.args.id h.owners g.owners = (left.owners, left.count) in
    let last = subst (OneFewer c.args.id h.owners) (c.if-is_unowned.ensures.0 refl) fewer in
    let put = puts_none _ _ _ s h g there (c.get_mut.follows.holds g) c.remove.ensures.updates in
    drops_remove c.self.inside.pieces c.remove.new.self _ c.self.view_is s c.args.id h there put last

pub returns-then-is_unowned-clause-sound : goal.returns-then-is_unowned-clause-sound
returns-then-is_unowned-clause-sound c = sound_seen _ _ (invariant_of-self-then-is_unowned c)

-- else it stays, with the others
some_left : (owners : List ℕ) → (owners ≡ [] → ⊥) → 0 < length owners
some_left [] none = absurd (none refl)
some_left (x ∷ owners) none = omega arith

pub invariant_of-self-else-is_unowned : goal.invariant_of-self-else-is_unowned
invariant_of-self-else-is_unowned c =
    let s = c.args.piece.now in
    let h = c.in-Some.holding.now in
    let g = c.drop_owner.new.self in
    let there = sym c.in-Some.ensures.value in
    let left = c.if-not-drop_owner.ensures in
    let put = puts_through _ _ s h g there (c.get_mut.follows.holds g) in
    kept_write _ _ _ s h g c.self.invariant there put left.key (record {
      owned = some_left g.owners (λ none. true≢false (sym (c.if-is_unowned.ensures.1 none)));
      ascending = left.ascending;
    })

pub returns-else-is_unowned-clause-found : goal.returns-else-is_unowned-clause-found
returns-else-is_unowned-clause-found c =
    let there = sym c.in-Some.ensures.value in
    rw (owners_there c.self.inside.pieces _ c.self.view_is c.args.piece.now _ there) c.if-not-drop_owner.ensures.found

pub returns-else-is_unowned-clause-removed : goal.returns-else-is_unowned-clause-removed
returns-else-is_unowned-clause-removed c =
    let s = c.args.piece.now in
    let h = c.in-Some.holding.now in
    let g = c.drop_owner.new.self in
    let there = sym c.in-Some.ensures.value in
    let left = c.if-not-drop_owner.ensures in
    let fewer : OneFewer c.args.id h.owners g.owners = (left.owners, left.count) in
    let put = puts_through _ _ s h g there (c.get_mut.follows.holds g) in
    drops_write _ _ _ c.self.view_is s c.args.id h g there put left.key fewer

pub returns-else-is_unowned-clause-sound : goal.returns-else-is_unowned-clause-sound
returns-else-is_unowned-clause-sound c = sound_seen _ _ (invariant_of-self-else-is_unowned c)
