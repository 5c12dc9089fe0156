use Rattle.std.proofs.Common.{◌∙◌, map, rules}
use Rattle.std.specs.Map.Iter.{deref}
use Rattle.std.proofs.lemmas.List.Elements.{All-contains}
use Rattle.realm_audit.specs.Shelves.{IsShelved}
use Rattle.realm_audit.proofs.Behind.{last_or, last_none, last_lent, next_lent, no_more_lent}
use Rattle.realm_audit.proofs.Searches.{next_listed, jumped_listed, all_listed}
use Rattle.realm_audit.proofs.shares.Shares.list_from.Goals as goal

-- up to the place they are listed already
pub loop-share-init : goal.loop-share-init
loop-share-init c = rw (last_none c.args.at.now) (c.requires, tt)

-- what the range lends stands where it should
pub jump_from-requires : goal.jump_from-requires
jump_from-requires c =
    let start = c.into_iter-share-iterator.ensures.into_iter_gives ∙ c.range-share-items.ensures.between (search rules) in
    let lent = next_lent c.self.inside.set c.args.at.now _ _ _ c.loop-share.yielded _ c.in-Some.share
    c.range-share-items.ensures.ordered start c.loop-share.yielded_by c.in-Some.is c.next.ensures.steps in
    All-contains IsShelved c.self.inside.set.keys c.in-Some.share.now c.self.invariant lent.0.there

-- up to where the search jumps they are listed
pub returns-in-Some-jump_from : goal.returns-in-Some-jump_from
returns-in-Some-jump_from c =
    let keys = c.self.inside.set.keys in
    let start = c.into_iter-share-iterator.ensures.into_iter_gives ∙ c.range-share-items.ensures.between (search rules) in
    let lent = next_lent c.self.inside.set c.args.at.now _ _ _ c.loop-share.yielded _ c.in-Some.share
    c.range-share-items.ensures.ordered start c.loop-share.yielded_by c.in-Some.is c.next.ensures.steps in
    let place = c.in-Some-jump_from.place in
    let share = c.in-Some.share.now in
    rw (← c.self.view_is) (record {
      listed = jumped_listed keys c.args.bounds.now (last_or c.args.at.now (map deref c.loop-share.yielded)) share place
          c.loop-share.before c.loop-share.list.items c.self.invariant lent.0 c.in-Some-jump_from.ensures.passed
          c.loop-share.invariant.1 (rw c.self.view_is c.loop-share.invariant.0);
      on = record { share = share; there = lent.0.there; behind = lent.1; up_to = c.in-Some-jump_from.ensures.ahead };
    })

-- one share more
pub loop-share-preserved : goal.loop-share-preserved
loop-share-preserved c =
    let keys = c.self.inside.set.keys in
    let start = c.into_iter-share-iterator.ensures.into_iter_gives ∙ c.range-share-items.ensures.between (search rules) in
    let lent = next_lent c.self.inside.set c.args.at.now _ _ _ c.loop-share.yielded _ c.in-Some.share
    c.range-share-items.ensures.ordered start c.loop-share.yielded_by c.in-Some.is c.next.ensures.steps in
    let adds = c.in_ok-add_reached.ensures in
    rw (last_lent c.args.at.now c.loop-share.yielded c.in-Some.share, ← c.self.view_is) (
      next_listed keys c.args.bounds.now (last_or c.args.at.now (map deref c.loop-share.yielded)) c.in-Some.share.now
          c.loop-share.list.items c.add_reached.new.list.items c.self.invariant lent.0
          (rw c.self.view_is c.loop-share.invariant.0) adds,
      adds.own,
    )

-- at the end none is left
pub returns : goal.returns
returns c =
    let keys = c.self.inside.set.keys in
    let start = c.into_iter-share-iterator.ensures.into_iter_gives ∙ c.range-share-items.ensures.between (search rules) in
    let last = last_or c.args.at.now (map deref c.loop-share.yielded) in
    let none = no_more_lent c.self.inside.set c.args.at.now _ _ _ c.loop-share.yielded _ c.range-share-items.ensures.ordered
    start c.loop-share.yielded_by c.in-None.is c.next.ensures.steps in
    rw (← c.self.view_is) (all_listed keys c.args.bounds.now last c.loop-share.list.items none
    (rw c.self.view_is c.loop-share.invariant.0))
