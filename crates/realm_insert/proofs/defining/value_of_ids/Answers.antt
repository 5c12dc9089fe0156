use Rattle.std.proofs.Common.{List, ℕ, ◌+◌, ◌<◌, [], ◌∷◌, ◌++◌, AllPairs, sym, ap, subst, ◌∙◌}
use Rattle.realm_insert.proofs.RisingIds.{ids_next, ids_rise}
use Rattle.realm_insert.proofs.defining.value_of_ids.Goals as goal

-- one id more is listed
pub loop-k-preserved : goal.loop-k-preserved
loop-k-preserved c =
    c.in_ok-push.ensures.items
    ∙ ap (λ (l : List ℕ). l ++ (c.args.first + c.loop-k.k) ∷ []) c.loop-k.invariant ∙ sym (ids_next c.args.first c.loop-k.k)

-- ids in a row rise
pub new-requires : goal.new-requires
new-requires c =
    subst (AllPairs (λ j k. j < k)) (sym c.loop-k.invariant) (ids_rise c.args.first c.loop-k.k)
