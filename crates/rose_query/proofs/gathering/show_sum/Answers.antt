use Rattle.std.proofs.Common.{◌≡◌, ◌↔◌, ℕ, List, Err, sym, subst}
use Rattle.std.proofs.lemmas.Result.{IfOk-weaker}
use Rattle.grid_base.specs.Border.{AreNoded}
use Rattle.rose_values.specs.declared.geometry.Geometry.{Geometry}
use Rattle.rose_sets.specs.Sums.{all_segments, AreMixed, IsSum}
use Rattle.rose_sets.specs.declared.error.SetError.TheVariants.{WrongTypes}
use Rattle.rose_query.specs.Sets.{ArePresentValues, LacksSome, HasMixedKinds, ShowsSum}
use Rattle.rose_query.specs.ToldSets.{ListsSum}
use Rattle.rose_query.proofs.PresentValues.{lacks_none, mixed_kinds, present_noded}
use Rattle.rose_query.proofs.SetAnswers.{set_told}
use Rattle.rose_query.proofs.gathering.show_sum.Goals as goal

-- all values are drawn, so their segments are those of one realm
pub sum-requires : goal.sum-requires
sum-requires c =
    let are = rw c.in-Some.is at c.in_ok-list.ensures in record {
      noded = subst (λ (l : List Geometry). AreNoded (all_segments l)) (sym c.deref.ensures.value)
          (present_noded c.args.state.now.state c.names.result.now c.in-Some.list.items are c.drawing.ensures.realm);
    }

-- what is told of their sum answers the query
pub returns-in-Some : goal.returns-in-Some
returns-in-Some c =
    let s = c.args.state.now.state in
    let names = c.args.names.now in
    let list = c.in-Some.list.items in
    let are = subst (λ (ns : List (List ℕ)). ArePresentValues s ns list) c.names.ensures (rw c.in-Some.is at c.in_ok-list.ensures) in
    let wrong = subst (λ (l : List Geometry). (c.sum.result ≡ Err WrongTypes) ↔ AreMixed l) c.deref.ensures.value
    c.sum.ensures.wrong_types in
    IfOk-weaker c.list_sum.result _ _
    (λ reply told. set_told ListsSum c.sum.result (AreMixed list) s (λ t. LacksSome names t.values) (λ t. HasMixedKinds names t.values)
    (ShowsSum names) (lacks_none s names list are) (mixed_kinds s names list are) wrong reply
    (IfOk-weaker c.sum.result (λ made. IsSum c.deref.result.now made) (λ made. ListsSum made reply → ShowsSum names s reply)
    (λ made is_sum lists. record {
      values = list;
      are_present = are;
      noded = present_noded s names list are c.drawing.ensures.realm;
      made = made;
      is_sum = subst (λ (l : List Geometry). IsSum l made) c.deref.ensures.value is_sum;
      ascending = lists.0;
      reply_is = lists.1;
    }) c.sum.ensures.sum) told)
    c.list_sum.ensures
