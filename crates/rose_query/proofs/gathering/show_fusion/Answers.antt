use Rattle.std.proofs.Common.{◌≡◌, ◌↔◌, ◌∙◌, ℕ, List, Err, length, sym, ap, subst}
use Rattle.std.proofs.lemmas.Result.{IfOk-weaker}
use Rattle.grid_base.specs.Border.{AreNoded}
use Rattle.rose_values.specs.declared.geometry.Geometry.{Geometry}
use Rattle.rose_sets.specs.Fusions.{IsFusion}
use Rattle.rose_sets.specs.Sums.{all_segments, AreMixed}
use Rattle.rose_sets.specs.declared.error.SetError.TheVariants.{WrongTypes}
use Rattle.rose_query.specs.Sets.{ArePresentValues, LacksSome, HasMixedKinds, ShowsFusion, names_of, keys_of}
use Rattle.rose_query.specs.ToldSets.{ListsGroups}
use Rattle.rose_query.proofs.PresentValues.{lacks_none, mixed_kinds, present_noded, one_key_each}
use Rattle.rose_query.proofs.SetAnswers.{set_told}
use Rattle.rose_query.proofs.gathering.show_fusion.Goals as goal

-- all values are drawn, so their segments are those of one realm
pub fusion-requires-clause-noded : goal.fusion-requires-clause-noded
fusion-requires-clause-noded c =
    let are = rw c.in-Some.is at c.in_ok-list.ensures in
    subst (λ (l : List Geometry). AreNoded (all_segments l)) (sym c.deref.ensures.value)
    (present_noded c.args.state.now.state (names_of c.names-entries.result.now) c.in-Some.list.items are c.drawing.ensures.realm)

-- each value has a key
pub fusion-requires-clause-one_each : goal.fusion-requires-clause-one_each
fusion-requires-clause-one_each c =
    let are = rw c.in-Some.is at c.in_ok-list.ensures in
    ap (λ (l : List ℕ). length l) (c.deref-in-Some.ensures.value ∙ c.in_ok-keys-in-Some.ensures)
    ∙ one_key_each c.args.state.now.state c.names-entries.result.now c.in-Some.list.items are
    ∙ sym (ap (λ (l : List Geometry). length l) c.deref.ensures.value)

-- what is told of their fusion answers the query
pub returns-in_ok-keys-in-Some : goal.returns-in_ok-keys-in-Some
returns-in_ok-keys-in-Some c =
    let s = c.args.state.now.state in
    let entries = c.args.entries.now in
    let names = names_of entries in
    let list = c.in-Some.list.items in
    let are = subst (λ (es : List (List ℕ × ℕ)). ArePresentValues s (names_of es) list) c.names-entries.ensures
    (rw c.in-Some.is at c.in_ok-list.ensures) in
    let keys = c.deref-in-Some.ensures.value ∙ c.in_ok-keys-in-Some.ensures ∙ ap keys_of c.names-entries.ensures in
    let wrong = subst (λ (l : List Geometry). (c.fusion.result ≡ Err WrongTypes) ↔ AreMixed l) c.deref.ensures.value
    c.fusion.ensures.wrong_types in
    IfOk-weaker c.tell_groups.result _ _
    (λ reply told. set_told (λ v reply. ListsGroups v.items reply) c.fusion.result (AreMixed list) s (λ t. LacksSome names t.values)
    (λ t. HasMixedKinds names t.values) (ShowsFusion entries) (lacks_none s names list are) (mixed_kinds s names list are) wrong reply
    (IfOk-weaker c.fusion.result (λ v. IsFusion c.deref.result.now c.deref-in-Some.result.now v.items)
    (λ v. ListsGroups v.items reply → ShowsFusion entries s reply)
    (λ v is_fusion lists. record {
      values = list;
      are_present = are;
      noded = present_noded s names list are c.drawing.ensures.realm;
      groups = v.items;
      is_fusion = subst (λ (l : List Geometry). IsFusion l (keys_of entries) v.items) c.deref.ensures.value
          (subst (λ (ks : List ℕ). IsFusion c.deref.result.now ks v.items) keys is_fusion);
      ascending = lists.0;
      reply_is = lists.1;
    }) c.fusion.ensures.fusion) told)
    c.tell_groups.ensures
