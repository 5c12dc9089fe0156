use Rattle.std.proofs.Common.{◌≡◌, ◌↔◌, ◌++◌, ℕ, List, Err, sym, subst, inl}
use Rattle.std.proofs.lemmas.List.Elements.{Contains-append_right}
use Rattle.std.proofs.lemmas.Result.{IfOk-weaker}
use Rattle.grid_base.specs.Border.{AreNoded}
use Rattle.rose_values.specs.declared.geometry.Geometry.{Geometry}
use Rattle.rose_sets.specs.Overlays.{HasOther, IsOverlay}
use Rattle.rose_sets.specs.Sums.{all_segments}
use Rattle.rose_sets.specs.declared.error.SetError.TheVariants.{WrongTypes}
use Rattle.rose_sets.proofs.ValueLists.{any_in}
use Rattle.realm_insert.specs.Operands.{LacksName}
use Rattle.rose_query.specs.Replies.{pairs_reply}
use Rattle.rose_query.specs.Sets.{ArePresentValues, LacksSome, HasNonRegion, ShowsOverlay}
use Rattle.rose_query.proofs.PresentValues.{both_lack_none, other_kinds, both_noded}
use Rattle.rose_query.proofs.SetAnswers.{set_told}
use Rattle.rose_query.proofs.gathering.show_overlay.Goals as goal

-- all values are drawn, so their segments are those of one realm
pub overlay-requires : goal.overlay-requires
overlay-requires c =
    let are = rw c.in-Some.is at c.in_ok-a.ensures in
    let also = rw c.in-Some-2.is at c.in_ok-b.ensures in record {
      noded = subst (λ (l : List Geometry). AreNoded (all_segments l ++ all_segments c.deref-2.result.now)) (sym c.deref.ensures.value)
          (subst (λ (l : List Geometry). AreNoded (all_segments c.in-Some.a.items ++ all_segments l)) (sym c.deref-2.ensures.value)
          (both_noded c.args.state.now.state c.names.result.now c.names-2.result.now c.in-Some.a.items c.in-Some-2.b.items are also
          c.drawing.ensures.realm));
    }

-- a name of the second list is lacking
pub returns-in_default-2 : goal.returns-in_default-2
returns-in_default-2 c =
    let values = c.args.state.now.state.values in
    let lacks = subst (λ (ns : List (List ℕ)). LacksSome ns values) c.names-2.ensures (rw c.in_default-2.is at c.in_ok-b.ensures) in
    IfOk-weaker c.refuse_name-in_default-2.result _ _
    (λ reply is. inl (
      any_in (λ (n : List ℕ). LacksName n values) c.args.second.now (c.args.first.now ++ c.args.second.now)
          (Contains-append_right c.args.first.now c.args.second.now) lacks,
      is,
    ))
    c.refuse_name-in_default-2.ensures

-- what is told of their overlay answers the query
pub returns : goal.returns
returns c =
    let s = c.args.state.now.state in
    let first = c.args.first.now in
    let second = c.args.second.now in
    let a = c.in-Some.a.items in
    let b = c.in-Some-2.b.items in
    let are = subst (λ (ns : List (List ℕ)). ArePresentValues s ns a) c.names.ensures (rw c.in-Some.is at c.in_ok-a.ensures) in
    let also = subst (λ (ns : List (List ℕ)). ArePresentValues s ns b) c.names-2.ensures (rw c.in-Some-2.is at c.in_ok-b.ensures) in
    let wrong = subst (λ (l : List Geometry). (c.overlay.result ≡ Err WrongTypes) ↔ HasOther a l) c.deref-2.ensures.value
    (subst (λ (l : List Geometry). (c.overlay.result ≡ Err WrongTypes) ↔ HasOther l c.deref-2.result.now) c.deref.ensures.value
    c.overlay.ensures.wrong_types) in
    IfOk-weaker c.tell_pairs.result _ _
    (λ reply told. set_told (λ v reply. reply ≡ pairs_reply v.items) c.overlay.result (HasOther a b) s
    (λ t. LacksSome (first ++ second) t.values) (λ t. HasNonRegion (first ++ second) t.values) (ShowsOverlay first second)
    (both_lack_none s first second a b are also) (other_kinds s first second a b are also) wrong reply
    (IfOk-weaker c.overlay.result (λ v. IsOverlay c.deref.result.now c.deref-2.result.now v.items)
    (λ v. reply ≡ pairs_reply v.items → ShowsOverlay first second s reply)
    (λ v is_overlay is. record {
      a = a;
      b = b;
      are_first = are;
      are_second = also;
      noded = both_noded s first second a b are also c.drawing.ensures.realm;
      pairs = v.items;
      is_overlay = subst (λ (l : List Geometry). IsOverlay a l v.items) c.deref-2.ensures.value
          (subst (λ (l : List Geometry). IsOverlay l c.deref-2.result.now v.items) c.deref.ensures.value is_overlay);
      reply_is = is;
    }) c.overlay.ensures.overlay) told)
    c.tell_pairs.ensures
