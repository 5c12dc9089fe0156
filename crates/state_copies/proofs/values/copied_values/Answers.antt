use Rattle.std.proofs.Common.{◌∷◌, [], arith, ◌∙◌}
use Rattle.std.specs.Map.Iter.{deref}
use Rattle.std.proofs.lemmas.List.{map-append}
use Rattle.std.proofs.lemmas.Map.Views.{All-turn}
use Rattle.line_grammar.specs.Spellable.{IsName}
use Rattle.record_codec.specs.Payload.{IsNamed, AreOfKind}
use Rattle.value_table.specs.declared.definitions.Definition.{Definition}
use Rattle.state_check.specs.Tabled.{kept_parts}
use Rattle.state_check.proofs.Copying.{fits_as_list}
use Rattle.state_copies.proofs.NamedValues.{one_more_named}
use Rattle.state_copies.proofs.values.copied_values.Goals as goal

-- one more is listed
pub loop-definition-preserved : goal.loop-definition-preserved
loop-definition-preserved c =
    let so_far = c.loop-definition.yielded in
    let start = c.into_iter-definition-iterator.ensures.into_iter_gives ∙ c.definitions-definition-items.ensures.definitions in
    let has = All-turn deref (λ (d : Definition). IsName d.0 × AreOfKind d.1.kind (kept_parts d.1.parts)) c.args.table.now so_far
    _ _ _ _ c.in-Some.definition c.requires start c.loop-definition.yielded_by c.in-Some.is c.next.ensures.steps in
    one_more_named _ _ c.in-Some.definition.now c.in_ok-n.n c.loop-definition.list.items _ has c.in_ok-n.ensures.same
    c.in_ok-n.ensures.ascend c.in_ok-n.ensures.fits c.in_ok-push.ensures.items
    (map-append deref so_far (c.in-Some.definition ∷ [])) c.loop-definition.invariant

-- a list in memory isn't too long for a text
pub returns-clause-fits : goal.returns-clause-fits
returns-clause-fits c =
    fits_as_list IsNamed c.loop-definition.list.items
    (omega (arith, c.loop-definition.list.small, c.loop-definition.list.ok)) c.loop-definition.invariant.fit
