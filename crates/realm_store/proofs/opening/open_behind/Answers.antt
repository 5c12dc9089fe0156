use Rattle.std.proofs.Common.{ap, subst}
use Rattle.realm_store.specs.Keeping.{Kept}
use Rattle.realm_store.proofs.Openings.{none_have_texts, none_lead_to, none_opened}
use Rattle.realm_store.specs.Opening.{IsBase}
use Rattle.realm_store.proofs.opening.open_behind.Goals as goal

-- no file counts,
pub returns-in-None-clause-with_text : goal.returns-in-None-clause-with_text
returns-in-None-clause-with_text g c = none_have_texts c.new.ensures.items c.new-in-None.ensures

pub returns-in-None-clause-leads : goal.returns-in-None-clause-leads
returns-in-None-clause-leads g c = none_lead_to (ap (λ (k : Kept). k.state) c.of.ensures.kept) c.new.ensures.items c.new-in-None.ensures

pub returns-in-None-clause-told : goal.returns-in-None-clause-told
returns-in-None-clause-told g c = λ t base.
    none_opened (subst (λ p. IsBase (g.W.Outside.view c.args.world.now).reads c.args.base.engine.state p) c.in-None.is base)
    c.of.ensures.kept c.new.ensures.items c.new-in-None.ensures

-- or the newest has a place
pub returns-in-Some-clause-told : goal.returns-in-Some-clause-told
returns-in-Some-clause-told g c = λ t base.
    let at_place = subst (λ p. IsBase (g.W.Outside.view c.args.world.now).reads c.args.base.engine.state p) c.in-Some.is base in
    c.open_records.ensures.told t at_place
