use Rattle.std.proofs.Common.{rules, ◌≡◌, List, sym, subst, ◌∙◌}
use Rattle.std.proofs.lemmas.List.{nil_from_length}
use Rattle.realm_drawing.specs.declared.redrawing.Replacement.{Replacement}
use Rattle.realm_drawing.proofs.Installations.{IsInstalling, none_installed, one_installed, all_installed}
use Rattle.realm_drawing.proofs.redrawing.install.Goals as goal

-- nothing is put in yet
pub loop-replacement-init : goal.loop-replacement-init
loop-replacement-init c =
    let whole : c.into_iter-replacement-iterator.result.rest.items ≡ c.args.list.items = search rules in
    rw whole (none_installed c.args.step.now c.args.originals.now c.args.list.items c.requires)

-- the first of them is put in its place
pub loop-replacement-preserved : goal.loop-replacement-preserved
loop-replacement-preserved c =
    let step = c.args.step.now in
    let old = c.args.originals.now in
    let now = c.loop-replacement.originals in
    let before = subst (λ (rest : List Replacement). IsInstalling step old now rest) c.in-Some.ensures.steps.0
    c.loop-replacement.invariant in
    rw c.rechain.ensures (one_installed step old now c.in-Some.replacement c.next.new.self.rest.items before)

-- none is left
pub returns : goal.returns
returns c =
    let step = c.args.step.now in
    let old = c.args.originals.now in
    let now = c.loop-replacement.originals in
    let rest = c.loop-replacement.replacement-iterator.rest in
    let none = nil_from_length rest.items (sym rest.ok.0 ∙ c.in-None.ensures.steps.0) in
    all_installed step old now
    (subst (λ (list : List Replacement). IsInstalling step old now list) none c.loop-replacement.invariant)
