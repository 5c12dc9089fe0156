-- This file shows that steps keep the ids and the ends of originals, so that the lines of a change are those of what it makes before them.
use Rattle.std.proofs.Common.{◌≡◌, ℕ, Bool, true, false, not, cond, ◌||◌, ◌==◌, List, [], ◌∷◌, ◌++◌, map}
use Rattle.std.proofs.Common.{refl, sym, ap, ap₂, subst, ◌∙◌}
use Rattle.std.proofs.lemmas.List.Elements.{filter_agree}
use Rattle.grid_base.specs.Point.{GridPoint}
use Rattle.grid_base.specs.Drawing.{Drawing, HasViolation}
use Rattle.grid_base.specs.declared.kinds.Step.{Step}
use Rattle.grid_base.specs.declared.original.Original.{Original}
use Rattle.hook_chain.specs.Steps.{Permitted, Settles}
use Rattle.realm_audit.specs.declared.item.Item.{Item}
use Rattle.realm_audit.specs.declared.item.Item.TheVariants as items
use Rattle.hook_chain.specs.Ids.{IsAscending}
use Rattle.chain_laws.specs.Redraws.{redrawn_original_by}
use Rattle.hook_chain.specs.Straight.{straight, along}
use Rattle.chain_laws.proofs.RedrawnOriginals.{redrawn_ascending}
use Rattle.chain_laws.proofs.StepPaths.{step_paths}
use Rattle.realm_insert.proofs.StepsTaken.{points_kept}
use Rattle.certificate_law.specs.Certificates.{segment_item, change_items}
use Rattle.realm_insert.specs.Differences.{has_id, originals_besides, points_besides}

-- the original as it was drawn, with its id and its ends alone
abbrev pub bare : Original → Original
bare o = straight o.id (along o)

-- ---- steps
bare_stays : (redrawn : Original → Original) → ((o : Original) → bare (redrawn o) ≡ bare o) → (originals : List Original)
    → map bare (map redrawn originals) ≡ map bare originals
bare_stays redrawn stays [] = refl
bare_stays redrawn stays (o ∷ originals) =
    ap₂ (λ (p : Original) (l : List Original). p ∷ l) (stays o) (bare_stays redrawn stays originals)

step_bare : (d e : Drawing) (step : Step) → Permitted d step e → map bare e.originals ≡ map bare d.originals
step_bare d e step permitted =
    let drawn = step_paths d e step permitted in
    ap (λ (g : Drawing). map bare g.originals) drawn.leads
    ∙ bare_stays (redrawn_original_by drawn.paths) (λ o. refl) d.originals

pub settled_bare : (d e : Drawing) (trace : List Step) → Settles d trace e → map bare e.originals ≡ map bare d.originals
settled_bare d e [] settles = ap (λ (g : Drawing). map bare g.originals) (sym settles.0)
settled_bare d e (step ∷ trace) settles =
    settled_bare settles.0 e trace settles.2 ∙ step_bare d settles.0 step settles.1

pub settled_rise : (d e : Drawing) (trace : List Step) → Settles d trace e → IsAscending d.originals → IsAscending e.originals
settled_rise d e [] settles rise = subst (λ (g : Drawing). IsAscending g.originals) settles.0 rise
settled_rise d e (step ∷ trace) settles rise =
    let drawn = step_paths d settles.0 step settles.1 in
    settled_rise settles.0 e trace settles.2
    (subst (λ (g : Drawing). IsAscending g.originals) (sym drawn.leads) (redrawn_ascending drawn.paths d.originals rise))

pub none_violated : (d e : Drawing) (trace : List Step) → Settles d trace e → HasViolation e → ⊥
none_violated d e [] settles violation = settles.1 (subst HasViolation (sym settles.0) violation)
none_violated d e (step ∷ trace) settles violation = none_violated settles.0 e trace settles.2 violation

-- ---- so the lines of a change are those of what it makes before the first step
has_id_bare : (originals : List Original) (id : ℕ) → has_id originals id ≡ has_id (map bare originals) id
has_id_bare [] id = refl
has_id_bare (o ∷ originals) id = ap (λ b. (o.id == id) || b) (has_id_bare originals id)

same_ids : (new changed : List Original) → map bare new ≡ map bare changed → (id : ℕ) → has_id new id ≡ has_id changed id
same_ids new changed same id =
    has_id_bare new id ∙ ap (λ l. has_id l id) same ∙ sym (has_id_bare changed id)

same_gone : (old new changed : List Original) → map bare new ≡ map bare changed
    → originals_besides old new ≡ originals_besides old changed
same_gone old new changed same =
    filter_agree (λ o. not (has_id new o.id)) (λ o. not (has_id changed o.id)) (λ o. ap not (same_ids new changed same o.id)) old

-- an original comes as it was drawn
drawn_bare : (old originals : List Original)
    → map segment_item (originals_besides originals old) ≡ map segment_item (originals_besides (map bare originals) old)
drawn_bare old [] = refl
drawn_bare old (o ∷ originals) =
    by_test (not (has_id old o.id)) (originals_besides originals old) (originals_besides (map bare originals) old)
    (drawn_bare old originals)
  where
    by_test : (b : Bool) (xs ys : List Original) → map segment_item xs ≡ map segment_item ys
        → map segment_item (cond b (o ∷ xs) xs) ≡ map segment_item (cond b (bare o ∷ ys) ys)
    by_test true xs ys same = ap (λ l. segment_item o ∷ l) same
    by_test false xs ys same = same

same_come : (old new changed : List Original) → map bare new ≡ map bare changed
    → map segment_item (originals_besides new old) ≡ map segment_item (originals_besides changed old)
same_come old new changed same =
    drawn_bare old new ∙ ap (λ l. map segment_item (originals_besides l old)) same ∙ sym (drawn_bare old changed)

pub same_items : (old new changed : Drawing) (trace : List Step) → Settles changed trace new
    → change_items old trace new ≡ change_items old trace changed
same_items old new changed trace settles =
    let points = points_kept changed new trace settles in
    let bares = settled_bare changed new trace settles in
    let gone = same_gone old.originals new.originals changed.originals bares in
    let come = same_come old.originals new.originals changed.originals bares in
    let rest = λ (ps : List GridPoint) (os : List Original) (list : List Item). items.Change
    ∷ (map items.Unpoint (points_besides old.points ps)
    ++ (map (λ (o : Original). items.Remove o.id) os
    ++ (map items.Point (points_besides ps old.points)
    ++ (list ++ map items.Step trace)))) in
    ap (λ (ps : List GridPoint). rest ps (originals_besides old.originals new.originals)
    (map segment_item (originals_besides new.originals old.originals))) points
    ∙ ap₂ (λ (os : List Original) (list : List Item). rest changed.points os list) gone come
