-- This file shows that all chains are valid, whatever lines were heard.
use Rattle.std.proofs.Common.{List, [], ◌∷◌, All, sym, subst}
use Rattle.std.proofs.lemmas.List.Elements.{All-filter, All-push, All-nil}
use Rattle.grid_base.specs.Point.{IsBefore}
use Rattle.grid_base.specs.Segment.{GridSegment}
use Rattle.grid_base.specs.declared.original.Original.{Original as AnOriginal}
use Rattle.hook_chain.specs.Chains.{RunsFrom}
use Rattle.hook_chain.specs.Straight.{along}
use Rattle.hook_chain.specs.StandingChains.{HasValidChain, AllValid, StaysInEnvelope}
use Rattle.realm_audit.specs.Audits.{Audit, first_audit, LineHolds, Runs}
use Rattle.realm_audit.specs.declared.item.Item.{Item}
use Rattle.realm_audit.specs.declared.item.Item.TheVariants.{Point, Unpoint, Original, Change, Remove, Segment, End}
use Rattle.realm_audit.specs.declared.item.Item.TheVariants as items
use Rattle.chain_laws.proofs.ChainEnvelope.{chain_in_envelope}
use Rattle.chain_laws.proofs.StandingChains.{straight_is_valid}
use Rattle.chain_laws.proofs.StepsKeep.{step_keeps_chains}

-- so it is with the audit's drawing
abbrev HasAllValid : Audit → Type 0
HasAllValid a = AllValid a.drawing

-- a line keeps all chains valid
line_keeps : (old new : Audit) (item : Item) → HasAllValid old → LineHolds old item new → HasAllValid new
line_keeps old new (Point p) valid held =
    subst HasAllValid (sym held.4) (subst (λ (l : List AnOriginal). All HasValidChain l) (sym held.3.originals) valid)
line_keeps old new (Unpoint p) valid held =
    subst HasAllValid (sym held.4) (subst (λ (l : List AnOriginal). All HasValidChain l) (sym held.3.originals) valid)
line_keeps old new (Original id chain) valid held =
    let (s, stands, is) = held.3 in
    let d_valid : AllValid held.2 = subst AllValid (sym is)
    (All-push HasValidChain old.drawing.originals (record { id = id; a = s.a; b = s.b; chain = chain }) valid stands) in
    subst HasAllValid (sym held.4) d_valid
line_keeps old new Change valid held = subst HasAllValid (sym held.2) valid
line_keeps old new (Remove id) valid held =
    subst HasAllValid (sym held.2) (All-filter _ HasValidChain old.drawing.originals valid)
line_keeps old new (Segment id p q) valid held =
    let s : GridSegment = record { a = p; b = q } in
    subst HasAllValid (sym held.3)
    (All-push HasValidChain old.drawing.originals (record { id = id; a = p; b = q; chain = p ∷ q ∷ [] }) valid
    (straight_is_valid s held.2))
line_keeps old new (items.Step step) valid held =
    subst HasAllValid (sym held.3) (step_keeps_chains old.drawing held.1 step valid held.2)
line_keeps old new End valid held = subst HasAllValid (sym held.2) valid

run_keeps : (old new : Audit) (list : List Item) → HasAllValid old → Runs old list new → HasAllValid new
run_keeps old new [] valid run = subst HasAllValid run valid
run_keeps old new (item ∷ list) valid (between, held, rest) =
    run_keeps between new list (line_keeps old between item valid held) rest

pub run_is_valid : (list : List Item) (audit : Audit) → Runs first_audit list audit → AllValid audit.drawing
run_is_valid list audit run = run_keeps first_audit audit list (All-nil HasValidChain) run

pub run_leads : (list : List Item) (audit : Audit) → Runs first_audit list audit
    → All (λ o. IsBefore o.a o.b × RunsFrom o.a o.b o.chain) audit.drawing.originals
run_leads list audit run =
    λ k o within. let valid = run_is_valid list audit run k o within in (valid.ends, valid.leads)

pub run_in_envelope : (list : List Item) (audit : Audit) → Runs first_audit list audit
    → All (λ o. StaysInEnvelope (along o) o.chain) audit.drawing.originals
run_in_envelope list audit run = λ k o within. chain_in_envelope _ _ (run_is_valid list audit run k o within)
