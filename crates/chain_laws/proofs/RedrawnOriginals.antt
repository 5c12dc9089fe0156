-- This file shows that redrawn originals keep their order, and that their chains may still stand for them.
use Rattle.std.proofs.Common.{◌<◌, Option, Some, None, List, All, length, map, ap, subst, arith}
use Rattle.std.proofs.lemmas.List.{get_or-map, length-map}
use Rattle.std.proofs.lemmas.List.Elements.{All-map, All-weaker}
use Rattle.grid_base.specs.Point.{GridPoint}
use Rattle.grid_base.specs.Segment.{GridSegment}
use Rattle.grid_base.specs.declared.original.Original.{Original}
use Rattle.hook_chain.specs.Redrawing.{redrawn}
use Rattle.hook_chain.specs.ValidChain.{ValidChain}
use Rattle.chain_laws.specs.declared.redrawing.Redrawing.{Redrawing}
use Rattle.chain_laws.specs.declared.redrawing.Redrawings.{Redrawings}
use Rattle.hook_chain.specs.Straight.{along}
use Rattle.hook_chain.specs.Ids.{IsAscending}
use Rattle.hook_chain.specs.StandingChains.{HasValidChain}
use Rattle.chain_laws.specs.Redraws.{redrawn_also, redrawn_original_by, IsPathFor, AreRedrawings}
use Rattle.chain_laws.proofs.StepLinks.{GoesWith}

pub redrawn_ascending : (step : Redrawings) (originals : List Original) → IsAscending originals
    → IsAscending (map (redrawn_original_by step) originals)
redrawn_ascending step originals ascending i j d before within =
    let f = redrawn_original_by step in
    let j_within : j < length originals = subst (λ n. j < n) (length-map originals f) within in
    let i_within : i < length originals = omega arith in
    let rises = ascending i j d before j_within in
    let i_stays = ap (λ (o : Original). o.id) (get_or-map f originals i d d i_within) in
    let j_stays = ap (λ (o : Original). o.id) (get_or-map f originals j d d j_within) in
    omega (arith, rises, i_stays, j_stays)

also_valid : (first : Redrawing) (second : Option Redrawing) (o : GridSegment) (chain : List GridPoint) → IsPathFor first
    → GoesWith first second → ValidChain o chain → ValidChain o (redrawn_also second (redrawn first.piece first.path chain))
also_valid first None o chain path fits valid = path.keeps o chain valid
also_valid first (Some r) o chain path fits valid =
    fits.0.keeps o (redrawn first.piece first.path chain) (path.keeps o chain valid)

pub redrawn_all_valid : (step : Redrawings) (originals : List Original) → AreRedrawings step → All HasValidChain originals
    → All HasValidChain (map (redrawn_original_by step) originals)
redrawn_all_valid step originals are valid =
    All-map HasValidChain (redrawn_original_by step) originals
    (All-weaker HasValidChain (λ o. HasValidChain (redrawn_original_by step o))
    (λ o valid_chain. also_valid step.first step.second (along o) o.chain are.first are.second valid_chain) originals valid)
