-- This file shows that new chains for the owners of the pieces of a step are those of all originals that it changes.
use Rattle.std.proofs.Common.{◌≡◌, Option, Some, None, List, [], Contains, get_or}
use Rattle.std.proofs.Common.{ap, sym, subst, ◌∙◌, inl, inr}
use Rattle.std.specs.Option.{unwrap_or}
use Rattle.std.proofs.lemmas.List.Elements.{All-nil}
use Rattle.grid_base.specs.Point.{GridPoint}
use Rattle.grid_base.specs.declared.original.Original.{Original}
use Rattle.component_registry.specs.Registry.{Holdings, owners_of}
use Rattle.hook_chain.specs.Redrawing.{redrawn}
use Rattle.chain_laws.specs.declared.redrawing.Redrawing.{Redrawing}
use Rattle.chain_laws.specs.declared.redrawing.Redrawings.{Redrawings}
use Rattle.realm_drawing.specs.declared.redrawing.Replacement.{Replacement}
use Rattle.realm_drawing.specs.Kept.{HasOwnersOf}
use Rattle.chain_laws.specs.Redraws.{redrawn_also, redrawn_by, AreRedrawings}
use Rattle.realm_drawing.specs.Redraws.{Becomes, IsReplacement, AreReplacements, AddsReplacements}
use Rattle.realm_drawing.proofs.Owners.{owner_with, still_replaced}
use Rattle.chain_laws.proofs.RedrawnLinks.{has_link_or_not, redrawn_without}
use Rattle.chain_laws.proofs.StepLinks.{GoesWith}

pub one_redrawing : (step : Redrawings) (originals : List Original) (r : Holdings) (list : List Replacement)
    → AreRedrawings step → HasOwnersOf originals r → step.second ≡ None
    → AddsReplacements step originals (Contains (owners_of r step.first.piece)) [] list
    → AreReplacements step originals list
one_redrawing step originals r list are owners one added = record {
  each = added.each (All-nil (IsReplacement step originals));
  all = λ k d within.
      let chain = (get_or originals k d).chain in
      elim (has_link_or_not chain step.first.piece) [
        | inl link ↦ added.wanted k d within
            (owner_with originals r step.first.piece k d owners are.first.ordered within link)
        | inr none ↦ inr (ap (λ second. redrawn_also second (redrawn step.first.piece step.first.path chain)) one
            ∙ redrawn_without step.first.piece step.first.path chain none)
      ];
}

pub two_redrawings : (step : Redrawings) (originals : List Original) (r : Holdings) (q : Redrawing)
    → (once twice : List Replacement) → AreRedrawings step → HasOwnersOf originals r → step.second ≡ Some q
    → AddsReplacements step originals (Contains (owners_of r step.first.piece)) [] once
    → AddsReplacements step originals (Contains (owners_of r q.piece)) once twice
    → AreReplacements step originals twice
two_redrawings step originals r q once twice are owners two first second =
    let path = subst (GoesWith step.first) two are.second in
    record {
      each = second.each (first.each (All-nil (IsReplacement step originals)));
      all = λ k d within.
          let o = get_or originals k d in
          elim (has_link_or_not o.chain step.first.piece) [
            | inl link ↦ still_replaced step originals (Contains (owners_of r q.piece)) once twice second o
                (first.wanted k d within
                (owner_with originals r step.first.piece k d owners are.first.ordered within link))
            | inr none ↦ elim (has_link_or_not o.chain q.piece) [
              | inl link ↦ second.wanted k d within
                  (owner_with originals r q.piece k d owners path.0.ordered within link)
              | inr none_too ↦ inr (
                  ap (λ also. redrawn_also also (redrawn step.first.piece step.first.path o.chain)) two
                  ∙ ap (redrawn q.piece q.path) (redrawn_without step.first.piece step.first.path o.chain none)
                  ∙ redrawn_without q.piece q.path o.chain none_too)
            ]
          ];
    }

-- ---- one chain
-- what the second redrawing makes of what the first made of a chain is what the step makes of it
pub becomes_twice : (step : Redrawings) (q : Redrawing) (chain mid : List GridPoint) (twice : Option (List GridPoint))
    → step.second ≡ Some q → mid ≡ redrawn step.first.piece step.first.path chain
    → Becomes mid (redrawn q.piece q.path mid) twice → unwrap_or twice mid ≡ redrawn_by step chain
becomes_twice step q chain mid twice two is becomes =
    last twice becomes ∙ ap (redrawn q.piece q.path) is
    ∙ sym (ap (λ second. redrawn_also second (redrawn step.first.piece step.first.path chain)) two)
  where
    last : (found : Option (List GridPoint)) → Becomes mid (redrawn q.piece q.path mid) found
        → unwrap_or found mid ≡ redrawn q.piece q.path mid
    last None stays = sym stays
    last (Some new) same = same
