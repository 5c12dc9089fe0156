-- This file shows that a chain stays valid where the hook of a piece is drawn in the place of the piece.
use Rattle.std.proofs.Common.{◌≡◌, ◌⊎◌, ◌≤◌, List, [], ◌∷◌, subst, sym, arith, inl, inr}
use Rattle.grid_base.specs.Point.{GridPoint, IsBefore, InBox}
use Rattle.grid_base.specs.Segment.{GridSegment}
use Rattle.grid_base.proofs.Signs.{three_ways}
use Rattle.grid_base.proofs.Ends.{same_point}
use Rattle.segment_envelope.specs.Near.{Near}
use Rattle.hook_chain.specs.Close.{Close}
use Rattle.hook_chain.specs.Hook.{Hook}
use Rattle.hook_chain.specs.Redrawing.{redrawn}
use Rattle.hook_chain.specs.ValidChain.{IsMonotone, ValidChain}
use Rattle.hook_chain.proofs.Exchange.{way}
use Rattle.hook_chain.proofs.Existence.{hook_monotone}
use Rattle.hook_chain.proofs.HookLaw.{a_is_on, b_is_on, hook_leads}
use Rattle.hook_chain.proofs.Paths.{backwards, reverse_is, leads_back, links_back, links_map}
use Rattle.chain_laws.proofs.AcrossAxes.{hook_stays_close}
use Rattle.chain_laws.proofs.Boxes.{IsInChain, links_in_chain}
use Rattle.chain_laws.proofs.ChainJoins.{GoesOn, close_links}
use Rattle.chain_laws.proofs.CloseChains.{close_back}
use Rattle.chain_laws.proofs.Replacements.{IsUnit, Replaces, replaced_valid}

-- where the chain of o passes t from b to a, t is upright and o falls, so that a link of the hook goes the other way
turned_monotone : (o t : GridSegment) (v w : GridPoint) → IsBefore t.a t.b → IsMonotone o.a o.b t.b t.a → IsInChain t v w
    → IsMonotone o.a o.b w v
turned_monotone o t v w ordered back inside =
    let rises : v.y ≤ w.y = inside.monotone.2 (omega arith) in
    (λ same. inside.monotone.0 (sym same), omega arith, λ up. let no = back.2 up in omega arith, λ down. rises)

-- the hook of a piece of length 1 at a near point is the piece, since only its ends are near
unit_hook : (t : GridSegment) (x : GridPoint) (path : List GridPoint) → InBox t.a t.b x → Hook t x path → IsUnit t
    → path ≡ t.a ∷ t.b ∷ []
unit_hook t x path box hook unit = by_end hook (end unit)
  where
    end : IsUnit t → (x ≡ t.a) ⊎ (x ≡ t.b)
    end (inl up) = elim (three_ways x.y t.a.y) [
      | inl below ↦ absurd (omega arith)
      | inr rest ↦ elim rest [
        | inl low ↦ inl (same_point x t.a (omega arith) low)
        | inr high ↦ inr (same_point x t.b (omega arith) (omega arith))
      ]
    ]
    end (inr right) = elim (three_ways x.x t.a.x) [
      | inl before ↦ absurd (omega arith)
      | inr rest ↦ elim rest [
        | inl first ↦ inl (same_point x t.a first (omega arith))
        | inr later ↦ inr (same_point x t.b (omega arith) (omega arith))
      ]
    ]

    by_end : Hook t x path → (x ≡ t.a) ⊎ (x ≡ t.b) → path ≡ t.a ∷ t.b ∷ []
    by_end (inl at_a) either = at_a.1
    by_end (inr (inl at_b)) either = at_b.1
    by_end (inr (inr (inl on))) (inl at_a) = absurd (on.0 at_a)
    by_end (inr (inr (inl on))) (inr at_b) = absurd (on.1 at_b)
    by_end (inr (inr (inr beside))) (inl at_a) = absurd (beside.0 (a_is_on t.a t.b x at_a))
    by_end (inr (inr (inr beside))) (inr at_b) = absurd (beside.0 (b_is_on t.a t.b x at_b))

-- the hook may stand for the piece: it is monotone as the piece, its links are close, and both hold the other way too
hook_replaces : (o t : GridSegment) (x : GridPoint) (path : List GridPoint) → IsBefore o.a o.b → IsBefore t.a t.b → Near t x
    → Hook t x path → Replaces o t path
hook_replaces o t x path ends ordered near hook =
    let leads = hook_leads t x path hook in
    let monotone = hook_monotone t x path ordered near hook in
    let IsCloseLink = λ (v w : GridPoint). Close o (way v w) in
    record {
      forth = λ inside close. record {
        leads = leads;
        monotone = links_map (IsMonotone t.a t.b) (IsMonotone o.a o.b)
            (λ v w link. (link.0, link.1, λ up. link.2 (inside.monotone.2 up), λ down. link.3 (inside.monotone.3 down)))
            path monotone;
        close = close_links o path
            (hook_stays_close o t x path ends ordered inside.first_in_box inside.second_in_box near hook close);
      };
      back = λ inside close.
          let links = hook_stays_close o t x path ends ordered inside.second_in_box inside.first_in_box near hook
          (close_back o t.b t.a close) in
          subst (λ (l : List GridPoint). GoesOn o t.b t.a l) (sym (reverse_is path)) (record {
            leads = leads_back t.a t.b path leads;
            monotone = links_back (IsInChain t) (IsMonotone o.a o.b)
                (λ v w link. turned_monotone o t v w ordered inside.monotone link)
                t.a t.b path leads (links_in_chain t path leads monotone);
            close = close_links o (backwards path)
                (links_back IsCloseLink IsCloseLink (close_back o) t.a t.b path leads links);
          });
      unit = unit_hook t x path near.box hook;
    }

-- a chain stays valid where a hook at a near point is drawn in the place of a piece
pub redrawn_valid : (o t : GridSegment) (x : GridPoint) (path chain : List GridPoint) → IsBefore t.a t.b → Near t x
    → Hook t x path → ValidChain o chain → ValidChain o (redrawn t path chain)
redrawn_valid o t x path chain ordered near hook valid =
    replaced_valid o t path chain ordered (hook_replaces o t x path valid.ends ordered near hook) valid
