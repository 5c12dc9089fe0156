-- This file shows that originals that are placed one after another keep their order, and that chains stay on the grid.
use Rattle.std.proofs.Common.{◌≡◌, ℕ, ◌+◌, ◌<◌, ◌≤◌, Bool, List, [], ◌∷◌, ◌++◌, length, get_or, filter, All, AllPairs, Contains}
use Rattle.std.proofs.Common.{sym, subst, inl, inr, arith, length-append}
use Rattle.std.proofs.lemmas.List.{get_or_default}
use Rattle.std.proofs.lemmas.List.Elements.{All-nil, All-push, All-weaker, All-filter, All-head, All-tail, All-contains}
use Rattle.std.proofs.lemmas.List.Kept.{AllPairs-cons, AllPairs-filter}
use Rattle.grid_base.specs.Point.{GridPoint, OnGrid, IsBefore, InBox}
use Rattle.grid_base.specs.Segment.{GridSegment}
use Rattle.grid_base.specs.Drawing.{Drawing, IsPoint}
use Rattle.grid_base.specs.declared.original.Original.{Original}
use Rattle.grid_base.proofs.Elements.{Contains-here, Contains-later}
use Rattle.hook_chain.specs.Chains.{RunsFrom}
use Rattle.hook_chain.specs.StandingChains.{HasValidChain}
use Rattle.hook_chain.specs.Ids.{IsAscending}
use Rattle.hook_chain.specs.Straight.{straight, placed, along}
use Rattle.chain_laws.proofs.Boxes.{read_in_box}
use Rattle.chain_laws.proofs.StandingChains.{straight_is_valid}
use Rattle.value_geometry.proofs.Counts.{AllPairs-head, AllPairs-tail}
use Rattle.realm_insert.specs.Changes.{placed_all}
use Rattle.realm_insert.specs.Snapshots.{IsValidState}
use Rattle.realm_insert.specs.State.{State}
use Rattle.one_reply.specs.Answerable.{IsDrawnOnGrid}

-- originals by rising id, from 1 on and below n, with chains that may stand for them and ends on the grid
pub record AreInRow (n : ℕ) (originals : List Original) : Type 0 where
  pub valid : All HasValidChain originals
  pub rise : IsAscending originals
  pub below : All (λ o. (1 ≤ o.id) × (o.id < n)) originals
  pub ends : All (λ o. OnGrid o.a × OnGrid o.b) originals

-- ---- more and fewer
-- one more at the end
pub pairs_push : {X : Type 0} (R : X → X → Type 0) (xs : List X) (x : X) → AllPairs R xs → All (λ y. R y x) xs
    → AllPairs R (xs ++ x ∷ [])
pairs_push R [] x pairs all = AllPairs-cons R x [] (All-nil (R x)) (λ i j d before within. absurd (omega arith))
pairs_push R (y ∷ xs) x pairs all =
    AllPairs-cons R y (xs ++ x ∷ [])
    (All-push (R y) xs x (AllPairs-head R y xs pairs) (All-head (λ z. R z x) y xs all))
    (pairs_push R xs x (AllPairs-tail R y xs pairs) (All-tail (λ z. R z x) y xs all))

pub later : (n m : ℕ) (originals : List Original) → n ≤ m → AreInRow n originals → AreInRow m originals
later n m originals most row = record {
  valid = row.valid;
  rise = row.rise;
  below = All-weaker (λ o. (1 ≤ o.id) × (o.id < n)) (λ o. (1 ≤ o.id) × (o.id < m))
      (λ o bounds. (bounds.0, omega (arith, bounds.1, most))) originals row.below;
  ends = row.ends;
}

pub fewer : (n : ℕ) (test : Original → Bool) (originals : List Original) → AreInRow n originals → AreInRow n (filter test originals)
fewer n test originals row = record {
  valid = All-filter test HasValidChain originals row.valid;
  rise = AllPairs-filter (λ o p. o.id < p.id) test originals row.rise;
  below = All-filter test (λ o. (1 ≤ o.id) × (o.id < n)) originals row.below;
  ends = All-filter test (λ o. OnGrid o.a × OnGrid o.b) originals row.ends;
}

one_placed : (n : ℕ) (originals : List Original) (s : GridSegment) → 1 ≤ n → IsBefore s.a s.b → OnGrid s.a × OnGrid s.b
    → AreInRow n originals → AreInRow (n + 1) (originals ++ straight n s ∷ [])
one_placed n originals s first ordered on row =
    let wide = later n (n + 1) originals (omega arith) row in record {
      valid = All-push HasValidChain originals (straight n s) row.valid (straight_is_valid s ordered);
      rise = pairs_push (λ o p. o.id < p.id) originals (straight n s) row.rise
          (All-weaker (λ o. (1 ≤ o.id) × (o.id < n)) (λ o. o.id < n) (λ o bounds. bounds.1) originals row.below);
      below = All-push (λ o. (1 ≤ o.id) × (o.id < n + 1)) originals (straight n s) wide.below (first, omega arith);
      ends = All-push (λ o. OnGrid o.a × OnGrid o.b) originals (straight n s) row.ends on;
    }

pub all_placed : (d : Drawing) (n : ℕ) (segments : List GridSegment) → 1 ≤ n → All (λ s. IsBefore s.a s.b) segments
    → All (λ s. OnGrid s.a × OnGrid s.b) segments → AreInRow n d.originals
    → AreInRow (n + length segments) (placed_all d n segments).originals
all_placed d n [] first ordered on row = later n (n + length {A = GridSegment} []) d.originals (omega arith) row
all_placed d n (s ∷ segments) first ordered on row =
    let here = one_placed n d.originals s first (All-head (λ t. IsBefore t.a t.b) s segments ordered)
    (All-head (λ t. OnGrid t.a × OnGrid t.b) s segments on) row in
    let rest = all_placed (placed d n s) (n + 1) segments (omega arith) (All-tail (λ t. IsBefore t.a t.b) s segments ordered)
    (All-tail (λ t. OnGrid t.a × OnGrid t.b) s segments on) here in
    later (n + 1 + length segments) (n + length (s ∷ segments)) (placed_all d n (s ∷ segments)).originals (omega arith) rest

pub as_many : (d : Drawing) (n : ℕ) (segments : List GridSegment)
    → length (placed_all d n segments).originals ≡ length d.originals + length segments
as_many d n [] = omega arith
as_many d n (s ∷ segments) =
    let rest = as_many (placed d n s) (n + 1) segments in
    let more = length-append d.originals (straight n s ∷ []) in
    omega (arith, rest, more)

-- ---- on the grid
-- a chain has the ends between which it leads
begins_there : (a b : GridPoint) (chain : List GridPoint) → RunsFrom a b chain → Contains chain a
begins_there a b [] leads = absurd leads
begins_there a b (v ∷ []) leads = subst (Contains (v ∷ [])) leads.0 (Contains-here v [])
begins_there a b (v ∷ w ∷ chain) leads = subst (Contains (v ∷ w ∷ chain)) leads.0 (Contains-here v (w ∷ chain))

ends_there : (a b : GridPoint) (chain : List GridPoint) → RunsFrom a b chain → Contains chain b
ends_there a b [] leads = absurd leads
ends_there a b (v ∷ []) leads = subst (Contains (v ∷ [])) leads.1 (Contains-here v [])
ends_there a b (v ∷ w ∷ chain) leads = Contains-later v (w ∷ chain) b (ends_there w b (w ∷ chain) leads.1)

-- so the originals of a state that is drawn on the grid are on it
pub row_of : (s : State) → IsValidState s → IsDrawnOnGrid s → AreInRow s.next_id s.drawing.originals
row_of s valid grid = record {
  valid = valid.chains;
  rise = valid.ids_rise;
  below = valid.ids;
  ends = λ k d within.
      let os = s.drawing.originals in
      let o = get_or os k d in
      let leads = (valid.chains k d within).leads in
      let vertex : (p : GridPoint) → Contains o.chain p → OnGrid p =
      λ p there. grid p (inr (k, o, within, get_or_default os k o d within, there)) in
      (vertex o.a (begins_there o.a o.b o.chain leads), vertex o.b (ends_there o.a o.b o.chain leads));
}

-- what is in the box of two points of the grid is on it
pub box_on_grid : (a b p : GridPoint) → OnGrid a → OnGrid b → InBox a b p → OnGrid p
box_on_grid a b p first second box = record {
  column = omega (arith, first.column, second.column, box.0.1);
  row = omega (arith, first.row, second.row, box.1.1);
}

-- and each point of a drawing of such originals is
pub drawn_on_grid : (n : ℕ) (d : Drawing) → AreInRow n d.originals → All OnGrid d.points → (p : GridPoint) → IsPoint d p → OnGrid p
drawn_on_grid n d row on p (inl explicit) = All-contains OnGrid d.points p on explicit
drawn_on_grid n d row on p (inr (k, o, within, is, (j, inside, same))) =
    let valid = All-contains HasValidChain d.originals o row.valid (k, within, is) in
    let ends = All-contains (λ (q : Original). OnGrid q.a × OnGrid q.b) d.originals o row.ends (k, within, is) in
    box_on_grid o.a o.b p ends.0 ends.1
    (read_in_box (along o) o.chain (record { ends = record { ordered = valid.ends; leads = valid.leads }; monotone = valid.monotone })
    j p inside (sym same))
