-- This file shows that an accepted change draws between two places of the grid each time.
use Rattle.std.proofs.Common.{◌≡◌, ◌⊎◌, List, [], ◌∷◌, ◌++◌, All, Any, inl, inr, get_or}
use Rattle.std.specs.List.{flat_map}
use Rattle.std.proofs.lemmas.List.{get_or_default}
use Rattle.line_grammar.specs.declared.command.At.{At}
use Rattle.line_grammar.specs.declared.command.Change.{Change}
use Rattle.line_grammar.specs.declared.command.Change.TheVariants.{Point, Unpoint, Segment, Points}
use Rattle.line_grammar.specs.declared.command.Change.TheVariants.{Lines, Regions, Let, Drop, Delete}
use Rattle.chain_laws.proofs.Elements.{Any-nil, Any-head, Any-later, Any-cons_cases, Any-single, Any-append_cases, Any-weaker}
use Rattle.realm_insert.specs.declared.asked.Ends.{Ends}
use Rattle.realm_insert.specs.Lines.{IsOffGrid, HasPlaceOffGrid, IsDrawable, ends, neighbours, neighbours_round, drawn_between}

-- one of the two places is off the grid
abbrev HasEndOff : Ends → Type 0
HasEndOff e = IsOffGrid e.from ⊎ IsOffGrid e.to

-- an item of what the lists give is given by one of them
Any-flat_map : {X Y : Type 0} (P : Y → Type 0) (f : X → List Y) (xs : List X) → Any P (flat_map f xs) → Any (λ x. Any P (f x)) xs
Any-flat_map P f [] some = absurd (Any-nil P some)
Any-flat_map P f (x ∷ xs) some = elim (Any-append_cases P (f x) (flat_map f xs) some) [
  | inl here ↦ Any-head (λ y. Any P (f y)) x xs here
  | inr later ↦ Any-later (λ y. Any P (f y)) x xs (Any-flat_map P f xs later)
]

-- the ends along a path are its places
off_along : (path : List At) → Any HasEndOff (neighbours path) → Any IsOffGrid path
off_along [] some = absurd (Any-nil HasEndOff some)
off_along (p ∷ []) some = absurd (Any-nil HasEndOff some)
off_along (p ∷ q ∷ path) some = elim (Any-cons_cases HasEndOff (ends p q) (neighbours (q ∷ path)) some) [
  | inl (inl from) ↦ Any-head IsOffGrid p (q ∷ path) from
  | inl (inr to) ↦ Any-later IsOffGrid p (q ∷ path) (Any-head IsOffGrid q path to)
  | inr later ↦ Any-later IsOffGrid p (q ∷ path) (off_along (q ∷ path) later)
]

off_round : (cycle : List At) → Any HasEndOff (neighbours_round cycle) → Any IsOffGrid cycle
off_round [] some = absurd (Any-nil HasEndOff some)
off_round (p ∷ cycle) some = elim (Any-cons_cases IsOffGrid p (cycle ++ p ∷ []) (off_along (p ∷ (cycle ++ p ∷ [])) some)) [
  | inl first ↦ Any-head IsOffGrid p cycle first
  | inr later ↦ elim (Any-append_cases IsOffGrid cycle (p ∷ []) later) [
    | inl within ↦ Any-later IsOffGrid p cycle within
    | inr last ↦ Any-head IsOffGrid p cycle (Any-single IsOffGrid p last)
  ]
]

-- and those that a change draws between are places that it writes
off_drawn : (c : Change) → Any HasEndOff (drawn_between c) → HasPlaceOffGrid c
off_drawn (Point p) some = absurd (Any-nil HasEndOff some)
off_drawn (Unpoint p) some = absurd (Any-nil HasEndOff some)
off_drawn (Segment p q) some = Any-single HasEndOff (ends p q) some
off_drawn (Points name path) some = absurd (Any-nil HasEndOff some)
off_drawn (Lines name paths) some =
    Any-weaker (λ path. Any HasEndOff (neighbours path)) (λ path. Any IsOffGrid path) off_along paths
    (Any-flat_map HasEndOff neighbours paths some)
off_drawn (Regions name cycles) some =
    Any-weaker (λ cycle. Any HasEndOff (neighbours_round cycle)) (λ cycle. Any IsOffGrid cycle) off_round cycles
    (Any-flat_map HasEndOff neighbours_round cycles some)
off_drawn (Let name op first second) some = absurd (Any-nil HasEndOff some)
off_drawn (Drop name) some = absurd (Any-nil HasEndOff some)
off_drawn (Delete id) some = absurd (Any-nil HasEndOff some)

-- so both are on the grid, and two
pub drawable : (c : Change) → (HasPlaceOffGrid c → ⊥) → (Any (λ e. e.from ≡ e.to) (drawn_between c) → ⊥)
    → All IsDrawable (drawn_between c)
drawable c on_grid apart = λ i d within.
    let at : (P : Ends → Type 0) → P (get_or (drawn_between c) i d) → Any P (drawn_between c) =
    λ P holds. (i, get_or (drawn_between c) i d, within, get_or_default (drawn_between c) i (get_or (drawn_between c) i d) d within, holds) in (
      λ off. on_grid (off_drawn c (at HasEndOff (inl off))),
      λ off. on_grid (off_drawn c (at HasEndOff (inr off))),
      λ same. apart (at (λ e. e.from ≡ e.to) same),
    )
