-- This file shows that a list of the explicit points and all vertices, sorted and each once, has exactly the points.
use Rattle.std.proofs.Common.{◌≡◌, ◌↔◌, ◌<◌, List, ◌++◌, Contains, IsPermutation, sym, subst, inl, inr}
use Rattle.std.specs.List.{dedup}
use Rattle.std.proofs.lemmas.List.Elements.{Contains-append_left, Contains-append_right, Contains-append_cases}
use Rattle.std.proofs.lemmas.List.Sorted.{Contains-permutation, IsPermutation-sym}
use Rattle.grid_base.specs.Point.{GridPoint, is_point}
use Rattle.grid_base.specs.Drawing.{IsPoint}
use Rattle.grid_base.specs.declared.original.Original.{Original}
use Rattle.grid_base.proofs.Orders.{points_stay}
use Rattle.component_registry.specs.Registry.{Holdings, uses_of}
use Rattle.component_registry.proofs.Uses.{used_by_piece}
use Rattle.realm_drawing.specs.Kept.{IsInOrder}
use Rattle.realm_drawing.proofs.Vertices.{vertices_are_ends}

-- the points that are used in the registry of a drawing are the vertices of its chains
points_in_list : (points : List GridPoint) (originals : List Original) (r : Holdings) → IsInOrder points originals r
    → (used : List GridPoint) → ((p : GridPoint) → Contains used p ↔ (0 < uses_of r p)) → (p : GridPoint)
    → Contains (points ++ used) p ↔ IsPoint (record { points = points; originals = originals }) p
points_in_list points originals r kept used exact p =
    let by_piece = used_by_piece r p kept.sound in
    let vertex = vertices_are_ends points originals r kept p in (
      λ there. elim (Contains-append_cases points used p there) [
        | inl explicit ↦ inl explicit
        | inr in_use ↦ inr (vertex.0 (by_piece.0 ((exact p).0 in_use)))
      ],
      λ point. elim point [
        | inl explicit ↦ Contains-append_left points used p explicit
        | inr of_chain ↦ Contains-append_right points used p ((exact p).1 (by_piece.1 (vertex.1 of_chain)))
      ],
    )

pub points_are_listed : (points : List GridPoint) (originals : List Original) (r : Holdings) → IsInOrder points originals r
    → (used all sorted : List GridPoint) → ((p : GridPoint) → Contains used p ↔ (0 < uses_of r p)) → all ≡ points ++ used
    → IsPermutation all sorted → (p : GridPoint)
    → Contains (dedup is_point sorted) p ↔ IsPoint (record { points = points; originals = originals }) p
points_are_listed points originals r kept used all sorted exact whole moved p =
    let listed = points_in_list points originals r kept used exact p in
    let there = Contains-permutation sorted all p (IsPermutation-sym all sorted moved) in
    let back = Contains-permutation all sorted p moved in
    let once = points_stay sorted p in (
      λ h. listed.0 (subst (λ l. Contains l p) whole (there (once.0 h))),
      λ h. once.1 (back (subst (λ l. Contains l p) (sym whole) (listed.1 h))),
    )
