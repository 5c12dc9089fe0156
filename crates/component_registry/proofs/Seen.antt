-- This file shows what clauses see of the map and the slab that keep the pieces.
use Rattle.std.proofs.Common.{◌≡◌, ◌↔◌, ℕ, cond, List, [], ◌∷◌, refl, sym, ap, ap₂, ◌∙◌, arith}
use Rattle.std.proofs.Common.{Option, Some, None}
use Rattle.std.specs.Option.{option_map}
use Rattle.std.specs.Map.{lookup}
use Rattle.std.specs.FinMap as map
use Rattle.std.specs.FinMap.Entries.{find}
use Rattle.std.proofs.lemmas.Option.{same_Some}
use Rattle.slab.specs.Slab as slab
use Rattle.grid_base.specs.Segment.{GridSegment, segment_cmp}
use Rattle.grid_base.proofs.Orders.{segment_cmp-total}
use Rattle.component_registry.specs.Registry.{Holding, Holdings, key_of, owners_of, IsSound}
use Rattle.component_registry.specs.Kept.{Pieces, Slots, is_segment, held_in, seen_of, MatchesSlab}
use Rattle.component_registry.proofs.Lookups.{is_segment-ties}

-- a look-up in the list of a map's entries
find-lookup : (s : GridSegment) (es : List (GridSegment × Holding)) → find segment_cmp s es ≡ lookup (is_segment s) es
find-lookup s [] = refl
find-lookup s (e ∷ es) = ap₂ (λ b rest. cond b (Some e.1) rest) (sym (is_segment-ties s e.0)) (find-lookup s es)

module _ {S : Type 0} where
  -- clauses see of a piece what the map has of it
  pub get-seen : (m : Pieces S) (s : GridSegment) → map.get (seen_of m) s ≡ held_in m s
  get-seen m s = map.get-from_entries segment_cmp-total _ s ∙ find-lookup s m.entries

  -- the owners of what the map has
  pub owners_there : (m : Pieces S) (r : Holdings) → seen_of m ≡ r → (s : GridSegment) (h : Holding) → held_in m s ≡ Some h
      → owners_of r s ≡ h.owners
  owners_there m r view s h there = rw (← view, get-seen m s, there) refl

  -- and of what it hasn't
  pub owners_nowhere : (m : Pieces S) (r : Holdings) → seen_of m ≡ r → (s : GridSegment) → held_in m s ≡ None
      → owners_of r s ≡ []
  owners_nowhere m r view s none = rw (← view, get-seen m s, none) refl

  -- a piece with a key has it in the map
  held_with_key : (m : Pieces S) (s : GridSegment) (k : ℕ) → key_of (seen_of m) s ≡ Some k
      → (h : Holding) × (held_in m s ≡ Some h) × (h.key ≡ k)
  held_with_key m s k is = of_what_is_held (held_in m s) (sym (ap (option_map (λ h. h.key)) (get-seen m s)) ∙ is)
    where
      of_what_is_held : (o : Option Holding) → option_map (λ h. h.key) o ≡ Some k → (h : Holding) × (o ≡ Some h) × (h.key ≡ k)
      of_what_is_held None e = absurd (cc)
      of_what_is_held (Some h) e = (h, refl, cc)

  -- what is kept is sound
  pub sound_seen : (m : Pieces S) (keys : Slots) → MatchesSlab m keys → IsSound (seen_of m)
  sound_seen m keys kept = record {
    owned = λ s is. grind (arith, get-seen, kept.owners s);
    ascending = λ s. grind (arith, get-seen, kept.owners s);
    apart = λ s t k of_s of_t.
        let at_s = held_with_key m s k of_s in
        let at_t = held_with_key m t k of_t in
        let first = kept.stored s at_s.0 at_s.1 in
        let second = kept.stored t at_t.0 at_t.1 in
        let same = ap (slab.get keys) (at_s.2 ∙ sym at_t.2) in
        cc;
  }

  -- the slab has s under k exactly where k is the key of s
  pub piece_has_key : (m : Pieces S) (keys : Slots) → MatchesSlab m keys → (k : ℕ) (s : GridSegment)
      → (slab.get keys k ≡ Some s) ↔ (key_of (seen_of m) s ≡ Some k)
  piece_has_key m keys kept k s = (
    λ h. let there = kept.listed k s h in grind (arith, get-seen),
    λ h. grind (arith, get-seen, kept.stored s),
  )

  -- what is held of the piece under a key is what clauses see of it
  pub owners_by_key : (m : Pieces S) (keys : Slots) → MatchesSlab m keys → (k : ℕ) (s : GridSegment) (h : Holding)
      → slab.get keys k ≡ Some s → held_in m s ≡ Some h → (t : GridSegment) → key_of (seen_of m) t ≡ Some k
      → h.owners ≡ owners_of (seen_of m) t
  owners_by_key m keys kept k s h stored there t is =
      let same : t ≡ s = same_Some t s (sym ((piece_has_key m keys kept k t).1 is) ∙ stored) in
      let seen = get-seen m t in
      rw (seen, same, there) refl
