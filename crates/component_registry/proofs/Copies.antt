-- This file shows that clones of the maps and of the slab keep what is kept, where the clone of an item is the item.
use Rattle.std.proofs.Common.{◌≡◌, ◌∙◌, ap, ap₂, refl, List, [], ◌∷◌, ℕ, Option, Some, None}
use Rattle.std.specs.List.{AllZip}
use Rattle.std.specs.HashMap.{HashMap}
use Rattle.std.specs.HashMap as hash
use Rattle.std.specs.Map.{lookup}
use Rattle.std.proofs.lemmas.Map.Entries.{entries_from_clone}
use Rattle.slab.specs.Slab.{IsSlotClone, IsSlabClone}
use Rattle.grid_base.specs.Point.{is_point}
use Rattle.component_registry.specs.Registry.{Holdings}
use Rattle.component_registry.specs.Kept.{Pieces, Slots, MatchesSlab}
use Rattle.component_registry.specs.Ends.{Counts, SameUses, IsCounted}
use Rattle.component_registry.proofs.EndCounts.{same_uses, no_zero_kept}

-- one value is the clone of another where it is that value
abbrev Same : {A : Type 0} → A → A → Type 0
Same x y = y ≡ x

-- a map's clone has the map's entries
pub same_entries : {K X S : Type 0} (m copy : HashMap K X S) → hash.IsClone Same Same m copy → copy.entries ≡ m.entries
same_entries m copy clone = entries_from_clone Same Same (λ x y same. same) (λ x y same. same) m.entries copy.entries clone

-- a slot's clone is the slot
same_slot : {A : Type 0} (x y : Option A) → IsSlotClone Same x y → y ≡ x
same_slot None y clone = clone
same_slot (Some a) None clone = absurd clone
same_slot (Some a) (Some b) clone = ap Some clone

-- a slab's clone has the slab's slots
same_slots : {A : Type 0} (xs ys : List (Option A)) → AllZip (IsSlotClone Same) xs ys → ys ≡ xs
same_slots [] [] clones = refl
same_slots [] (y ∷ ys) clones = absurd clones
same_slots (x ∷ xs) [] clones = absurd clones
same_slots (x ∷ xs) (y ∷ ys) clones = ap₂ (λ z zs. z ∷ zs) (same_slot x y clones.0) (same_slots xs ys clones.1)

module _ {S : Type 0} where
  -- the clones match as the map and the slab do
  pub matches_copied : (m n : Pieces S) (keys copy : Slots) → hash.IsClone Same Same m n → IsSlabClone Same keys copy
      → MatchesSlab m keys → MatchesSlab n copy
  matches_copied m n keys copy map_clone slab_clone kept =
      let entries = same_entries m n map_clone in
      let slots = same_slots keys.slots copy.slots slab_clone.slots in
      record {
        owners = λ s h. rw entries (kept.owners s h);
        stored = λ s h. rw (entries, slots) (kept.stored s h);
        listed = λ k s. rw (slots, entries) (kept.listed k s);
      }

  -- the clone has the same counts
  pub counted_copied : (r : Holdings) (ends copy : Counts S) (added : ℕ) → hash.IsClone Same Same ends copy
      → IsCounted r ends added → IsCounted r copy added
  counted_copied r ends copy added clone counted =
      let same : SameUses ends copy = λ p. ap (lookup (is_point p)) (same_entries ends copy clone) in
      record {
        sound = counted.sound;
        counted = λ p. same_uses ends copy same p ∙ counted.counted p;
        no_zero = no_zero_kept ends copy same counted.no_zero;
        bounded = counted.bounded;
      }
