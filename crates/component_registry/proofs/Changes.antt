-- This file shows what one change of the map, and of the slab beside it, does to what is kept and to what clauses see.
use Rattle.std.proofs.Common.{◌≡◌, ◌≢◌, ◌⊎◌, ◌↔◌, ℕ, ◌+◌, refl, sym, ap, ◌∙◌, subst, inl, inr, ⊎_elim, arith}
use Rattle.std.proofs.Common.{List, [], ◌∷◌, length, Contains, Option, Some, None, is_some, slice_index_or}
use Rattle.std.specs.HashMap as hash
use Rattle.std.specs.FinMap as map
use Rattle.std.proofs.lemmas.Option.{same_Some, none-some}
use Rattle.std.proofs.lemmas.Bool.{cases_eq}
use Rattle.slab.proofs.SlabLemmas.{Contains-cons_cases}
use Rattle.slab.specs.Slab as slab
use Rattle.grid_base.specs.Segment.{GridSegment}
use Rattle.component_registry.specs.Registry.{Holding, Holdings, holding_of, AddsOwner, DropsOwner}
use Rattle.component_registry.specs.Kept.{Pieces, Slots, is_segment, held_in, seen_of, IsHeld, MatchesSlab}
use Rattle.component_registry.proofs.Lookups.{this_segment_or_other, other_segment}
use Rattle.component_registry.proofs.Uses.{uses_more, same_registry}
use Rattle.component_registry.proofs.Seen.{get-seen}

-- id is the one more owner in `after`
abbrev pub OneMore : ℕ → List ℕ → List ℕ → Type 0
OneMore id before after = ((x : ℕ) → Contains after x ↔ ((x ≡ id) ⊎ Contains before x)) × (length after ≡ length before + 1)

-- id is the one owner that `after` hasn't
abbrev pub OneFewer : ℕ → List ℕ → List ℕ → Type 0
OneFewer id before after = ((x : ℕ) → Contains after x ↔ (Contains before x × (x ≢ id))) × (length after + 1 ≡ length before)

-- the only owner of a new piece
first_owner : (id x : ℕ) → Contains (id ∷ []) x ↔ ((x ≡ id) ⊎ Contains {X = ℕ} [] x)
first_owner id x = (
  λ there. ⊎_elim (λ same. inl (sym same)) (λ later. inr later) (Contains-cons_cases id x [] there),
  λ either. ⊎_elim (λ same. (0, omega arith, sym same)) (λ nowhere. absurd (omega (arith, nowhere.1))) either,
)

module _ {S : Type 0} where
  -- the new map has o of s, and of each other piece what the old one has
  pub record Puts (old new : Pieces S) (s : GridSegment) (o : Option Holding) : Type 0 where
    pub here : held_in new s ≡ o
    pub others : (t : GridSegment) → t ≢ s → held_in new t ≡ held_in old t

  pub puts : (old new : Pieces S) (s : GridSegment) (o : Option Holding) → hash.Updates is_segment old new s o → Puts old new s o
  puts old new s o updates = record {
    here = updates.1;
    others = λ t other. updates.2 t (other_segment s t other);
  }

  -- g was written through what the map lent of s
  abbrev pub Wrote : Pieces S → GridSegment → Holding → Pieces S → Type 0
  Wrote old s g new = hash.WritesThrough is_segment (is_segment s) old g new

  pub puts_through : (old new : Pieces S) (s : GridSegment) (h g : Holding) → held_in old s ≡ Some h → Wrote old s g new
      → Puts old new s (Some g)
  puts_through old new s h g there wrote = puts old new s (Some g) (wrote.3 (ap is_some there))

  -- what was written is then taken out
  pub puts_none : (old mid new : Pieces S) (s : GridSegment) (h g : Holding) → held_in old s ≡ Some h → Wrote old s g mid
      → hash.Updates is_segment mid new s None → Puts old new s None
  puts_none old mid new s h g there wrote updates =
      let written = puts_through old mid s h g there wrote in
      let taken = puts mid new s None updates in
      record { here = taken.here; others = λ t other. taken.others t other ∙ written.others t other }

  -- ---- what is kept
  -- what the new map has of s itself
  found_here : (old new : Pieces S) (s : GridSegment) (g : Holding) → Puts old new s (Some g)
      → (t : GridSegment) (f : Holding) → t ≡ s → held_in new t ≡ Some f → g ≡ f
  found_here old new s g put t f same at = same_Some g f (sym put.here ∙ ap (held_in new) (sym same) ∙ at)

  -- each piece has ascending owners where s has
  owners_put : (old new : Pieces S) (keys : Slots) (s : GridSegment) (g : Holding) → MatchesSlab old keys → Puts old new s (Some g)
      → IsHeld g → (t : GridSegment) (f : Holding) → held_in new t ≡ Some f → IsHeld f
  owners_put old new keys s g kept put held t f at = ⊎_elim
      (λ same. subst IsHeld (found_here old new s g put t f same at) held)
      (λ other. kept.owners t f (sym (put.others t other) ∙ at))
      (this_segment_or_other s t)

  -- a piece is held otherwise, under its old key
  pub kept_write : (old new : Pieces S) (keys : Slots) (s : GridSegment) (h g : Holding) → MatchesSlab old keys
      → held_in old s ≡ Some h → Puts old new s (Some g) → g.key ≡ h.key → IsHeld g → MatchesSlab new keys
  kept_write old new keys s h g kept there put key held = record {
    owners = owners_put old new keys s g kept put held;
    stored = λ t f at. ⊎_elim
        (λ same.
        let keys_same = sym (ap (λ x. x.key) (found_here old new s g put t f same at)) ∙ key in
        ap (slab.get keys) keys_same ∙ kept.stored s h there ∙ ap (λ x. Some x) (sym same))
        (λ other. kept.stored t f (sym (put.others t other) ∙ at))
        (this_segment_or_other s t);
    listed = λ k t under.
        let was = kept.listed k t under in ⊎_elim
        (λ same.
        let was_h = same_Some was.0 h (sym was.1 ∙ ap (held_in old) same ∙ there) in
        (g, ap (held_in new) same ∙ put.here, key ∙ sym (ap (λ x. x.key) was_h) ∙ was.2))
        (λ other. (was.0, put.others t other ∙ was.1, was.2))
        (this_segment_or_other s t);
  }

  -- a slab with more room
  pub kept_room : (m : Pieces S) (keys more : Slots) → MatchesSlab m keys → more.slots ≡ keys.slots → MatchesSlab m more
  kept_room m keys more kept same =
      let gets = λ (k : ℕ). ap (λ slots. slice_index_or slots k None) same in record {
        owners = kept.owners;
        stored = λ s h there. gets h.key ∙ kept.stored s h there;
        listed = λ k s under. kept.listed k s (sym (gets k) ∙ under);
      }

  -- a new piece is held under a free key
  pub kept_insert : (old new : Pieces S) (keys more : Slots) (s : GridSegment) (g : Holding) → MatchesSlab old keys
      → held_in old s ≡ None → slab.get keys g.key ≡ None → Puts old new s (Some g) → slab.Updates keys more g.key (Some s)
      → IsHeld g → MatchesSlab new more
  kept_insert old new keys more s g kept none free put updates held = record {
    owners = owners_put old new keys s g kept put held;
    stored = λ t f at. ⊎_elim
        (λ same.
        let keys_same = sym (ap (λ x. x.key) (found_here old new s g put t f same at)) in
        ap (slab.get more) keys_same ∙ updates.changed ∙ ap (λ x. Some x) (sym same))
        (λ other.
        let was = kept.stored t f (sym (put.others t other) ∙ at) in
        updates.others f.key (λ same. none-some t (sym free ∙ ap (slab.get keys) (sym same) ∙ was)) ∙ was)
        (this_segment_or_other s t);
    listed = λ k t under. ⊎_elim
        (λ (same : k ≡ g.key).
        let s_is_t = same_Some s t (sym updates.changed ∙ ap (slab.get more) (sym same) ∙ under) in
        (g, ap (held_in new) (sym s_is_t) ∙ put.here, sym same))
        (λ other.
        let was = kept.listed k t (sym (updates.others k other) ∙ under) in
        let apart : t ≢ s = λ same. none-some was.0 (sym none ∙ ap (held_in old) (sym same) ∙ was.1) in
        (was.0, put.others t apart ∙ was.1, was.2))
        (cases_eq k g.key);
  }

  -- a piece goes, with its key
  pub kept_remove : (old new : Pieces S) (keys fewer : Slots) (s : GridSegment) (h : Holding) → MatchesSlab old keys
      → held_in old s ≡ Some h → Puts old new s None → slab.Updates keys fewer h.key None → MatchesSlab new fewer
  kept_remove old new keys fewer s h kept there put updates = record {
    owners = λ t f at. kept.owners t f (sym (put.others t (stays t f at)) ∙ at);
    stored = λ t f at.
        let was = kept.stored t f (sym (put.others t (stays t f at)) ∙ at) in
        let apart : f.key ≢ h.key = λ same.
        stays t f at (same_Some t s (sym was ∙ ap (slab.get keys) same ∙ kept.stored s h there)) in
        updates.others f.key apart ∙ was;
    listed = λ k t under.
        let other : k ≢ h.key = λ same. none-some t (sym updates.changed ∙ ap (slab.get fewer) (sym same) ∙ under) in
        let was = kept.listed k t (sym (updates.others k other) ∙ under) in
        let apart : t ≢ s = λ same.
        other (sym was.2 ∙ ap (λ x. x.key) (same_Some was.0 h (sym was.1 ∙ ap (held_in old) same ∙ there))) in
        (was.0, put.others t apart ∙ was.1, was.2);
  }
    where
      stays : (t : GridSegment) (f : Holding) → held_in new t ≡ Some f → t ≢ s
      stays t f at same = none-some f (sym put.here ∙ ap (held_in new) (sym same) ∙ at)

  -- ---- what clauses see
  pub seen_here : (old new : Pieces S) (s : GridSegment) (o : Option Holding) → Puts old new s o → map.get (seen_of new) s ≡ o
  seen_here old new s o put = get-seen new s ∙ put.here

  pub seen_others : (old new : Pieces S) (s : GridSegment) (o : Option Holding) → Puts old new s o
      → (t : GridSegment) → t ≢ s → map.get (seen_of new) t ≡ map.get (seen_of old) t
  seen_others old new s o put t other = get-seen new t ∙ put.others t other ∙ sym (get-seen old t)

  -- what was there before, written again, changes nothing
  pub seen_again : (old new : Pieces S) (s : GridSegment) (h g : Holding) → held_in old s ≡ Some h
      → Puts old new s (Some g) → g ≡ h → seen_of new ≡ seen_of old
  seen_again old new s h g there put same =
      let here = seen_here old new s (Some g) put ∙ ap (λ x. Some x) same ∙ sym there ∙ sym (get-seen old s) in
      same_registry (seen_of new) (seen_of old) s here (seen_others old new s (Some g) put)

  -- a piece that was held has one owner more
  pub adds_write : (old new : Pieces S) (r : Holdings) → seen_of old ≡ r → (s : GridSegment) (id : ℕ) (h g : Holding)
      → held_in old s ≡ Some h → Puts old new s (Some g) → g.key ≡ h.key → OneMore id h.owners g.owners
      → AddsOwner r (seen_of new) s id g.key
  adds_write old new r view s id h g there put key more =
      let was = get-seen old s ∙ there in
      let is = seen_here old new s (Some g) put in
      let others = seen_others old new s (Some g) put in
      rw (← view) (record {
        owners = λ x. rw (was, is) (more.0 x);
        key = rw is refl;
        key_stays = rw was (sym key);
        uses = uses_more _ _ s others (rw (was, is) more.1);
        others = others;
      })

  -- a new piece has its first owner
  pub adds_insert : (old new : Pieces S) (r : Holdings) → seen_of old ≡ r → (s : GridSegment) (id k : ℕ)
      → held_in old s ≡ None → Puts old new s (Some (holding_of k (id ∷ []))) → AddsOwner r (seen_of new) s id k
  adds_insert old new r view s id k none put =
      let was = get-seen old s ∙ none in
      let is = seen_here old new s _ put in
      let others = seen_others old new s _ put in
      rw (← view) (record {
        owners = λ x. rw (was, is) (first_owner id x);
        key = rw is refl;
        key_stays = rw was tt;
        uses = uses_more _ _ s others (rw (was, is) refl);
        others = others;
      })

  -- a piece has one owner fewer, and some are left
  pub drops_write : (old new : Pieces S) (r : Holdings) → seen_of old ≡ r → (s : GridSegment) (id : ℕ) (h g : Holding)
      → held_in old s ≡ Some h → Puts old new s (Some g) → g.key ≡ h.key → OneFewer id h.owners g.owners
      → DropsOwner r (seen_of new) s id
  drops_write old new r view s id h g there put key fewer =
      let was = get-seen old s ∙ there in
      let is = seen_here old new s (Some g) put in
      let others = seen_others old new s (Some g) put in
      rw (← view) (record {
        owners = λ x. rw (was, is) (fewer.0 x);
        key_stays = rw (is, was) (ap (λ k. Some k) (sym key));
        uses = λ p. sym (uses_more _ _ s (λ t other. sym (others t other)) (rw (was, is) (sym fewer.1)) p);
        others = others;
      })

  -- a piece goes with its last owner
  pub drops_remove : (old new : Pieces S) (r : Holdings) → seen_of old ≡ r → (s : GridSegment) (id : ℕ) (h : Holding)
      → held_in old s ≡ Some h → Puts old new s None → OneFewer id h.owners [] → DropsOwner r (seen_of new) s id
  drops_remove old new r view s id h there put fewer =
      let was = get-seen old s ∙ there in
      let is = seen_here old new s None put in
      let others = seen_others old new s None put in
      rw (← view) (record {
        owners = λ x. rw (was, is) (fewer.0 x);
        key_stays = rw is tt;
        uses = λ p. sym (uses_more _ _ s (λ t other. sym (others t other)) (rw (was, is) (sym fewer.1)) p);
        others = others;
      })
