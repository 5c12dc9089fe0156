-- This file shows what is known of files at rest, and what leaves them so.
use Rattle.std.proofs.Common.{◌≡◌, inl, inr, ⊎_elim, true, List, ℕ, refl, sym, ◌∙◌, subst}
use Rattle.outside_world.specs.declared.world.FileName.{FileName}
use Rattle.outside_world.specs.View.{View, IsStable, AllStable}
use Rattle.outside_world.specs.Calls.{SameFiles}
use Rattle.outside_world.specs.Since.{WritesOnly}
use Rattle.realm_journal.specs.Gates.{HasClosedAt}
use Rattle.realm_journal.specs.Appending.{IsShut}
use Rattle.realm_files.specs.Meaning.{Meaning}
use Rattle.realm_files.specs.Stands.{Files, ReachesTo}
use Rattle.realm_files.specs.Keeping.{Kept, at_gate, RestsAt, AllRest, StandsGated}
use Rattle.realm_files.specs.Writing.{InEachImage, RestsFrom}
use Rattle.realm_files.specs.declared.place.Place.{Place}
use Rattle.realm_files.proofs.Pairs.{same_or, same_files}

-- ---- stable files

-- a crash leaves them as they read
pub left_as_read : (v : View) → AllStable v → (files : Files) → ((f : FileName) → v.image f (files f)) → files ≡ v.reads
left_as_read v stable files images = same_files (λ f. stable f (files f) (images f))

-- what leaves the files as they were leaves them stable
pub stable_then : {old new : View} → SameFiles old new → AllStable old → AllStable new
stable_then same stable = λ f c may. stable f c (same.images f c may) ∙ sym (same.reads f)

-- and so does what writes one file and leaves that stable
pub stable_by_writing : {old new : View} {file : FileName} {may_be : List ℕ → Type 0} → WritesOnly old new file may_be
    → AllStable old → IsStable new file → AllStable new
stable_by_writing {new = new} {file} writes stable here f =
    ⊎_elim
    (λ same. subst (λ g. IsStable new g) (sym same) here)
    (λ differ c may. stable f c (writes.others f c differ may) ∙ sym (writes.other_reads f differ))
    (same_or f file)

module _ {S : Type 0} (m : Meaning S) where
  -- ---- files at rest

  -- they rest in each image
  pub rest_in_each : {kept : Kept S} {v : View} → AllRest m kept v → InEachImage v (RestsAt m kept)
  rest_in_each {kept} {v} rest files images =
      subst (λ l. RestsAt m kept l) (sym (left_as_read v rest.stable files images)) rest.rests

  -- and their next gate is closed there, within its file
  pub shut_at_rest : {state : S} {place : Place} {v : View} → AllRest m (at_gate state place) v → IsShut v place.file place.next
  shut_at_rest {place = place} rest c image =
      subst (λ l. HasClosedAt place.next l) (sym (rest.stable place.file c image)) (rest.rests.reach.1 refl, rest.rests.stands.lead.1)

  -- what leaves the files as they were leaves them at rest
  pub rest_then : {kept : Kept S} {old new : View} → SameFiles old new → AllRest m kept old → AllRest m kept new
  rest_then {kept} same rest = record {
    stable = stable_then same rest.stable;
    rests = subst (λ l. RestsAt m kept l) (sym (same_files same.reads)) rest.rests;
  }

  -- ---- files whose next gate is there

  -- they stand for the state that is kept,
  pub stands_gated : {kept : Kept S} {files : Files} → kept.has_gate ≡ true → RestsAt m kept files → StandsGated m files kept.state
  stands_gated {kept} {files} has rests =
      (kept.place, record { stands = rests.stands; reach = subst (λ b. ReachesTo files kept.place b) has rests.reach })

  -- also where that gate came with a generation of its own
  pub stands_gated_from : {kept : Kept S} {files : Files} → kept.has_gate ≡ true → RestsFrom m kept files
      → StandsGated m files kept.state
  stands_gated_from has (inl rests) = stands_gated has rests
  stands_gated_from has (inr rests) = stands_gated refl rests
