-- This file shows what two files stand for while the next generation, of any state, is put on the one that isn't the newest.
use Rattle.std.proofs.Common.{◌≡◌, ◌≢◌, ◌⊎◌, inl, inr, ⊎_elim, ℕ, ◌<◌, ◌≤◌, Bool, true, List, [], length, Option, Some, None}
use Rattle.std.proofs.Common.{refl, sym, subst, arith}
use Rattle.std.specs.Prelude.{Result, Ok, Err, OnOk}
use Rattle.outside_world.specs.declared.world.FileName.{FileName}
use Rattle.outside_world.specs.declared.world.FileName.TheVariants.{A, B}
use Rattle.outside_world.specs.View.{View, Moment, MayLeave, IsStable}
use Rattle.outside_world.specs.Since.{OnlyAdds}
use Rattle.outside_world.proofs.Moments.{only_wider}
use Rattle.record_codec.specs.declared.header.Header.{Header}
use Rattle.realm_journal.specs.declared.error.JournalError.{JournalError as SwitchError}
use Rattle.realm_pages.specs.Generations.{Generation, gate_of, header_of}
use Rattle.realm_pages.specs.Files.{Counts, HasHead, Holds, HoldsAlone}
use Rattle.realm_pages.specs.Damages.{IsNewest}
use Rattle.realm_pages.specs.Finding.{HoldsNewest}
use Rattle.realm_pages.specs.Switching.{Switched, MayTake, HasSameNewest, IsNewestKept, KeepsNewest}
use Rattle.realm_pages.proofs.FilesOnce.{newest_once}
use Rattle.realm_files.specs.Meaning.{Meaning}
use Rattle.realm_files.specs.Rows.{AreRecords}
use Rattle.realm_files.specs.Stands.{Files, StandsAt, ReachesTo, numbered, generation_at}
use Rattle.realm_files.specs.Keeping.{Kept, RestsAt, AllRest, at_gate}
use Rattle.realm_files.specs.Writing.{other_file, next_file, next_generation, version_now, renewed_place, Renewed}
use Rattle.realm_files.specs.declared.place.Place.{Place}
use Rattle.realm_files.proofs.Pairs.{not_a, not_b, same_or}
use Rattle.realm_files.proofs.Rests.{stable_by_writing, rest_in_each}

-- two facts of the same crashes hold of each
only_both : {X : Type 0} {now : ℕ} {past since : ℕ → X → Type 0} {P Q : X → Type 0} → OnlyAdds now past since P
    → OnlyAdds now past since Q → OnlyAdds now past since (λ x. P x × Q x)
only_both first second = record {
  nothing_else = λ t x early is.
      ⊎_elim (λ was. inl was) (λ p. ⊎_elim (λ was. inl was) (λ q. inr (p, q)) (second.nothing_else t x early is))
      (first.nothing_else t x early is);
}

-- the next file is another than the newest
other_differs : (f : FileName) → f ≢ other_file f
other_differs A = not_b
other_differs B = not_a

module _ {S : Type 0} (m : Meaning S) where
  -- ---- files that stand for a state

  -- what counts of them is older than the next generation,
  older_at : (state : S) (place : Option Place) (f : FileName) (files : Files) → StandsAt m files state place → Counts (files f)
      → (h : Header) × HasHead (files f) h × (h.generation < next_generation place)
  older_at state None f files stands counts = absurd (stands.0 f counts)
  older_at state (Some place) f files stands counts =
      let g = generation_at place stands.payload in
      ⊎_elim
      (λ same. (
        header_of g,
        subst (λ x. HasHead (files x) (header_of g)) (sym same) stands.newest.newest.counts.head,
        omega arith,
      ))
      (λ differ.
      let (old, head, lt) = stands.newest.newest.older f differ counts in
      (old, head, omega (arith, lt)))
      (same_or f place.file)

  -- and the next file isn't their newest
  not_newest_at : (state : S) (place : Option Place) (files : Files) (h : Header) → StandsAt m files state place
      → IsNewest files (next_file place) h → ⊥
  not_newest_at state None files h stands newest = stands.0 A newest.counts.counts
  not_newest_at state (Some place) files h stands newest = other_differs place.file (newest_once stands.newest.newest newest).0

  -- files with the same newest stand for the same,
  stands_same : (state : S) (place : Option Place) {before files : Files} → HasSameNewest before files
      → StandsAt m before state place → StandsAt m files state place
  stands_same state None same stands = (same.none stands.0, stands.1)
  stands_same state (Some place) same stands =
      let g = generation_at place stands.payload in
      let (newest, bytes) = same.newest place.file (header_of g) stands.newest.newest in
      record {
        payload = stands.payload;
        newest = record { newest = newest; holds = subst (λ l. Holds l g) (sym bytes) stands.newest.holds };
        first = stands.first;
        opens = stands.opens;
        records = stands.records;
        lead = subst (λ l. AreRecords m stands.first stands.records (gate_of g) l state place.next) (sym bytes) stands.lead;
      }

  -- and reach as far
  reach_same : (state : S) (has_gate : Bool) (place : Option Place) {before files : Files} → HasSameNewest before files
      → StandsAt m before state place → ReachesTo before place has_gate → ReachesTo files place has_gate
  reach_same state has_gate None same stands reach = reach
  reach_same state has_gate (Some place) same stands reach =
      let g = generation_at place stands.payload in
      let (newest, bytes) = same.newest place.file (header_of g) stands.newest.newest in
      subst (λ (l : List ℕ). (place.next ≤ length l) × (has_gate ≡ true → place.next < length l)) (sym bytes) reach

  rests_same : {kept : Kept S} {before files : Files} → HasSameNewest before files → RestsAt m kept before → RestsAt m kept files
  rests_same {kept} same rests = record {
    stands = stands_same kept.state kept.place same rests.stands;
    reach = reach_same kept.state kept.has_gate kept.place same rests.stands rests.reach;
  }

  -- where the first record's gate stands in a file that holds the generation
  abbrev first_gate : FileName → Generation → Place
  first_gate file g = record { file = file; version = g.version; generation = g.number; next = gate_of g }

  -- files of which the newest holds this generation and no record rest there
  rests_renewed : {state : S} (file : FileName) (version number : ℕ) (payload : List ℕ) → m.opens payload state → (files : Files)
      → HoldsNewest files file (numbered version number payload) → HoldsAlone (files file) (numbered version number payload)
      → RestsAt m (at_gate state (first_gate file (numbered version number payload))) files
  rests_renewed {state} file version number payload opens files newest alone = record {
    stands = record {
      payload = payload;
      newest = newest;
      first = state;
      opens = opens;
      records = [];
      lead = ((refl, refl), alone.closed);
    };
    reach = (omega (arith, alone.within), λ _. alone.within);
  }

  module _ {old : View} (kept : Kept S) (rest : AllRest m kept old) where
    -- the next generation
    abbrev next_with : List ℕ → Generation
    next_with payload = numbered version_now (next_generation kept.place) payload

    -- where all rests, it may be put on the other file
    may_take : (payload : List ℕ) → MayTake old (next_file kept.place) (next_with payload)
    may_take payload = record {
      older = λ f c image counts.
          let same = rest.stable f c image in
          let (h, head, lt) = older_at kept.state kept.place f old.reads rest.rests.stands (subst (λ l. Counts l) same counts) in
          (h, subst (λ l. HasHead l h) (sym same) head, lt);
      not_newest = λ files h images newest. not_newest_at kept.state kept.place files h (rest_in_each m rest files images).stands newest;
    }

    module _ (payload : List ℕ) {after : S} (opens : m.opens payload after) where
      abbrev place : Place
      place = renewed_place kept.place payload

      abbrev g : Generation
      g = next_with payload

      abbrev RestAtEither : Files → Type 0
      RestAtEither files = RestsAt m kept files ⊎ RestsAt m (at_gate after place) files

      -- and while it is put there, the files rest at what is kept, or at the state of its payload, behind it
      at_moment : (files : Files) → IsNewestKept old place.file g files → RestAtEither files
      at_moment files (inl (before, images, same)) = inl (rests_same same (rest_in_each m rest before images))
      at_moment files (inr (newest, alone)) = inr (rests_renewed place.file version_now place.generation payload opens files newest alone)

      module _ (new : View) (counts : (a : Moment) → MayLeave new a → new.left_since old.moment a)
          (only : (a : Moment) → old.left_since old.moment a → MayLeave old a) where
        rest_now : {r : Result ℕ SwitchError} → KeepsNewest old new place.file g r → (files : Files)
            → ((f : FileName) → new.image f (files f)) → RestAtEither files
        rest_now keeps files images =
            let here : Moment = record { given = new.given; files = files } in
            ⊎_elim
            (λ before. inl (rest_in_each m rest files (only here before).1))
            (λ is. at_moment files is)
            (keeps.crash.nothing_else old.moment here (omega arith) (counts here (refl, images)))

        renewed : (r : Result ℕ SwitchError) → ((f : FileName) → new.image f (new.reads f)) → Switched old new place.file g r
            → KeepsNewest old new place.file g r → Renewed m old new kept (at_gate after place) r
        renewed r reads switched keeps = record {
          replaced = record {
            takes = switched.writes.takes;
            given = switched.writes.given;
            crash = only_wider (only_both switched.writes.crash keeps.crash) (λ a both. (both.0.given, at_moment a.files both.1));
            now = rest_now keeps;
          };
          rest = at_ok r switched.whole switched.stable keeps.newest;
        }
          where
            at_ok : (r : Result ℕ SwitchError) → OnOk r ((c : List ℕ) → new.image place.file c → HoldsAlone c g)
                → OnOk r (IsStable new place.file)
                → OnOk r ((files : Files) → ((f : FileName) → new.image f (files f)) → HoldsNewest files place.file g)
                → OnOk r (AllRest m (at_gate after place) new)
            at_ok (Ok n) whole stable newest = record {
              stable = stable_by_writing switched.writes rest.stable stable;
              rests = rests_renewed place.file version_now place.generation payload opens new.reads (newest new.reads reads)
                  (whole (new.reads place.file) (reads place.file));
            }
            at_ok (Err e) whole stable newest = tt

    -- so it is with each generation of this version that has the next number
    pub renewed_by : {new : View} {file : FileName} {g : Generation} {after : S} {r : Result ℕ SwitchError}
        → file ≡ next_file kept.place → g.version ≡ version_now → g.number ≡ next_generation kept.place → m.opens g.payload after
        → ((f : FileName) → new.image f (new.reads f))
        → ((a : Moment) → MayLeave new a → new.left_since old.moment a)
        → ((a : Moment) → old.left_since old.moment a → MayLeave old a) → Switched old new file g r
        → (MayTake old file g → KeepsNewest old new file g r)
        → Renewed m old new kept (at_gate after (renewed_place kept.place g.payload)) r
    renewed_by {new} {file} {g} {r = r} there version number opens reads counts only switched keeps =
        let next : g ≡ next_with g.payload = λ i. numbered (version i) (number i) g.payload in
        let to = subst (λ f. Switched old new f (next_with g.payload) r) there
        (subst (λ (k : Generation). Switched old new file k r) next switched) in
        let on = subst (λ f. MayTake old f (next_with g.payload) → KeepsNewest old new f (next_with g.payload) r) there
        (subst (λ (k : Generation). MayTake old file k → KeepsNewest old new file k r) next keeps) in
        renewed g.payload opens new counts only r reads to (on (may_take g.payload))
