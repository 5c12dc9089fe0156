-- This file shows that two files have one reading: one state with one place, or one damage.
use Rattle.std.proofs.Common.{◌≡◌, inl, inr, ℕ, ◌+◌, ◌<◌, Bool, true, List, length, Option, Some, None}
use Rattle.std.proofs.Common.{refl, sym, ◌∙◌, ap, subst}
use Rattle.outside_world.specs.declared.world.FileName.{FileName}
use Rattle.record_codec.specs.declared.record.Record.{Record}
use Rattle.realm_journal.specs.Gates.{IsOpenAt}
use Rattle.realm_pages.specs.Generations.{Generation, gate_of}
use Rattle.realm_pages.specs.Finding.{HoldsNewest}
use Rattle.realm_pages.specs.declared.damage.Damage.{Damage}
use Rattle.realm_pages.specs.declared.damage.Damage.TheVariants.{BadSnapshot, BadRecord}
use Rattle.realm_pages.proofs.FilesOnce.{generation_once, no_damage, damage_once, damage_counts}
use Rattle.realm_files.specs.Meaning.{Meaning}
use Rattle.realm_files.specs.Rows.{AreLed, LacksRecord}
use Rattle.realm_files.specs.Stands.{Files, StandsOn, StandsAt, StandsFor, ReachesTo, generation_at}
use Rattle.realm_files.specs.Keeping.{Kept, RestsAt, KnowsGate, StandsGated}
use Rattle.realm_files.specs.Damages.{IsNoState, HasBadRecord, IsDamaged}
use Rattle.realm_files.specs.declared.place.Place.{Place}
use Rattle.realm_files.proofs.LedOnce.{closed_lacks, one_row}

-- where files reach to a gate that is there, this is known
gate_known : (files : Files) {has_gate : Bool} (place : Option Place) → ReachesTo files place true → ReachesTo files place has_gate
    → ((p : Place) → place ≡ Some p → p.next < length (files p.file) → has_gate ≡ true) → has_gate ≡ true
gate_known files None there reach knows = reach
gate_known files (Some p) there reach knows = knows p refl (there.1 refl)

module _ {S : Type 0} (m : Meaning S) (opens_once : (payload : List ℕ) (s t : S) → m.opens payload s → m.opens payload t → s ≡ t)
    (leads_once : (s a b : S) (r : Record) → m.leads s r a → m.leads s r b → a ≡ b) (files : Files) where
  -- one row of records on the newest file, from one state on
  record Row (file : FileName) (g : Generation) (s : S) (place count : ℕ) : Type 0 where
    newest : HoldsNewest files file g
    first : S
    opens : m.opens g.payload first
    records : List Record
    led : AreLed m first records (gate_of g) (files file) s place
    lacks : LacksRecord m s place (files file)
    count_is : count ≡ length records

  rows_once : {f h : FileName} {g k : Generation} {s t : S} {p q n o : ℕ} → Row f g s p n → Row h k t q o
      → (f ≡ h) × (g ≡ k) × (s ≡ t) × (p ≡ q) × (n ≡ o)
  rows_once {f} {h} {g} {k} {s} {t} {p} {q} one also =
      let (file, same) = generation_once one.newest also.newest in
      let opened = subst (λ (x : Generation). m.opens x.payload also.first) (sym same) also.opens in
      let first = opens_once g.payload also.first one.first opened one.opens in
      let of_file = subst (λ x. AreLed m also.first also.records (gate_of k) (files x) t q) (sym file) also.led in
      let of_gate = subst (λ x. AreLed m also.first also.records (gate_of x) (files f) t q) (sym same) of_file in
      let of_first = subst (λ x. AreLed m x also.records (gate_of g) (files f) t q) first of_gate in
      let row = one_row m leads_once (files f) one.records also.records one.first s t (gate_of g) p q one.led one.lacks of_first
      (subst (λ x. LacksRecord m t q (files x)) (sym file) also.lacks) in
      (file, same, row.0, row.1, one.count_is ∙ row.2 ∙ sym also.count_is)

  row_stands : {state : S} {place : Place} (stands : StandsOn m files state place)
      → Row place.file (generation_at place stands.payload) state place.next (length stands.records)
  row_stands {state} {place} stands = record {
    newest = stands.newest;
    first = stands.first;
    opens = stands.opens;
    records = stands.records;
    led = stands.lead.0;
    lacks = closed_lacks m state place.next (files place.file) stands.lead.1;
    count_is = refl;
  }

  row_bad : {damage : Damage} (bad : HasBadRecord m files damage)
      → Row bad.file bad.generation bad.ends.state bad.ends.place (length bad.records)
  row_bad bad = record {
    newest = bad.newest;
    first = bad.first;
    opens = bad.opens;
    records = bad.records;
    led = bad.ends.led;
    lacks = bad.ends.lacks;
    count_is = refl;
  }

  -- ---- one state

  same_place : (p q : Place) → p.file ≡ q.file → p.version ≡ q.version → p.generation ≡ q.generation → p.next ≡ q.next → p ≡ q
  same_place p q file version generation next = λ i. record {
    file = file i;
    version = version i;
    generation = generation i;
    next = next i;
  }

  pub stands_once : (s t : S) (p q : Option Place) → StandsAt m files s p → StandsAt m files t q → (s ≡ t) × (p ≡ q)
  stands_once s t None None one also = (one.1 ∙ sym also.1, refl)
  stands_once s t None (Some q) one also = absurd (one.0 q.file also.newest.holds.counts)
  stands_once s t (Some p) None one also = absurd (also.0 p.file one.newest.holds.counts)
  stands_once s t (Some p) (Some q) one also =
      let (file, generation, state, next, count) = rows_once (row_stands one) (row_stands also) in
      let version : p.version ≡ q.version = ap (λ (g : Generation). g.version) generation in
      let number : p.generation ≡ q.generation = ap (λ (g : Generation). g.number) generation in
      (state, ap (λ x. Some x) (same_place p q file version number next))

  -- where they reach to a next gate that is there in one reading, it is there in each that knows it
  pub has_gate : {state : S} {kept : Kept S} → StandsGated m files state → RestsAt m kept files → KnowsGate kept files
      → kept.has_gate ≡ true
  has_gate {state} {kept} (place, gated) rests knows =
      let same = (stands_once state kept.state place kept.place gated.stands rests.stands).1 in
      gate_known files kept.place (subst (λ p. ReachesTo files p true) same gated.reach) rests.reach knows

  -- ---- or one damage

  opened_state : {damage : Damage} {f : FileName} {g : Generation} {first : S} → IsNoState m files damage → HoldsNewest files f g
      → m.opens g.payload first → ⊥
  opened_state {first = first} none newest opens =
      let same = (generation_once none.newest newest).1 in
      none.none first (subst (λ (x : Generation). m.opens x.payload first) (sym same) opens)

  bad_stands : {damage : Damage} {state : S} {place : Place} (bad : HasBadRecord m files damage) → StandsOn m files state place → ⊥
  bad_stands {place = place} bad stands =
      let (file, generation, state, next, count) = rows_once (row_bad bad) (row_stands stands) in
      let open_there = subst (λ k. IsOpenAt k (files bad.file)) next bad.ends.is_open in
      stands.lead.1 (subst (λ f. IsOpenAt place.next (files f)) file open_there)

  pub none_damaged : (damage : Damage) (state : S) → IsDamaged m damage files → StandsFor m files state → ⊥
  none_damaged damage state (inl page) (None, stands) = damage_counts page stands.0
  none_damaged damage state (inl page) (Some place, stands) = no_damage page stands.newest
  none_damaged damage state (inr (inl none)) (None, stands) = stands.0 none.file none.newest.holds.counts
  none_damaged damage state (inr (inl none)) (Some place, stands) = opened_state none stands.newest stands.opens
  none_damaged damage state (inr (inr bad)) (None, stands) = stands.0 bad.file bad.newest.holds.counts
  none_damaged damage state (inr (inr bad)) (Some place, stands) = bad_stands bad stands

  pub damaged_once : (d e : Damage) → IsDamaged m d files → IsDamaged m e files → d ≡ e
  damaged_once d e (inl one) (inl also) = damage_once one also
  damaged_once d e (inl one) (inr (inl also)) = absurd (no_damage one also.newest)
  damaged_once d e (inl one) (inr (inr also)) = absurd (no_damage one also.newest)
  damaged_once d e (inr (inl one)) (inl also) = absurd (no_damage also one.newest)
  damaged_once d e (inr (inr one)) (inl also) = absurd (no_damage also one.newest)
  damaged_once d e (inr (inl one)) (inr (inl also)) =
      one.is ∙ ap (λ f. BadSnapshot f) (generation_once one.newest also.newest).0 ∙ sym also.is
  damaged_once d e (inr (inl one)) (inr (inr also)) = absurd (opened_state one also.newest also.opens)
  damaged_once d e (inr (inr one)) (inr (inl also)) = absurd (opened_state also one.newest one.opens)
  damaged_once d e (inr (inr one)) (inr (inr also)) =
      let (file, generation, state, next, count) = rows_once (row_bad one) (row_bad also) in
      one.is ∙ (λ i. BadRecord (file i) (count i + 1)) ∙ sym also.is
