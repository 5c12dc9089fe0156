-- This file shows that two files have one newest, or one damage.
use Rattle.std.proofs.Common.{◌≡◌, ◌≢◌, ◌⊎◌, inl, inr, ⊎_elim, ℕ, ◌<◌, ◌≤◌, List, length, take, drop, Some}
use Rattle.std.proofs.Common.{refl, sym, ◌∙◌, ap, subst, arith}
use Rattle.std.proofs.Math.Nat.{le_refl}
use Rattle.outside_world.specs.declared.world.FileName.{FileName}
use Rattle.outside_world.specs.declared.world.FileName.TheVariants.{A, B}
use Rattle.record_codec.specs.declared.header.Header.{Header}
use Rattle.record_codec.specs.Heads.{header_text}
use Rattle.record_codec.proofs.HeaderLemmas.{read_again}
use Rattle.realm_pages.specs.Generations.{Generation, page_count}
use Rattle.realm_pages.specs.Files.{Counts, HasHead, HoldsFirst}
use Rattle.realm_pages.specs.Damages.{CountsWith, IsNewest, LacksHead, AreTwins, HasPageFault, IsBroken, HasDamagedPages}
use Rattle.realm_pages.specs.declared.damage.Damage.{Damage}
use Rattle.realm_pages.specs.declared.damage.Damage.TheVariants.{BadPage, Twins}
use Rattle.realm_pages.specs.Finding.{HoldsNewest}
use Rattle.realm_pages.proofs.Counting.{fewest_once}
use Rattle.realm_pages.proofs.HeadLength.{head_size}
use Rattle.realm_pages.proofs.PagesOnce.{payload_once, no_fault, fault_once}

-- a file has one head
head_once : {file : List ℕ} {h k : Header} → HasHead file h → HasHead file k → h ≡ k
head_once {file} {h} {k} one also =
    let front = take 4095 (drop 1 file) in
    let of_h : front ≡ header_text h = ap (λ n. take n (drop 1 file)) (sym (head_size h)) ∙ one.stands in
    let of_k : front ≡ header_text k = ap (λ n. take n (drop 1 file)) (sym (head_size k)) ∙ also.stands in
    let read_h = read_again front h one.is_header of_h in
    let read_k = read_again front k also.is_header of_k in
    let same : Some h ≡ Some k = sym read_h ∙ read_k in
    cc

cases_file : (f : FileName) → (f ≡ A) ⊎ (f ≡ B)
cases_file A = inl refl
cases_file B = inr refl

not_b : A ≢ B
not_b is = cc

not_a : B ≢ A
not_a is = cc

module _ {files : FileName → List ℕ} where
  -- where both count, the newest has the greater generation
  less : {file other : FileName} {h k : Header} → IsNewest files file h → CountsWith (files other) k → other ≢ file
      → k.generation < h.generation
  less {file} {other} {h} {k} newest counts differ =
      let (old, head, lt) = newest.older other differ counts.counts in
      let same : old ≡ k = head_once head counts.head in
      subst (λ (x : Header). x.generation < h.generation) same lt

  -- so one of them is the newest,
  pub newest_once : {file other : FileName} {h k : Header} → IsNewest files file h → IsNewest files other k → (file ≡ other) × (h ≡ k)
  newest_once {file = A} {other = A} one also = (refl, head_once one.counts.head also.counts.head)
  newest_once {file = B} {other = B} one also = (refl, head_once one.counts.head also.counts.head)
  newest_once {file = A} {other = B} one also = absurd (omega (arith, less one also.counts not_a, less also one.counts not_b))
  newest_once {file = B} {other = A} one also = absurd (omega (arith, less one also.counts not_b, less also one.counts not_a))

  -- and a file with a head, which is not one that lacks it
  has_head : {file other : FileName} {h : Header} → IsNewest files file h → Counts (files other) → (k : Header) × HasHead (files other) k
  has_head {file = A} {other = A} newest counts = (_, newest.counts.head)
  has_head {file = B} {other = B} newest counts = (_, newest.counts.head)
  has_head {file = A} {other = B} newest counts = let found = newest.older B not_a counts in (found.0, found.1)
  has_head {file = B} {other = A} newest counts = let found = newest.older A not_b counts in (found.0, found.1)

  pub lacks_none : {damage : Damage} {file : FileName} {h : Header} → LacksHead files damage → IsNewest files file h → ⊥
  lacks_none lacks newest = let (k, head) = has_head newest lacks.counts in lacks.lacks k head

  pub no_twins : {damage : Damage} {file : FileName} {h : Header} → AreTwins files damage → IsNewest files file h → ⊥
  no_twins {file = A} twins newest =
      let same : twins.a ≡ _ = head_once twins.a_counts.head newest.counts.head in
      omega (arith, twins.same, ap (λ (x : Header). x.generation) same, less newest twins.b_counts not_a)
  no_twins {file = B} twins newest =
      let same : twins.b ≡ _ = head_once twins.b_counts.head newest.counts.head in
      omega (arith, twins.same, ap (λ (x : Header). x.generation) same, less newest twins.a_counts not_b)

  few : {file : FileName} {h : Header} → IsNewest files file h → h.pages ≤ page_count h.length
  few {h = h} newest = omega (arith, fewest_once h.length h.pages newest.counts.head.is_header.pages.0)

  -- ---- one generation

  pub generation_once : {file other : FileName} {g k : Generation} → HoldsNewest files file g → HoldsNewest files other k
      → (file ≡ other) × (g ≡ k)
  generation_once {file} {other} {g} {k} one also =
      let (same_file, same_head) = newest_once one.newest also.newest in
      let there = subst (λ f. HoldsNewest files f k) (sym same_file) also in
      let long : length k.payload ≡ length g.payload = ap (λ (x : Header). x.length) (sym same_head) in
      let pages = subst (λ n. HoldsFirst (files file) n (page_count n) k.payload) long there.holds.pages in
      let version : g.version ≡ k.version = ap (λ (x : Header). x.version) same_head in
      let number : g.number ≡ k.number = ap (λ (x : Header). x.generation) same_head in
      let payload : g.payload ≡ k.payload = payload_once (le_refl (page_count (length g.payload))) one.holds.pages pages in
      let same : g ≡ k = λ i. record { version = version i; number = number i; payload = payload i } in
      (same_file, same)

  -- ---- or one damage

  pub no_damage : {damage : Damage} {file : FileName} {g : Generation} → HasDamagedPages damage files → HoldsNewest files file g → ⊥
  no_damage (inl lacks) holds = lacks_none lacks holds.newest
  no_damage (inr (inl twins)) holds = no_twins twins holds.newest
  no_damage {damage} {g = g} (inr (inr broken)) holds =
      let (same_file, same_head) = newest_once holds.newest broken.newest in
      let of_head =
      subst (λ (h : Header). HasPageFault broken.file (files broken.file) h.length h.pages damage) (sym same_head) broken.fault in
      let fault = subst (λ f. HasPageFault f (files f) (length g.payload) (page_count (length g.payload)) damage) (sym same_file) of_head in
      no_fault (le_refl (page_count (length g.payload))) holds.holds.pages fault.before fault.within fault.fault

  -- a head of A lacks first,
  first_lacks : {d e : Damage} (one : LacksHead files d) (also : LacksHead files e) → one.file ≡ A → also.file ≡ B → ⊥
  first_lacks one also is_a is_b =
      let (k, head) = also.before is_b (subst (λ f. Counts (files f)) is_a one.counts) in
      one.lacks k (subst (λ f. HasHead (files f) k) (sym is_a) head)

  lacks_once : {d e : Damage} → LacksHead files d → LacksHead files e → d ≡ e
  lacks_once one also =
      let equal = λ (same : one.file ≡ also.file). one.is ∙ ap (λ f. BadPage f 0) same ∙ sym also.is in
      ⊎_elim
      (λ a. ⊎_elim (λ too. equal (a ∙ sym too)) (λ b. absurd (first_lacks one also a b)) (cases_file also.file))
      (λ b. ⊎_elim (λ a. absurd (first_lacks also one a b)) (λ too. equal (b ∙ sym too)) (cases_file also.file))
      (cases_file one.file)

  -- and twins have heads
  lacks_or_twins : {d e : Damage} → LacksHead files d → AreTwins files e → ⊥
  lacks_or_twins lacks twins =
      ⊎_elim
      (λ a. lacks.lacks twins.a (subst (λ f. HasHead (files f) twins.a) (sym a) twins.a_counts.head))
      (λ b. lacks.lacks twins.b (subst (λ f. HasHead (files f) twins.b) (sym b) twins.b_counts.head))
      (cases_file lacks.file)

  twins_once : {d e : Damage} → AreTwins files d → AreTwins files e → d ≡ e
  twins_once one also =
      let same = head_once one.a_counts.head also.a_counts.head in
      one.is ∙ ap (λ (x : Header). Twins x.generation) same ∙ sym also.is

  broken_once : {d e : Damage} → IsBroken files d → IsBroken files e → d ≡ e
  broken_once {d} {e} one also =
      let (same_file, same_head) = newest_once one.newest also.newest in
      let of_head = subst (λ (h : Header). HasPageFault also.file (files also.file) h.length h.pages e) (sym same_head) also.fault in
      fault_once (few one.newest) one.fault
      (subst (λ f. HasPageFault f (files f) one.head.length one.head.pages e) (sym same_file) of_head)

  pub damage_once : {d e : Damage} → HasDamagedPages d files → HasDamagedPages e files → d ≡ e
  damage_once (inl one) (inl also) = lacks_once one also
  damage_once (inl one) (inr (inl also)) = absurd (lacks_or_twins one also)
  damage_once (inl one) (inr (inr also)) = absurd (lacks_none one also.newest)
  damage_once (inr (inl one)) (inl also) = absurd (lacks_or_twins also one)
  damage_once (inr (inl one)) (inr (inl also)) = twins_once one also
  damage_once (inr (inl one)) (inr (inr also)) = absurd (no_twins one also.newest)
  damage_once (inr (inr one)) (inl also) = absurd (lacks_none also one.newest)
  damage_once (inr (inr one)) (inr (inl also)) = absurd (no_twins also one.newest)
  damage_once (inr (inr one)) (inr (inr also)) = broken_once one also

  -- which files have that count
  pub damage_counts : {d : Damage} → HasDamagedPages d files → ((file : FileName) → Counts (files file) → ⊥) → ⊥
  damage_counts (inl lacks) none = none lacks.file lacks.counts
  damage_counts (inr (inl twins)) none = none A twins.a_counts.counts
  damage_counts (inr (inr broken)) none = none broken.file broken.newest.counts.counts
