-- This file shows that the parts that are gathered by labels are the blocks.
use Rattle.std.proofs.Common.{◌≡◌, ℕ, zero, suc, ◌<◌, List, [], ◌∷◌}
use Rattle.std.proofs.Common.{length, get_or, map, All, Contains, refl, sym, ap, subst, ◌∙◌, inl, inr, ⊎_elim, arith}
use Rattle.std.proofs.lemmas.Bool.{cases_eq, cases_lt}
use Rattle.std.proofs.lemmas.List.Elements.{All-contains, Contains-get_or}
use Rattle.grid_base.specs.Segment.{GridSegment, IsSegmentBefore}
use Rattle.grid_base.proofs.Ends.{segment_before_itself}
use Rattle.rose_values.specs.Border.{AreSegmentsAscending}
use Rattle.linked_parts.specs.Parts.{Links, IsLink, AreLinked, AreLabels}
use Rattle.linked_parts.specs.Parts as parts
use Rattle.linked_parts.proofs.LinkedNumbers.{linked_here, linked_both}
use Rattle.r_blocks.specs.Blocks.{ShareAnEnd, LeadsOver, AreConnected, AreBlocks, AreInOrder}
use Rattle.r_blocks.specs.Places.{those, AllIndexed, AreLeast, ArePlaces}
use Rattle.grid_base.proofs.Elements.{same_place}
use Rattle.r_blocks.proofs.AtPlaces.{StandsAt, those_stand, those_have}

-- ---- linked and connected
-- the links join segments with a common end, and lead from each segment to each other with a common end
pub record AreLinksOf (list : List GridSegment) (links : Links) : Type 0 where
  pub below : All (λ l. (l.0 < length list) × (l.1 < length list)) links
  pub share : All (λ l. (d : GridSegment) → ShareAnEnd (get_or list l.0 d) (get_or list l.1 d)) links
  pub linked : (i j : ℕ) (d : GridSegment) → i < length list → j < length list
      → ShareAnEnd (get_or list i d) (get_or list j d) → AreLinked links i j

over_linked : (list : List GridSegment) (links : Links) → AreLinksOf list links
    → (s : GridSegment) (over : List GridSegment) (t : GridSegment)
    → LeadsOver list s over t → (i j : ℕ) → i < length list → j < length list → get_or list i s ≡ s → get_or list j t ≡ t
    → AreLinked links i j
over_linked list links of s [] t same i j i_below j_below i_is j_is =
    let t_is_s = same_place list j s t j_below ∙ j_is ∙ sym same in
    of.linked i j s i_below j_below (s.a, inl (ap (λ u. u.a) (sym i_is)), inl (ap (λ u. u.a) (sym t_is_s)))
over_linked list links of s (u ∷ over) t (there, share, rest) i j i_below j_below i_is j_is =
    let (m, m_below, m_is) = there in
    let m_too = same_place list m s u m_below ∙ m_is in
    let share_too = subst (λ x. ShareAnEnd x (get_or list m s)) (sym i_is) (subst (ShareAnEnd s) (sym m_too) share) in
    let first = of.linked i m s i_below m_below share_too in
    linked_both links i m j first (over_linked list links of u over t rest m j m_below j_below m_is j_is)

link_shares : (list : List GridSegment) (links : Links) → AreLinksOf list links → (i m : ℕ) (d : GridSegment) → IsLink links i m
    → (m < length list) × ShareAnEnd (get_or list i d) (get_or list m d)
link_shares list links of i m d (inl one) = (
  (All-contains (λ l. (l.0 < length list) × (l.1 < length list)) links (i, m) of.below one).1,
  All-contains (λ l. (e : GridSegment) → ShareAnEnd (get_or list l.0 e) (get_or list l.1 e)) links (i, m) of.share one d,
)
link_shares list links of i m d (inr one) =
    let shared = All-contains (λ l. (e : GridSegment) → ShareAnEnd (get_or list l.0 e) (get_or list l.1 e)) links (m, i) of.share in
    let (v, first, second) = shared one d in (
      (All-contains (λ l. (l.0 < length list) × (l.1 < length list)) links (m, i) of.below one).0,
      (v, second, first),
    )

over_connected : (list : List GridSegment) (links : Links) → AreLinksOf list links → (d : GridSegment)
    → (i : ℕ) (over : List ℕ) (j : ℕ) → parts.LeadsOver links i over j → AreConnected list (get_or list i d) (get_or list j d)
over_connected list links of d i [] j same = ([], ap (λ k. get_or list k d) same)
over_connected list links of d i (m ∷ over) j (one, rest) =
    let step = link_shares list links of i m d one in
    let later = over_connected list links of d m over j rest in
    (get_or list m d ∷ later.0, (Contains-get_or list m d step.0, step.1, later.1))

-- ---- the labels
-- labels that are the least of their part are labels of themselves
pub labels_least : (n : ℕ) (links : Links) (labels : List ℕ) → AreLabels n links labels → AreLeast labels
labels_least n links labels are k within =
    let below : k < n = omega (arith, within, are.one_each) in
    let low = are.least k k below below (linked_here links k) in
    let low_below : get_or labels k 0 < n = omega (arith, low, below) in
    (low, sym ((are.one_part k (get_or labels k 0) below low_below).1 (are.of_part k below)))

-- ---- the blocks
-- what the parts were made by
pub record AreGathered (list : List GridSegment) (links : Links) (labels places : List ℕ) (count : ℕ)
    (blocks : List (List GridSegment)) : Type 0 where
  pub of : AreLinksOf list links
  pub labels_are : AreLabels (length list) links labels
  pub places_are : ArePlaces (length list) labels places count
  pub as_many : length blocks ≡ count
  pub those_are : AllIndexed (λ p block. block ≡ those p places list) blocks

-- what a block has
in_block : (list : List GridSegment) (links : Links) (labels places : List ℕ) (count : ℕ) (blocks : List (List GridSegment))
    → AreGathered list links labels places count blocks → (block : List GridSegment) (s : GridSegment)
    → (there : Contains blocks block) → Contains block s → StandsAt there.0 places list s
in_block list links labels places count blocks made block s (p, below, is) has =
    those_stand p places list s (subst (λ b. Contains b s) (sym is ∙ made.those_are p block below) has)

-- a segment to stand where none does
origin : GridSegment
origin = record { a = record { x = 0; y = 0 }; b = record { x = 0; y = 0 } }

-- the root of a place comes before all segments of later places
pub blocks_in_order : (list : List GridSegment) (links : Links) (labels places : List ℕ) (count : ℕ) (blocks : List (List GridSegment))
    → AreSegmentsAscending list → AreGathered list links labels places count blocks → AreInOrder blocks
blocks_in_order list links labels places count blocks ascending made p q d before within =
    let p_below : p < count = omega (arith, before, within, made.as_many) in
    let first = made.places_are.first p p_below in
    let k = first.0 in
    let s = get_or list k origin in
    let has = those_have p places list k _ made.places_are.one_each first.1 first.3 in (
      s,
      subst (λ b. Contains b s) (sym (made.those_are p d (omega (arith, before, within)))) has,
      λ t there.
          let stands = those_stand q places list t (subst (λ b. Contains b t) (made.those_are q d within) there) in
          comes_first k first.1 first.2 first.3 t stands,
    )
  where
    comes_first : (k : ℕ) → k < length list → get_or labels k 0 ≡ k → get_or places k 0 ≡ p → (t : GridSegment) → StandsAt q places list t
        → IsSegmentBefore (get_or list k origin) t
    comes_first k k_below root place t stands =
        let labelled : stands.at < length labels = omega (arith, stands.within, made.labels_are.one_each) in
        let least = labels_least (length list) links labels made.labels_are stands.at labelled in
        let r = get_or labels stands.at 0 in
        let r_below : r < length list = omega (arith, least.0, stands.within) in
        let r_place : get_or places r 0 ≡ q = (made.places_are.by_label r stands.at r_below stands.within).1 least.1 ∙ stands.place in
        let earlier : k < stands.at = ⊎_elim
        (λ low. absurd (omega (arith, before, place, r_place, made.places_are.in_order r k low k_below least.1 root)))
        (λ high. ⊎_elim
        (λ same. absurd (omega (arith, before, place, r_place, ap (λ m. get_or places m 0) same)))
        (λ other. omega (arith, high, other, least.0))
        (cases_eq r k))
        (cases_lt r k) in
        subst (IsSegmentBefore (get_or list k _)) (same_place list stands.at _ t stands.within ∙ stands.is)
        (ascending k stands.at _ earlier stands.within)

-- one part where they are connected
pub blocks_are : (list : List GridSegment) (links : Links) (labels places : List ℕ) (count : ℕ) (blocks : List (List GridSegment))
    → AreGathered list links labels places count blocks → AreSegmentsAscending list → AreBlocks list blocks
blocks_are list links labels places count blocks made ascending = record {
  of_these = λ block s there has.
      let stands = in_block list links labels places count blocks made block s there has in
      (stands.at, stands.within, stands.is);
  each = λ s (k, within, is).
      let p = get_or places k 0 in
      let below : p < length blocks = omega (arith, made.places_are.below k within, made.as_many) in
      let block = those p places list in
      let has = subst (Contains block) is (those_have p places list k s made.places_are.one_each within refl) in
      (p, block, below, made.those_are p block below, has);
  connected = λ B C s t B_there C_there s_there t_there. (
    λ same.
        let first = in_block list links labels places count blocks made B s B_there s_there in
        let second = in_block list links labels places count blocks made B t B_there (subst (λ b. Contains b t) (sym same) t_there) in
        let label = (made.places_are.by_label first.at second.at first.within second.within).0 (first.place ∙ sym second.place) in
        let way = (made.labels_are.one_part first.at second.at first.within second.within).0 label in
        let joined = over_connected list links made.of s first.at way.0 second.at way.1 in
        let t_is = same_place list second.at s t second.within ∙ second.is in
        subst (λ u. AreConnected list u t) first.is (subst (AreConnected list (get_or list first.at s)) t_is joined),
    λ (over, leads).
        let first = in_block list links labels places count blocks made B s B_there s_there in
        let second = in_block list links labels places count blocks made C t C_there t_there in
        let way = over_linked list links made.of s over t leads first.at second.at first.within second.within first.is second.is in
        let label = (made.labels_are.one_part first.at second.at first.within second.within).1 way in
        let place = sym first.place ∙ (made.places_are.by_label first.at second.at first.within second.within).1 label ∙ second.place in
        sym (sym (made.those_are B_there.0 B B_there.1) ∙ B_there.2) ∙ ap (λ p. those p places list) place
        ∙ sym (made.those_are C_there.0 C C_there.1) ∙ C_there.2,
  );
  some = λ block (p, below, is).
      let root = made.places_are.first p (omega (arith, below, made.as_many)) in
      let has = those_have p places list root.0 origin made.places_are.one_each root.1 root.3 in
      (get_or list root.0 origin, subst (λ b. Contains b (get_or list root.0 origin)) (sym (made.those_are p block below) ∙ is) has);
  once = λ p q d before within same.
      let (s, here, first) = blocks_in_order list links labels places count blocks ascending made p q d before within in
      segment_before_itself s (first s (subst (λ b. Contains b s) same here));
}

-- ---- parts behind a view
-- what holds of each part by its number, as the view sees it, holds of the views
pub AllIndexed-map : {V : Type 0} (items : V → List GridSegment) (P : ℕ → List GridSegment → Type 0) (vs : List V)
    → AllIndexed (λ p v. P p (items v)) vs → AllIndexed P (map items vs)
AllIndexed-map items P [] all k d within = absurd (omega (arith, within))
AllIndexed-map items P (v ∷ vs) all zero d within = all 0 v (omega arith)
AllIndexed-map items P (v ∷ vs) all (suc k) d within =
    AllIndexed-map items (λ p. P (suc p)) vs (λ p e below. all (suc p) e (omega arith)) k d (omega (arith, within))
