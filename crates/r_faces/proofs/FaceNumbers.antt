-- This file shows that a region has as many faces as there are numbers on the odd sides of its border.
use Rattle.std.proofs.Common.{◌≡◌, ◌↔◌, ℕ, suc, ◌<◌, List, [], ◌∷◌, Contains, AllPairs, length, slice_index}
use Rattle.std.proofs.Common.{refl, sym, ap, subst, ◌∙◌, inl, inr, arith}
use Rattle.std.proofs.lemmas.List.Kept.{AllPairs-cons}
use Rattle.std.proofs.lemmas.List.Elements.{Contains-get_or}
use Rattle.grid_base.specs.Segment.{GridSegment}
use Rattle.grid_base.specs.Plane.{Place}
use Rattle.grid_base.specs.Odd.{Odd}
use Rattle.grid_base.proofs.Elements.{Contains-here, Contains-later, Contains-cases, Contains-nil, same_place}
use Rattle.plane_classes.specs.Classes.{AreInOneClass, IsOuter}
use Rattle.plane_classes.proofs.ClassLemmas.{one_class_joined}
use Rattle.plane_cells.specs.Numbered.{numbered}
use Rattle.plane_cells.specs.ClassNumbers.{number_at, AreClassNumbers}
use Rattle.plane_cells.specs.declared.classes.SideClasses.{SideClasses}
use Rattle.plane_cells.proofs.ShearedSides.{free_beside}
use Rattle.r_faces.specs.Faces.{IsNumberOfFaces}
use Rattle.r_faces.specs.Rims.{AreOddSides}
use Rattle.r_faces.proofs.OddNumbers.{IsOddOf, AreOddNumbers}

-- ---- one odd place for each number
record HasPlaces (B : List GridSegment) (numbers : List SideClasses) (ns : List ℕ) : Type 0 where
  places : List Place
  count : length places ≡ length ns
  from : (q : Place) → Contains places q → (n : ℕ) × Contains ns n × IsOddOf B numbers n q
  to : (n : ℕ) → Contains ns n → (q : Place) × Contains places q × IsOddOf B numbers n q
  apart : AllPairs (λ p q. AreInOneClass B p q → ⊥) places

-- places of one class have one number
one_number : (B : List GridSegment) (numbers : List SideClasses) (m n : ℕ) (p q : Place) → AreClassNumbers B numbers
    → IsOddOf B numbers m p → IsOddOf B numbers n q → AreInOneClass B p q → m ≡ n
one_number B numbers m n p q classes of_p of_q one =
    of_p.number ∙ (classes.one_class of_p.place of_q.place of_p.side of_q.side p q of_p.lies of_q.lies).1 one ∙ sym of_q.number

ascending_tail : (n : ℕ) (ns : List ℕ) → AllPairs (λ x y. x < y) (n ∷ ns) → AllPairs (λ x y. x < y) ns
ascending_tail n ns ascending i j d before within = ascending (suc i) (suc j) d (omega arith) (omega arith)

ascending_head : (n : ℕ) (ns : List ℕ) → AllPairs (λ x y. x < y) (n ∷ ns) → (m : ℕ) → Contains ns m → n < m
ascending_head n ns ascending m (k, within, is) = subst (λ x. n < x) is (ascending 0 (suc k) m (omega arith) (omega (arith, within)))

has_places : (B : List GridSegment) (numbers : List SideClasses) (ns : List ℕ) → AreClassNumbers B numbers
    → AllPairs (λ x y. x < y) ns → ((n : ℕ) → Contains ns n → (q : Place) × IsOddOf B numbers n q) → HasPlaces B numbers ns
has_places B numbers [] classes ascending some = record {
  places = [];
  count = refl;
  from = λ q there. absurd (Contains-nil q there);
  to = λ n there. absurd (Contains-nil n there);
  apart = λ i j d before within. absurd (omega (arith, within));
}
has_places B numbers (n ∷ ns) classes ascending some =
    let first = some n (Contains-here n ns) in
    let rest = has_places B numbers ns classes (ascending_tail n ns ascending) (λ m there. some m (Contains-later n ns m there)) in record {
      places = first.0 ∷ rest.places;
      count = ap suc rest.count;
      from = λ q there. elim (Contains-cases first.0 rest.places q there) [
        | inl same ↦ (n, Contains-here n ns, subst (IsOddOf B numbers n) same first.1)
        | inr later ↦ let f = rest.from q later in (f.0, Contains-later n ns f.0 f.1, f.2)
      ];
      to = λ m there. elim (Contains-cases n ns m there) [
        | inl same ↦ (first.0, Contains-here first.0 rest.places, subst (λ k. IsOddOf B numbers k first.0) same first.1)
        | inr later ↦ let t = rest.to m later in (t.0, Contains-later first.0 rest.places t.0 t.1, t.2)
      ];
      apart = AllPairs-cons (λ p q. AreInOneClass B p q → ⊥) first.0 rest.places
          (λ k d within one.
          let there = Contains-get_or rest.places k d within in
          let f = rest.from _ there in
          let same = one_number B numbers n f.0 first.0 _ classes first.1 f.2 one in
          absurd (omega (arith, same, ascending_head n ns ascending f.0 f.1)))
          rest.apart;
    }

-- ---- a side of each segment is odd
pub by_sides : (B : List GridSegment) (numbers : List SideClasses) (k : ℕ) (list : List ℕ) → AreOddSides B numbers k list
    → AreOddNumbers B numbers k list
by_sides B numbers k list sides = record {
  only = λ n there.
      (let has = sides.each there.0 (subst (λ m. there.0 < m) sides.one_each there.1) in (
        has.place,
        record {
          place = there.0;
          side = has.side;
          lies = has.lies;
          odd = has.odd;
          number = sym there.2 ∙ same_place list there.0 n 0 there.1 ∙ has.is;
        },
      ));
  all = λ i d q below lies odd.
      (let has = sides.each i below in
      let within = subst (λ m. i < m) (sym sides.one_each) below in
      let is : slice_index list i ≡ number_at numbers i d = has.is ∙ ap (number_at numbers i) (sym (has.only d q lies odd)) in
      (i, within, same_place list i _ 0 within ∙ is));
}

-- ---- the faces
pub faces_by_numbers : (B : List GridSegment) (numbers : List SideClasses) (list ns : List ℕ) → AreClassNumbers B numbers
    → ((p : Place) → IsOuter B p → Odd B p → ⊥) → ((p q : Place) → AreInOneClass B p q → Odd B p ↔ Odd B q)
    → AreOddNumbers B numbers (length B) list → AllPairs (λ x y. x < y) ns → ((n : ℕ) → Contains ns n ↔ Contains list n)
    → IsNumberOfFaces B (length ns)
faces_by_numbers B numbers list ns classes outer one_parity odd ascending same =
    let has = has_places B numbers ns classes ascending (λ n there. odd.only n ((same n).0 there)) in (
      has.places,
      record {
        interior = λ q there. let f = has.from q there in (free_beside B (numbered B f.2.place) f.2.side q f.2.lies.beside, f.2.odd);
        apart = has.apart;
        each = λ q inner. elim (classes.each_class q inner.0) [
          | inl is_outer ↦ absurd (outer q is_outer inner.1)
          | inr by_some ↦
              let (i, d, p, lies, one) = by_some in
              let p_odd = (one_parity q p one).0 inner.1 in
              let there = (same _).1 (odd.all i d p lies.within lies p_odd) in
              let t = has.to _ there in
              let of_p = t.2 in
              let p_to = (classes.one_class i of_p.place d of_p.side p t.0 lies of_p.lies).0 of_p.number in
              (t.1.0, t.0, t.1.1, t.1.2, one_class_joined B q p t.0 one p_to)
        ];
      },
      has.count,
    )
