-- This file shows that the least linked labels of other segments tell whether they lie in the outer class.
use Rattle.std.proofs.Common.{◌≡◌, ℕ, ◌<◌, ◌==◌, Bool, true, List, [], ◌∷◌, ◌++◌, length, slice_index}
use Rattle.std.proofs.Common.{slice_index_or}
use Rattle.std.proofs.Common.{refl, sym, subst, ◌∙◌, arith}
use Rattle.std.specs.List.{AllZip}
use Rattle.grid_base.specs.Grid.{grid_side}
use Rattle.grid_base.specs.Segment.{GridSegment}
use Rattle.grid_base.specs.Sides.{Side, On, Left, Right}
use Rattle.grid_base.specs.Plane.{Tells}
use Rattle.grid_base.proofs.Elements.{same_place}
use Rattle.grid_base.proofs.Signs.{left_off, right_off}
use Rattle.plane_classes.specs.Classes.{IsOuter}
use Rattle.linked_parts.specs.Parts.{Links}
use Rattle.plane_cells.specs.Steps.{links}
use Rattle.plane_cells.specs.Numbered.{numbered}
use Rattle.plane_cells.specs.Swept.{AreOthers}
use Rattle.plane_cells.specs.OtherNumbers.{IsOuterNumber, AreOtherNumbers, AreRead}
use Rattle.plane_cells.specs.ClassNumbers.{number_at, AreClassNumbers}
use Rattle.plane_cells.specs.OuterSides.{AreOuterSides}
use Rattle.plane_cells.specs.declared.classes.SideClasses.{SideClasses}
use Rattle.plane_cells.proofs.Numbering.{IsLabelled, linked_labels, sweep_of}
use Rattle.plane_cells.proofs.Sided.{slanted_of}
use Rattle.plane_cells.proofs.ShearedRealm.{realm_below}
use Rattle.plane_cells.proofs.AskedOuter.{IsAsked, outer_by_asked, asked_by_outer, beside_other}

pub other_numbers : (B : List GridSegment) (L : Links) (right labels : List ℕ) (T : List GridSegment) (Y numbers : List ℕ)
    → IsLabelled B L right labels T Y → AreOthers B T → length Y ≡ length T → AreRead labels Y numbers → AreOtherNumbers B T numbers
other_numbers B L right labels T Y numbers h o c a = record { one_each = a.one_each ∙ c; told = told }
  where
    told : (k : ℕ) (d : Side) → k < length T → (d ≡ On → ⊥) → IsOuterNumber B (numbered T k) d (slice_index numbers k)
    told k d short sided =
        let s = h.done in
        let t = numbered T k in
        let y = slice_index Y k in
        let w = sweep_of B L right h.realm T Y s in
        let p = s.asked k (omega (arith, short, c)) in
        let asked : IsAsked grid_side B s.steps t y = record { other = p.other; place = p.place; inside = p.inside; has = p.has } in
        let m = linked_labels (length B) L (links s.steps) labels s.links h.least in
        let read = a.each k (omega (arith, short, c)) in
        let low = (o.on_grid k short).1 in
        record {
          some = beside_other grid_side B t d (realm_below B h.realm) (o.other k short) (o.order k short) low (slanted_of d sided);
          outer = λ q b. (
            (λ none. outer_by_asked grid_side B s.steps (λ i. slice_index right i) t y d q w asked (o.order k short) low b
                (m.linked y 0 (s.known k) (omega arith) (sym read ∙ none ∙ sym m.zero))),
            λ outer. read ∙ m.same y 0 (s.known k) (omega arith)
                (asked_by_outer grid_side B s.steps (λ i. slice_index right i) t y d q w asked (o.order k short) low b outer) ∙ m.zero,
          );
        }

-- ---- answers
zero_true : (n : ℕ) → (n == 0) ≡ true → n ≡ 0
zero_true n h = grind arith

true_zero : (n : ℕ) → n ≡ 0 → (n == 0) ≡ true
true_zero n h = grind arith

pub tells_by : (B : List GridSegment) (s : GridSegment) (d : Side) (n : ℕ) (answer : Bool) → IsOuterNumber B s d n → answer ≡ (n == 0)
    → Tells B s d (IsOuter B) answer
tells_by B s d n answer h e = record {
  one = h.some;
  all = λ q b. ((λ yes. (h.outer q b).0 (zero_true n (sym e ∙ yes))), λ outer. e ∙ true_zero n ((h.outer q b).1 outer));
}

own_number : (B : List GridSegment) (numbers : List SideClasses) (i : ℕ) (s : GridSegment) (d : Side) → AreClassNumbers B numbers
    → i < length B → numbered B i ≡ s → (d ≡ On → ⊥) → IsOuterNumber B s d (number_at numbers i d)
own_number B numbers i s d h hi e sided = subst (λ t. IsOuterNumber B t d (number_at numbers i d)) e (record {
  some = let q = h.some i d hi sided in (q.0, q.1.beside);
  outer = λ q b. h.outer i d q (record { within = hi; sided = sided; beside = b });
})

-- of a segment of the border, by the two numbers of its sides
pub own_sides : (B : List GridSegment) (numbers : List SideClasses) (i : ℕ) (s : GridSegment) (n : SideClasses) → AreClassNumbers B numbers
    → i < length B → numbered B i ≡ s → n ≡ slice_index_or numbers i n
    → AreOuterSides B s (record { left = n.left == 0; right = n.right == 0 })
own_sides B numbers i s n h hi at e = record {
  left = tells_by B s Left n.left (n.left == 0)
      (subst (λ (m : SideClasses). IsOuterNumber B s Left m.left) (sym read) (own_number B numbers i s Left h hi at left_off)) refl;
  right = tells_by B s Right n.right (n.right == 0)
      (subst (λ (m : SideClasses). IsOuterNumber B s Right m.right) (sym read) (own_number B numbers i s Right h hi at right_off)) refl;
}
  where
    read : n ≡ slice_index_or numbers i (record { left = 0; right = 0 })
    read = e ∙ same_place numbers i n (record { left = 0; right = 0 }) (omega (arith, hi, h.one_each))

-- of another segment, by its one number
pub other_sides : (B T : List GridSegment) (numbers : List ℕ) (k : ℕ) (s : GridSegment) (n : ℕ) → AreOtherNumbers B T numbers
    → k < length T → numbered T k ≡ s → n ≡ slice_index_or numbers k n → AreOuterSides B s (record { left = n == 0; right = n == 0 })
other_sides B T numbers k s n h short at e = record {
  left = tells_by B s Left n (n == 0) (told Left left_off) refl;
  right = tells_by B s Right n (n == 0) (told Right right_off) refl;
}
  where
    read : n ≡ slice_index numbers k
    read = e ∙ same_place numbers k n 0 (omega (arith, short, h.one_each))

    told : (d : Side) → (d ≡ On → ⊥) → IsOuterNumber B s d n
    told d sided = subst (λ (m : ℕ). IsOuterNumber B s d m) (sym read)
        (subst (λ t. IsOuterNumber B t d (slice_index numbers k)) at (h.told k d short sided))

-- ---- lists of answers
pub zip_push : {A C : Type 0} (R : A → C → Type 0) (xs : List A) (ys : List C) (x : A) (y : C) → AllZip R xs ys → R x y
    → AllZip R (xs ++ x ∷ []) (ys ++ y ∷ [])
zip_push R [] [] x y h r = (r, tt)
zip_push R [] (z ∷ ys) x y h r = absurd h
zip_push R (z ∷ xs) [] x y h r = absurd h
zip_push R (z ∷ xs) (w ∷ ys) x y h r = (h.0, zip_push R xs ys x y h.1 r)
