-- This file shows that lists of points compare as IsListBefore says.
use Rattle.std.proofs.Common.{◌≡◌, ℕ, zero, suc, ◌<◌, true, List, [], ◌∷◌, length, get_or, Any, refl, ap, ◌∙◌, inl, inr, arith}
use Rattle.std.specs.Ordering.{is_lt, ordering_then}
use Rattle.std.specs.Cmp.Lexicographic.{slice_cmp}
use Rattle.grid_base.specs.Point.{GridPoint, point_cmp}
use Rattle.grid_base.proofs.Orders.{point_cmp-Less, point_cmp-Equal}
use Rattle.r_faces.specs.Turned.{IsListBefore}

pub list_before_is : (c d : List GridPoint) → IsListBefore c d → is_lt (slice_cmp point_cmp c d) ≡ true
list_before_is [] [] before = absurd before
list_before_is [] (q ∷ d) before = refl
list_before_is (p ∷ c) [] before = absurd before
list_before_is (p ∷ c) (q ∷ d) before = elim before [
  | inl first ↦ ap (λ o. is_lt (ordering_then o (slice_cmp point_cmp c d))) ((point_cmp-Less p q).1 first)
  | inr rest ↦
      ap (λ o. is_lt (ordering_then o (slice_cmp point_cmp c d))) ((point_cmp-Equal p q).1 rest.0) ∙ list_before_is c d rest.1
]

-- what holds of the element at a place holds of some
pub any_at : {X : Type 0} (xs : List X) (k : ℕ) → k < length xs → (P : X → Type 0) → ((d : X) → P (get_or xs k d)) → Any P xs
any_at {X} xs k within P h = found (element xs k within)
  where
    element : (ys : List X) (j : ℕ) → j < length ys → X
    element [] j l = absurd (omega (arith, l))
    element (y ∷ ys) j l = y

    found : X → Any P xs
    found d = (k, get_or xs k d, within, itself xs k d within, h d)
      where
        itself : (ys : List X) (j : ℕ) (d : X) → j < length ys → get_or ys j (get_or ys j d) ≡ get_or ys j d
        itself [] j d l = absurd (omega (arith, l))
        itself (y ∷ ys) zero d l = refl
        itself (y ∷ ys) (suc j) d l = itself ys j d (omega (arith, l))
