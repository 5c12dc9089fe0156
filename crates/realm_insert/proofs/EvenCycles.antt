-- This file shows that each point is an end of an even number of the segments round cycles.
use Rattle.std.proofs.Common.{◌≡◌, ◌≢◌, ℕ, ◌+◌, ◌*◌, ◌%◌, Bool, true, false, cond, ◌||◌, List, [], ◌∷◌, ◌++◌, map, All}
use Rattle.std.proofs.Common.{count_by, if◌then◌else◌, refl, sym, ap, ap₂, ◌∙◌, arith}
use Rattle.std.specs.List.{sum_by, flat_map}
use Rattle.std.proofs.lemmas.Bool.Decides.{nat_tests}
use Rattle.std.proofs.lemmas.List.Elements.{All-head, All-tail}
use Rattle.std.proofs.lemmas.List.Sums.{sum_by-cons, sum_by-append}
use Rattle.grid_base.specs.Border.{is_end}
use Rattle.grid_base.specs.Point.{GridPoint, is_point, is_before}
use Rattle.line_grammar.specs.declared.command.At.{At}
use Rattle.realm_insert.specs.declared.asked.Ends.{Ends}
use Rattle.realm_insert.specs.Lines.{grid_point, ends, neighbours, neighbours_round, segment_between}

-- a sum over a list of images
sum-map : {X Y : Type 0} (g : Y → ℕ) (f : X → Y) (xs : List X) → sum_by g (map f xs) ≡ sum_by (λ x. g (f x)) xs
sum-map g f [] = refl
sum-map g f (x ∷ xs) =
    sum_by-cons g (f x) (map f xs) ∙ ap (λ n. g (f x) + n) (sum-map g f xs) ∙ sym (sum_by-cons (λ y. g (f y)) x xs)

-- the place with these coordinates
abbrev place : ℕ → ℕ → At
place x y = record { x = x; y = y }

module _ (p : GridPoint) where
  -- one where the place is p
  abbrev one : At → ℕ
  one v = cond (is_point (grid_point v) p) 1 0

  -- how many of the two places are p
  abbrev both : Ends → ℕ
  both e = one e.from + one e.to

  -- one where the segment between the places ends at p
  abbrev ending : Ends → ℕ
  ending e = cond (is_end p (segment_between e)) 1 0

  -- which is so where one of two places is p
  counted : (v w : GridPoint) → (v.x ≡ w.x → v.y ≡ w.y → ⊥)
      → cond (is_point v p || is_point w p) 1 0 ≡ cond (is_point v p) 1 0 + cond (is_point w p) 1 0
  counted v w two = by_tests (is_point v p) (is_point w p) refl refl
    where
      by_tests : (s t : Bool) → is_point v p ≡ s → is_point w p ≡ t → cond (s || t) 1 0 ≡ cond s 1 0 + cond t 1 0
      by_tests true true first second = absurd (two (grind (arith, nat_tests)) (grind (arith, nat_tests)))
      by_tests true false first second = refl
      by_tests false true first second = refl
      by_tests false false first second = refl

  in_order : (v w : GridPoint) (before : Bool) → (v.x ≡ w.x → v.y ≡ w.y → ⊥)
      → cond (is_end p (if before then record { a = v; b = w } else record { a = w; b = v })) 1 0
      ≡ cond (is_point v p) 1 0 + cond (is_point w p) 1 0
  in_order v w true two = counted v w two
  in_order v w false two = let turned = counted w v (λ x y. two (sym x) (sym y)) in omega (arith, turned)

  ends_once : (e : Ends) → e.from ≢ e.to → ending e ≡ both e
  ends_once e apart =
      let v = grid_point e.from in
      let w = grid_point e.to in
      in_order v w (is_before v w) (λ x y. apart (ap₂ (λ (a b : ℕ). place a b) x y))

  -- ---- along a path and round a cycle
  -- twice what is between, and once each end
  telescope : (v w : At) (path : List At)
      → (k : ℕ) × (sum_by both (neighbours (v ∷ (path ++ w ∷ []))) + one v + one w ≡ 2 * k)
  telescope v w [] =
      let whole = sum_by-cons both (ends v w) [] in
      (one v + one w, omega (arith, whole))
  telescope v w (u ∷ path) =
      let (k, is) = telescope u w path in
      let whole = sum_by-cons both (ends v u) (neighbours (u ∷ (path ++ w ∷ []))) in
      (one v + k, omega (arith, whole, is))

  round_even : (cycle : List At) → sum_by both (neighbours_round cycle) % 2 ≡ 0
  round_even [] = refl
  round_even (v ∷ cycle) = let (k, is) = telescope v v cycle in omega (arith, is)

  all_even : (cycles : List (List At)) → sum_by both (flat_map neighbours_round cycles) % 2 ≡ 0
  all_even [] = refl
  all_even (cycle ∷ cycles) =
      let whole = sum_by-append both (neighbours_round cycle) (flat_map neighbours_round cycles) in
      let first = round_even cycle in
      let rest = all_even cycles in
      omega (arith, whole, first, rest)

  same_sums : (list : List Ends) → All (λ e. e.from ≢ e.to) list → sum_by ending list ≡ sum_by both list
  same_sums [] apart = refl
  same_sums (e ∷ list) apart =
      let here = ends_once e (All-head (λ f. f.from ≢ f.to) e list apart) in
      let later = same_sums list (All-tail (λ f. f.from ≢ f.to) e list apart) in
      sum_by-cons ending e list ∙ ap₂ (λ (m n : ℕ). m + n) here later ∙ sym (sum_by-cons both e list)

  pub cycles_even : (cycles : List (List At)) → All (λ e. e.from ≢ e.to) (flat_map neighbours_round cycles)
      → count_by (is_end p) (map segment_between (flat_map neighbours_round cycles)) % 2 ≡ 0
  cycles_even cycles apart =
      let list = flat_map neighbours_round cycles in
      let sums : sum_by (λ s. cond (is_end p s) 1 0) (map segment_between list) ≡ sum_by both list =
      sum-map (λ s. cond (is_end p s) 1 0) segment_between list ∙ same_sums list apart in
      let even = all_even cycles in
      omega (arith, sums, even)
