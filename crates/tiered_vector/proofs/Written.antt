-- This file shows what a vector of numbers is after a write to the part of it that starts at a.
use Rattle.std.proofs.Common.{◌≡◌, ℕ, ◌-◌, ◌≤◌, List, ◌++◌, map, length, take, drop, ap, ◌∙◌, arith, length-append, append-nil}
use Rattle.std.proofs.lemmas.List.{take_all, drop_all, take_rest, length-drop, length-map, length-take-le}
use borrow.Rule.Slice.PartMut.{put_mid}

-- what is written back is all of the vector
written_back : (items ws : List ℕ) (n : ℕ) → n ≡ length items → length ws ≡ n → take n (ws ++ drop (length ws) items) ≡ ws
written_back items ws n len same =
    ap (λ (l : List ℕ). take n (ws ++ l)) (drop_all (length ws) items (omega arith))
    ∙ ap (take n) (append-nil ws) ∙ take_all n ws (omega arith)

-- nothing stands behind the part
part_last : (xs ys : List ℕ) (a : ℕ) → put_mid a (length xs - a) xs ys ≡ take a xs ++ ys
part_last xs ys a =
    ap (λ (l : List ℕ). take a xs ++ (ys ++ l)) (drop_all (length xs - a) (drop a xs) (omega (arith, length-drop a xs)))
    ∙ ap (λ (l : List ℕ). take a xs ++ l) (append-nil ys)

module _ (f : ℕ → ℕ) (items xs ys : List ℕ) (n a : ℕ) (len : n ≡ length items) (same : xs ≡ items) (within : a ≤ length xs)
    (is : ys ≡ map f (take (length xs - a) (drop a xs))) where
  mapped : ys ≡ map f (drop a xs)
  mapped = is ∙ ap (map f) (take_rest xs a)

  pub written : take n (put_mid a (length xs - a) xs ys ++ drop (length (put_mid a (length xs - a) xs ys)) items)
      ≡ take a items ++ map f (drop a items)
  written =
      let all : length (put_mid a (length xs - a) xs ys) ≡ n =
      omega (
        arith,
        ap length (part_last xs ys a),
        length-append (take a xs) ys,
        length-take-le a xs within,
        ap length mapped,
        length-map (drop a xs) f,
        length-drop a xs,
        ap length same,
        len,
      ) in
      written_back items (put_mid a (length xs - a) xs ys) n len all
      ∙ part_last xs ys a
      ∙ ap (λ (l : List ℕ). take a xs ++ l) mapped
      ∙ ap (λ (l : List ℕ). take a l ++ map f (drop a l)) same
