-- This file shows which places stand next to each other where a path is read from its front.
use Rattle.std.proofs.Common.{◌≡◌, ℕ, suc, zero, ◌+◌, ◌-◌, ◌<◌, List, [], ◌∷◌, ◌++◌, length, get_or, take, refl, ap, arith}
use Rattle.std.specs.List.{flat_map}
use Rattle.std.proofs.lemmas.List.{take_more, flat_map_more}
use Rattle.line_grammar.specs.declared.command.At.{At}
use Rattle.realm_insert.specs.declared.asked.Ends.{Ends}
use native.Mathlib.Numerals.{unary_clauses}
use Rattle.realm_insert.specs.Lines.{ends, neighbours, neighbours_round}

-- what the items so far give, and the next one
pub flat_map_next : {X A : Type 0} (f : X → List A) (xs : List X) (i : ℕ) (x : X) → i < length xs → x ≡ get_or xs i x
    → flat_map f (take i xs) ++ f x ≡ flat_map f (take (i + 1) xs)
flat_map_next f xs i x within is =
    rw (take_more xs i x within, ← is) (flat_map_more f [] (take i xs) x)

-- one place more has the place before it for a neighbour
pub neighbours_next : (path : List At) (i : ℕ) (d : At) → 0 < i → i < length path
    → neighbours (take (i + 1) path) ≡ neighbours (take i path) ++ ends (get_or path (i - 1) d) (get_or path i d) ∷ []
neighbours_next [] i d above within = absurd (omega arith)
neighbours_next (p ∷ path) zero d above within = absurd (omega arith)
neighbours_next (p ∷ []) (suc i) d above within = absurd (omega arith)
neighbours_next (p ∷ q ∷ path) (suc zero) d above within = refl
neighbours_next (p ∷ q ∷ path) (suc (suc i)) d above within =
    simp unary_clauses (simp unary_clauses at (ap (λ (l : List Ends). ends p q ∷ l)
    (neighbours_next (q ∷ path) (suc i) d (omega arith) (omega arith))))

-- the last place of a cycle is followed by the first
closed : (p q d : At) (cycle : List At) → neighbours (p ∷ (cycle ++ q ∷ []))
    ≡ neighbours (p ∷ cycle) ++ ends (get_or (p ∷ cycle) (length cycle) d) q ∷ []
closed p q d [] = refl
closed p q d (r ∷ cycle) = ap (λ l. ends p r ∷ l) (closed r q d cycle)

pub round_is : (cycle : List At) (d : At) → 0 < length cycle → neighbours_round cycle
    ≡ neighbours cycle ++ ends (get_or cycle (length cycle - 1) d) (get_or cycle 0 d) ∷ []
round_is [] d some = absurd (omega arith)
round_is (p ∷ cycle) d some = simp unary_clauses (closed p p d cycle)
