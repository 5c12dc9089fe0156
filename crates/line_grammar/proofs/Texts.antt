-- This file shows how the text of lists begins.
use Rattle.std.proofs.Common.{◌≡◌, ◌≤◌, ◌-◌, List, [], ◌∷◌, ◌++◌, length, take, drop, get_or, sym, ap, ◌∙◌, arith}
use Rattle.std.specs.Prelude.{codes, ℕ}
use Rattle.std.specs.List.{flat_map}
use Rattle.std.proofs.lemmas.List.{append-nil, take_all}
use Rattle.std.proofs.lemmas.List.Concat.{flat_map-cons}
use Rattle.line_grammar.specs.declared.command.At.{At}
use Rattle.line_grammar.specs.Pieces.{points, next_list, lists}

-- the first list, and each other behind a semicolon
lists-first : (ps : List At) (more : List (List At)) → lists (ps ∷ more) ≡ points ps ++ flat_map next_list more
lists-first ps [] = sym (append-nil (points ps))
lists-first ps (qs ∷ more) =
    ap (λ (t : List ℕ). points ps ++ (codes " ;" ++ t)) (lists-first qs more)
    ∙ ap (λ (t : List ℕ). points ps ++ t) (sym (flat_map-cons next_list qs more))

-- all lists but the first
abbrev pub others : List (List At) → List (List At)
others ls = take (length ls - 1) (drop 1 ls)

others-cons : (ps : List At) (more : List (List At)) → others (ps ∷ more) ≡ more
others-cons ps more = take_all (length (ps ∷ more) - 1) more (omega arith)

pub lists-others : (ls : List (List At)) (first : List At) → 1 ≤ length ls → first ≡ get_or ls 0 first
    → lists ls ≡ points first ++ flat_map next_list (others ls)
lists-others [] first some is = absurd (omega (arith, some))
lists-others (ps ∷ more) first some is =
    lists-first ps more ∙ ap (λ (qs : List At). points qs ++ flat_map next_list more) (sym is)
    ∙ ap (λ (qs : List (List At)). points first ++ flat_map next_list qs) (sym (others-cons ps more))
